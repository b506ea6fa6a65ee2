-- What `transmit` answers and leaves: document 01's refusals in their order, 2 then 1, else the frame.
use Rattle.std.specs.Prelude.{cond, ◌&&◌, List, ℕ, leb, length, Result, Ok, Err}
use Rattle.numbers.specs.Numbers as number
use Rattle.numbers.specs.Answers.{refusal_number}
use Rattle.numbers.specs.declared.Refusal.{Refusal}
use Rattle.parts.specs.Parts.{put}
use Rattle.transmitter.specs.Frame.{framed}

-- what a transmission gives: the number, and how many bytes were written
pub record Sent : Type 0 where
  pub number : ℕ
  pub count : ℕ

-- the paper's number for each of its cases
abbrev pub sent_of : Result ℕ Refusal → Sent
sent_of (Ok n) = record { number = number.has_frame; count = n }
sent_of (Err r) = record { number = refusal_number r; count = 0 }

-- a body of 2 to 16 bytes, else 2; an output of 24 bytes, else 1
abbrev pub unless_refused : {A : Type 0} → List ℕ → List ℕ → (ℕ → A) → A → A
unless_refused body output refused done =
    cond (leb number.body_least (length body) && leb (length body) number.body_most)
    (cond (leb number.cable_most (length output)) done (refused number.short_output))
    (refused number.bad_body)

-- the number, and the count of bytes written (refused: 0)
unfoldable pub transmitted : List ℕ → List ℕ → Sent
transmitted body output =
    unless_refused body output (λ n. record { number = n; count = 0 }) (record { number = number.has_frame; count = length (framed body) })

-- the frame stands at the front of the output, and the bytes after it are unchanged
unfoldable pub output_after : List ℕ → List ℕ → List ℕ
output_after body output = unless_refused body output (λ n. output) (put 0 (framed body) output)
