-- What a call answers, as document 01 has it: a number, and what comes with it. Code has a value of an enum in place of each number but 0 and 17.
use Rattle.std.specs.Prelude.{ℕ, Result, Ok, Err}
use Rattle.numbers.specs.Numbers.{has_frame, no_frame}
use Rattle.numbers.specs.Answers.{refusal_number, silence_number}
use Rattle.numbers.specs.declared.Refusal.{Refusal}
use Rattle.chip.specs.declared.Frame.{Frame}
use Rattle.adapter.specs.declared.NoFrame.{NoFrame}
use Rattle.adapter.specs.declared.NoFrame.TheVariants as none

-- an event's answer: the number, and with number 0 the port and the length of the frame in the output
pub record Answer : Type 0 where
  pub number : ℕ
  pub port : ℕ
  pub length : ℕ

-- how many events can be taken back
pub record KeptNumber : Type 0 where
  pub number : ℕ
  pub kept : ℕ

-- whether a call is refused, and by which number
pub data Verdict : Type 0 where
  Refused : (number : ℕ) → Verdict
  Passed : Verdict

-- a number with no frame
abbrev pub plain : ℕ → Answer
plain number = record { number = number; port = 0; length = 0 }

-- ---- the number of each answer of code

-- of a call that answers nothing else: 17 where it is done
abbrev pub number_after : Result Unit Refusal → ℕ
number_after (Ok done) = no_frame
number_after (Err r) = refusal_number r

abbrev pub no_frame_number : NoFrame → ℕ
no_frame_number (none.Refused r) = refusal_number r
no_frame_number (none.Silent s) = silence_number s

abbrev pub answer_of : Result Frame NoFrame → Answer
answer_of (Ok f) = record { number = has_frame; port = f.port; length = f.length }
answer_of (Err e) = plain (no_frame_number e)

abbrev pub kept_number : Result ℕ Refusal → KeptNumber
kept_number (Ok kept) = record { number = no_frame; kept = kept }
kept_number (Err r) = record { number = refusal_number r; kept = 0 }

abbrev pub verdict_of : Result Unit Refusal → Verdict
verdict_of (Ok passed) = Passed
verdict_of (Err r) = Refused (refusal_number r)
