-- What `receive` answers and leaves: document 01's refusals in their order, 6, 8, 9, 1, else the reading's first answer.
use Rattle.std.specs.Prelude.{cond, List, [], ℕ, ◌*◌, ◌-◌, ◌/◌, ◌%◌, eqb, ltb, leb, length, take, drop}
use Rattle.numbers.specs.Numbers as number
use Rattle.parts.specs.Parts.{put}
use Rattle.wire.specs.Bits.{wire, pack}
use Rattle.wire.specs.Fcs.{register, preset, residue}
use Rattle.receiver.specs.Receiver.{State, Stop, hunting, opened, ended, runs, view, image, in_range}
use Rattle.receiver.specs.declared.Receiver.{Receiver}
use Rattle.receiver.specs.Received.{Received}

-- an answer: the number, and the body that comes with 0
pub record Answer : Type 0 where
  pub number : ℕ
  pub body : List ℕ

abbrev pub bare : ℕ → Answer
bare n = record { number = n; body = [] }

-- at a flag: content under 32 bits is passed over without an answer; over 144 bits is 21; not a multiple of 8 is 22; FCS wrong is 23
unfoldable pub at_flag : List ℕ → Answer
at_flag content =
    cond (ltb (length content) 32) (bare number.no_frame)
    (cond (ltb 144 (length content)) (bare number.long_content)
    (cond (eqb (length content % 8) 0)
    (cond (eqb (register preset content) residue) (record { number = number.has_frame; body = take (length content / 8 - 2) (pack content) }) (bare number.wrong_fcs))
    (bare number.broken_content)))

-- what a reading gives: its answer, the state it leaves, the bits consumed
pub record Reading : Type 0 where
  pub answer : Answer
  pub state : State
  pub consumed : ℕ

-- if the bits run out: 17; a flag answers by its content and opens the next frame; a seventh one is 24, and the receiver hunts
abbrev pub concluded : Stop → Reading
concluded p =
    cond (eqb p.hit 0) (record { answer = bare number.no_frame; state = p.state; consumed = p.used })
    (cond (eqb p.hit 1) (record { answer = at_flag (take (ended p.state 0) p.state.content); state = opened; consumed = p.used })
    (record { answer = bare number.aborted; state = hunting; consumed = p.used }))

-- the first answer of a receiver over bits
unfoldable pub reading : State → List ℕ → Reading
reading s bits = concluded (runs s 0 bits)

-- a receiver in range, else 6; an input of at most 65,536 bytes, else 8; a start bit in it or at its end, else 9; an output of 16 bytes, else 1
abbrev pub unless_refused : {A : Type 0} → Receiver → List ℕ → ℕ → List ℕ → (ℕ → A) → A → A
unless_refused rx input start output refused done =
    cond (in_range rx)
    (cond (leb (length input) number.input_most)
    (cond (leb start (8 * length input))
    (cond (leb number.output_least (length output)) done (refused number.short_output))
    (refused number.bad_start))
    (refused number.long_input))
    (refused number.bad_state)

abbrev pub read_from : Receiver → List ℕ → ℕ → Reading
read_from rx input start = reading (view rx) (drop start (wire input))

abbrev pub received_as : Reading → Received
received_as r =
    record { rx = image r.state; number = r.answer.number; consumed = r.consumed; length = length r.answer.body }

-- a refused call returns the receiver as it came; consumed and length are 0
unfoldable pub received : Receiver → List ℕ → ℕ → List ℕ → Received
received rx input start output =
    unless_refused rx input start output (λ n. record { rx = rx; number = n; consumed = 0; length = 0 }) (received_as (read_from rx input start))

-- a body stands at the front of the output; no other byte there changes
unfoldable pub output_after : Receiver → List ℕ → ℕ → List ℕ → List ℕ
output_after rx input start output =
    unless_refused rx input start output (λ n. output) (put 0 (read_from rx input start).answer.body output)
