-- Calls of `receive`: one that is not refused, and several, each going on where the last one stopped.
use Rattle.std.specs.Prelude.{◌≡◌, true, cond, List, [], ◌∷◌, ℕ, zero, suc, ◌+◌, ◌*◌, ◌≤◌, eqb, length, take, drop}
use Rattle.promises.specs.Wire.{hunter}
use Rattle.numbers.specs.Numbers as number
use Rattle.parts.specs.Parts.{put}
use Rattle.receiver.specs.declared.Receiver.{Receiver}
use Rattle.receiver.specs.Received.{Received}
use Rattle.wire.specs.Bits.{wire}
use Rattle.receiver.specs.Receiver.{State, next, ended, decides, in_range}
use Rattle.receiver.specs.Receive.{Answer, bare, at_flag, Reading, received, received_as, output_after}

-- a call that is not refused
pub record Accepted (rx : Receiver) (input : List ℕ) (start : ℕ) (output : List ℕ) : Type 0 where
  pub range : in_range rx ≡ true
  pub size : length rx.bytes ≡ 20
  pub short : length input ≤ number.input_most
  pub inside : start ≤ 8 * length input
  pub room : number.output_least ≤ length output

-- its result and the output's bytes afterwards are those of a reading
pub record Gives (rx : Receiver) (input : List ℕ) (start : ℕ) (output : List ℕ) (r : Reading) : Type 0 where
  pub result : received rx input start output ≡ received_as r
  pub bytes : output_after rx input start output ≡ put 0 r.answer.body output

-- what a second call gives, the bits of the first counted in
abbrev pub on_from : Received → Received → Received
on_from first second =
    record { rx = second.rx; number = second.number; consumed = first.consumed + second.consumed; length = second.length }

-- several calls over one buffer, each from the bit after those consumed: their answers, and what the next would be given
pub record Place : Type 0 where
  pub answers : List Answer
  pub rx : Receiver
  pub start : ℕ
  pub output : List ℕ

-- the answer that a result and the output's bytes afterwards tell: the body is at the front of the output
abbrev pub told : Received → List ℕ → Answer
told r output = record { number = r.number; body = take r.length output }

abbrev pub answering : Answer → Place → Place
answering a p = record { answers = a ∷ p.answers; rx = p.rx; start = p.start; output = p.output }

unfoldable pub receives : ℕ → Receiver → List ℕ → ℕ → List ℕ → Place
receives zero rx input start output = record { answers = []; rx = rx; start = start; output = output }
receives (suc n) rx input start output =
    answering (told (received rx input start output) (output_after rx input start output))
    (receives n (received rx input start output).rx input (start + (received rx input start output).consumed) (output_after rx input start output))

-- those that are answers; 17 is none
unfoldable pub spoken : List Answer → List Answer
spoken [] = []
spoken (a ∷ more) = cond (eqb a.number number.no_frame) (spoken more) (a ∷ spoken more)

-- a body has 2 to 16 bytes, and comes with 0 alone
pub record Sized (a : Answer) : Type 0 where
  pub most : length a.body ≤ number.body_most
  pub least : a.number ≡ number.has_frame → number.body_least ≤ length a.body
  pub other : (a.number ≡ number.has_frame → ⊥) → a.body ≡ []

-- what a receiver gives that goes on hunting through all its bits: 17
pub record StillHunts (rx : Receiver) (input : List ℕ) (start : ℕ) (output : List ℕ) : Type 0 where
  pub ones : ℕ
  pub few : ones ≤ 7
  pub gives : Gives rx input start output
      (record { answer = bare number.no_frame; state = hunter ones; consumed = length (drop start (wire input)) })

-- ---- all the answers along a cable

-- the answer at a bit that decides
abbrev pub verdict : State → ℕ → Answer
verdict s b = cond (eqb b 0) (at_flag (take (ended s 0) s.content)) (bare number.aborted)

-- the answers along bits, a bit at a time: those of calls that come to the end (`answers_along`)
unfoldable pub heard : State → List ℕ → List Answer
heard s [] = []
heard s (b ∷ bs) = cond (decides s b) (verdict s b ∷ heard (next s b) bs) (heard (next s b) bs)
