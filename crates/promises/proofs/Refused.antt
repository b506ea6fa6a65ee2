-- DEMAND 1: "A refused call returns the number that document 01 gives and changes no state, no journal byte and no output byte." Of every
-- delivered call, for every input. Which number it is stands in the calls' definitions. Assumes nothing.
use Prim.Native.Nat.{ℕ}
use mathlib.Core.Path.{◌≡◌, refl, sym, ◌∙◌}
use mathlib.Core.List.{List}
use mathlib.Core.Bool.{true, false, false≢true}
use lib.Dec.{eqb}
use lib.ListN.{length, drop}
use Rattle.wire.specs.Bits.{wire}
use Rattle.receiver.specs.Receiver.{State, runs, view}
use Rattle.receiver.specs.Receive.{reading, received}
use Rattle.receiver.specs.Receive as receive
use Rattle.transmitter.specs.Transmit.{transmitted}
use Rattle.transmitter.specs.Transmit as transmit
use Rattle.receiver.specs.declared.Receiver.{Receiver}
use Rattle.state.specs.Bytes.{link_of, state_in}
use Rattle.chip.specs.Event.{Event}
use Rattle.chip.proofs.Laws.{number_given}
use Rattle.adapter.specs.Calls.{created, made_empty, copied, made_large, outcome, done, called, stepped, stepped_back}
use Rattle.adapter.specs.Answers.{plain}
use Rattle.batch.specs.declared.Sample.{Sample}
use Rattle.batch.specs.Batch.{Batch}
use Rattle.batch.specs.Batch as batches
use Rattle.bits.proofs.Tests.{either}
use Rattle.promises.specs.Runs.{is_refusal}
use Rattle.promises.proofs.Cases.{no_refusal, event_cases, batch_cases, back_cases, empty_cases, enlarge_cases, create_cases, transmit_cases, receive_cases}
use Rattle.promises.proofs.Steps.{at_flag_cases, concluded_cases}

-- ---- the adapter

module _ (s : List ℕ) (j : List ℕ) (e : Event) (o : List ℕ) where
  -- an event: the state, the journal and the output as they came
  pub event_unchanged : is_refusal (called s j e o).answer.number ≡ true → called s j e o ≡ outcome (plain (called s j e o).answer.number) s j o
  unfolding done
  event_unchanged =
      event_cases s j e o (λ x. is_refusal x.answer.number ≡ true → x ≡ outcome (plain x.answer.number) s j o) (λ n r h. refl)
      (λ q h. absurd (no_refusal _ (number_given (state_in s) e) h))

-- a batch that is done gives 0 or 17
pub batch_answer : (P : ℕ → Type 0) → P 0 → P 17 → (port : ℕ) (bodies : List (List ℕ)) → P (batches.answered port bodies).number
batch_answer P p q port bodies = either (λ (b : Batch). P b.number) (eqb (length bodies) 0) _ _ q p

-- a batch: the state, the journal and the output as they came
module _ (s j : List ℕ) (list : List Sample) (o : List ℕ) where
  pub batch_unchanged : is_refusal (batches.called s j list o).answer.number ≡ true
      → batches.called s j list o ≡ batches.outcome (batches.bare (batches.called s j list o).answer.number) s j o
  batch_unchanged =
      batch_cases s j list o (λ x. is_refusal x.answer.number ≡ true → x ≡ batches.outcome (batches.bare x.answer.number) s j o) (λ n r h. refl)
      (λ q h. absurd (batch_answer (λ n. is_refusal n ≡ true → ⊥) false≢true false≢true (link_of s).port (batches.one_by_one s j list).bodies h))

-- a step back
pub back_unchanged : (s j : List ℕ) → is_refusal (stepped_back s j).number ≡ true → stepped_back s j ≡ stepped (stepped_back s j).number s j
back_unchanged s j =
    back_cases s j (λ x. is_refusal x.number ≡ true → x ≡ stepped x.number s j) (λ n r h. refl) (λ _ _ _ h. absurd (false≢true h))

-- the emptying call
pub empty_unchanged : (j : List ℕ) → is_refusal (made_empty j).number ≡ true → (made_empty j).bytes ≡ j
empty_unchanged j = empty_cases j (λ m. is_refusal m.number ≡ true → m.bytes ≡ j) (λ n r h. refl) (λ h. absurd (false≢true h))

-- the enlarging call: the number alone; its first buffer stays, refused or not
pub enlarge_unchanged : (j second : List ℕ) → is_refusal (made_large j second).number ≡ true
    → made_large j second ≡ copied (made_large j second).number j second
enlarge_unchanged j second =
    enlarge_cases j second (λ x. is_refusal x.number ≡ true → x ≡ copied x.number j second) (λ n r h. refl) (λ _ _ h. absurd (false≢true h))

-- creation: no adapter, the bytes as they came
pub create_unchanged : (s : List ℕ) (id : ℕ) → is_refusal (created s id).number ≡ true → (created s id).bytes ≡ s
create_unchanged s id = create_cases s id (λ m. is_refusal m.number ≡ true → m.bytes ≡ s) (λ n r h. refl) (λ q h. absurd (false≢true h))

-- ---- the link

-- a transmitter: no byte written
pub record Untouched (body output : List ℕ) : Type 0 where
  pub bytes : transmit.output_after body output ≡ output
  pub count : (transmitted body output).count ≡ 0

pub transmit_unchanged : (body output : List ℕ) → is_refusal (transmitted body output).number ≡ true → Untouched body output
transmit_unchanged body output h =
    let u =
    transmit_cases body output (λ x o. is_refusal x.number ≡ true → (o ≡ output) × (x.count ≡ 0)) (λ n r q. (refl, refl)) (λ q. absurd (false≢true q)) h in
    record { bytes = u.0; count = u.1 }

-- the numbers that a reading answers
module _ (P : ℕ → Type 0) (p0 : P 0) (p17 : P 17) (p21 : P 21) (p22 : P 22) (p23 : P 23) (p24 : P 24) where
  pub reading_number : (s : State) (bits : List ℕ) → P (reading s bits).answer.number
  unfolding reading
  reading_number s bits =
      concluded_cases (λ r. P r.answer.number) (runs s 0 bits) (λ _. p17)
      (λ _ _. at_flag_cases (λ a. P a.number) _ (λ _. p17) (λ _. p21) (λ _ _ _ _. p0) p23 p22) (λ _. p24)

-- are no refusals
reading_answer : (s : State) (bits : List ℕ) → is_refusal (reading s bits).answer.number ≡ false
reading_answer s bits = reading_number (λ n. is_refusal n ≡ false) refl refl refl refl refl refl s bits

-- a receiver: it and the output as they came, no bit consumed
pub record Unmoved (rx : Receiver) (input : List ℕ) (start : ℕ) (output : List ℕ) : Type 0 where
  pub receiver_same : (received rx input start output).rx ≡ rx
  pub consumed : (received rx input start output).consumed ≡ 0
  pub body : (received rx input start output).length ≡ 0
  pub bytes : receive.output_after rx input start output ≡ output

module _ (rx : Receiver) (input : List ℕ) (start : ℕ) (output : List ℕ) where
  pub receive_unchanged : is_refusal (received rx input start output).number ≡ true → Unmoved rx input start output
  receive_unchanged h =
      let u = receive_cases rx input start output
      (λ x o. is_refusal x.number ≡ true → (x.rx ≡ rx) × (x.consumed ≡ 0) × (x.length ≡ 0) × (o ≡ output)) (λ n r q. (refl, refl, refl, refl))
      (λ r i s o q. absurd (false≢true (sym (reading_answer (view rx) (drop start (wire input))) ∙ q))) h in
      record { receiver_same = u.0; consumed = u.1; body = u.2; bytes = u.3 }
