-- DOCUMENT 02, "TWO HUNDRED STEPS": of the two sizes and of the enlarging call, for every input; and of a run that goes on with the enlarged journal,
-- beside the same run with the small one. That 64 and 200 are kept is demand 3's (`Runs`, and `up_to_64`, `up_to_200` in `proofs/KeptNumber`).
use Rattle.std.specs.Prelude.{ℕ, ◌+◌, ◌*◌, ◌<◌, ◌≡◌, true, false, List, [], ◌∷◌, ◌↔◌, length, get_or}
use Rattle.numbers.specs.Numbers as number
use Rattle.state.specs.State.{Adapter}
use Rattle.state.specs.Bytes.{is_state}
use Rattle.chip.specs.Event.{Event}
use Rattle.journal.specs.Layout.{well_formed, past}
use Rattle.adapter.specs.Calls.{made_empty, kept_in, copied, made_large, outcome, called, stepped, stepped_back}
use Rattle.adapter.specs.Answers.{plain}
use Rattle.batch.specs.declared.Sample.{Sample}
use Rattle.batch.specs.Batch as batches
use Rattle.promises.specs.Runs.{Call, is_enlarging, Given, Calls}

-- ---- "known by its length and version"

-- the header's version, low byte first
abbrev pub version_in : List ℕ → ℕ
version_in j = get_or j 3 0 + 256 * get_or j 4 0

pub data Agree (j : List ℕ) : Type 0 where
  version_1 : length j ≡ 17408 → version_in j ≡ 1 → Agree j
  version_2 : length j ≡ 52224 → version_in j ≡ 2 → Agree j

-- "length and version that don't agree are 4": by every call that reads a journal, and nothing changes. Events, batches and steps back
-- first look at the state.
pub record Damaged (j : List ℕ) : Type 0 where
  pub an_event : (s : List ℕ) (e : Event) (output : List ℕ) → is_state s ≡ true → called s j e output ≡ outcome (plain number.bad_journal) s j output
  pub a_batch : (s : List ℕ) (list : List Sample) (output : List ℕ) → is_state s ≡ true
      → batches.called s j list output ≡ batches.outcome (batches.bare number.bad_journal) s j output
  pub a_step_back : (s : List ℕ) → is_state s ≡ true → stepped_back s j ≡ stepped number.bad_journal s j
  pub a_counting : kept_in j ≡ record { number = number.bad_journal; kept = 0 }
  pub an_enlarging : (second : List ℕ) → made_large j second ≡ copied number.bad_journal j second

-- "Emptying goes by the length."
pub record EmptyByLength (j : List ℕ) : Type 0 where
  pub done : (made_empty j).number ≡ number.no_frame
  pub size : length (made_empty j).bytes ≡ length j
  pub agree : Agree (made_empty j).bytes
  pub kept : kept_in (made_empty j).bytes ≡ record { number = number.no_frame; kept = 0 }

-- ---- "a call turns one into version 2 in a second buffer with the same steps kept"

pub record Enlarging (j second : List ℕ) : Type 0 where
  -- granted for a small journal and a second buffer of 52,224 bytes, and for nothing else
  pub granted : ((made_large j second).number ≡ number.no_frame) ↔ ((well_formed j ≡ true) × (length j ≡ 17408) × (length second ≡ 52224))
  -- what is no small journal is 4: "a large journal given for enlarging" too,
  pub not_small : ((well_formed j ≡ true) × (length j ≡ 17408) → ⊥) → made_large j second ≡ copied number.bad_journal j second
  pub large : length j ≡ 52224 → made_large j second ≡ copied number.bad_journal j second
  -- "a second buffer not of 52,224 bytes is 1, after 4"
  pub after_4 : well_formed j ≡ true → length j ≡ 17408 → (length second ≡ 52224 → ⊥) → made_large j second ≡ copied number.short_output j second
  -- the first is as it was, refused or not
  pub first : (made_large j second).first ≡ j

-- what a granted one leaves
pub record Enlarged (j large : List ℕ) : Type 0 where
  pub size : length large ≡ 52224
  pub agree : Agree large
  -- "the kept number staying as it was"
  pub kept : kept_in large ≡ kept_in j
  -- "the same steps": every record, in its order; so a step back by either gives the same number and the same state, whatever state it is handed
  pub records : (i : ℕ) → i < (kept_in j).kept → past large i ≡ past j i
  pub steps_back : (s : List ℕ) → ((stepped_back s large).number ≡ (stepped_back s j).number) × ((stepped_back s large).state ≡ (stepped_back s j).state)

-- ---- a run that goes on

-- what calls give, and the state that each leaves
pub record Shown : Type 0 where
  pub gives : Given
  pub state : Adapter

abbrev pub shown : (c : Calls) → c.Pair → List Call → List Shown
shown c p [] = []
shown c p (k ∷ ks) = record { gives = c.gives p k; state = c.state (c.leaves p k) } ∷ shown c (c.leaves p k) ks

-- events, batches, steps back and emptyings,
abbrev pub NoneEnlarges : List Call → Type 0
NoneEnlarges [] = Unit
NoneEnlarges (k ∷ ks) = (is_enlarging k ≡ false) × NoneEnlarges ks

-- of which none gives 5
abbrev pub BeforeFive : (c : Calls) → c.Pair → List Call → Type 0
BeforeFive c p [] = Unit
BeforeFive c p (k ∷ ks) = ((c.gives p k).number ≡ number.none_kept → ⊥) × BeforeFive c (c.leaves p k) ks
