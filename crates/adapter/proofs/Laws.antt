-- The laws of the public calls, for what stands above them: what an event that is not refused leaves to be taken back, and what a step
-- back makes of it. A journal that is well formed stays so. Assumes nothing.
use Prim.Native.Nat.{ℕ, suc, ◌+◌, min, ◌<◌}
use mathlib.Core.Path.{◌≡◌, refl, sym, ap}
use mathlib.Core.Bool.{Bool, true, false, not, cond}
use mathlib.Core.List.{List, ◌++◌}
use lib.ListN.{length}
use lib.Dec.{eqb, ltb}
use Rattle.bits.proofs.Tests.{either}
use Rattle.state.specs.State.{Adapter}
use Rattle.state.specs.Bytes.{state_bytes, is_state}
use Rattle.state.proofs.Good.{Good}
use Rattle.chip.specs.Answer.{Reaction, laid}
use Rattle.chip.specs.Event.{Event}
use Rattle.chip.specs.Chip.{reaction, accepted_reset}
use Rattle.chip.proofs.EventFits.{EventFits}
use Rattle.chip.proofs.Bodies.{silent}
use Rattle.journal.specs.Layout.{slots_of, wrong_length, kept_of, past, emptied, pushed, lowered, enlarged}
use Rattle.journal.specs.Record.{before, restored, sound}
use Rattle.journal.proofs.Record.{length_before, taken_back, sound_back}
use Rattle.journal.proofs.Enlarged.{small_by_slots}
use Rattle.journal.proofs.Ring.{Well, well_of, emptied_well, emptied_slots, emptied_kept, behind, pushed_well, pushed_slots, pushed_kept, pushed_newest, pushed_older}
use Rattle.adapter.specs.Answers.{Refused, Passed, plain}
use Rattle.adapter.specs.Refusals.{wrong_argument, wrong_body, in_order, verdict}
use Rattle.adapter.proofs.Cases.{back_none, back_tried}
use Rattle.adapter.specs.Calls.{outcome, recorded, done, called, stepped, stepped_back, made, made_empty, copied, made_large}

-- ---- an event

module _ (s : List ℕ) (j : List ℕ) (e : Event) (o : List ℕ) where
  pub called_refused : (n : ℕ) → verdict s j e o ≡ Refused n → called s j e o ≡ outcome (plain n) s j o
  unfolding called
  called_refused n h = rw h refl

  pub called_done : verdict s j e o ≡ Passed → called s j e o ≡ done s j e o
  unfolding called
  called_done h = rw h refl

  -- for a state and a well formed journal, only the event's own arguments and the output can be refused
  pub own_refusals : is_state s ≡ true → Well j → verdict s j e o ≡ in_order false false (ltb (length o) 16) (wrong_argument e) (wrong_body e)
  unfolding verdict
  own_refusals h w = rw (h, well_of w) refl

-- with any other number than 0 the output is unchanged
pub unsent : (a : Adapter) (e : Event) (o : List ℕ) → ((reaction a e).number ≡ 0 → ⊥) → laid (reaction a e).frames o ≡ o
unsent a e o h = ap (λ (r : Reaction). laid r.frames o) (silent a e h)

-- what an event leaves in the journal
module _ (s : List ℕ) (e : Event) (j : List ℕ) (w : Well j) where
  pub recorded_well : Well (recorded s e j)
  recorded_well = either Well (accepted_reset e) _ _ (emptied_well j w.size) (pushed_well (before s e) j w (length_before s e))

  pub recorded_slots : slots_of (recorded s e j) ≡ slots_of j
  recorded_slots =
      either (λ (k : List ℕ). slots_of k ≡ slots_of j) (accepted_reset e) _ _ (emptied_slots j w.size) (pushed_slots (before s e) j w (length_before s e))

  pub recorded_kept : kept_of (recorded s e j) ≡ cond (accepted_reset e) 0 (min (slots_of j) (kept_of j + 1))
  recorded_kept = by (accepted_reset e)
    where
      by : (b : Bool) → kept_of (cond b (emptied j) (pushed (before s e) j)) ≡ cond b 0 (min (slots_of j) (kept_of j + 1))
      by true = emptied_kept j
      by false = pushed_kept (before s e) j w (length_before s e)

  module _ (kept : accepted_reset e ≡ false) where
    -- the newest record is the event's
    newest : past (recorded s e j) 0 ≡ before s e ++ behind (before s e) j w (length_before s e)
    newest = simp kept (pushed_newest (before s e) j w (length_before s e))

    -- the others are each one older
    pub older_stay : (i : ℕ) → suc i < min (slots_of j) (kept_of j + 1) → past (recorded s e j) (suc i) ≡ past j i
    older_stay i h = simp kept (pushed_older (before s e) j w (length_before s e) i h)

-- the event's record takes what the event left back to what it happened to
module _ (a : Adapter) (e : Event) (j : List ℕ) (w : Well j) (kept : accepted_reset e ≡ false) (g : Good a) (typed : EventFits e) where
  abbrev rest : List ℕ
  rest = behind (before (state_bytes a) e) j w (length_before (state_bytes a) e)

  pub newest_restores : restored (state_bytes (reaction a e).adapter) (past (recorded (state_bytes a) e j) 0) ≡ state_bytes a
  newest_restores = rw (newest (state_bytes a) e j w kept) (taken_back a e rest g typed kept)

  pub newest_sound : sound (state_bytes (reaction a e).adapter) (past (recorded (state_bytes a) e j) 0) ≡ true
  newest_sound = rw (newest (state_bytes a) e j w kept) (sound_back a e rest g typed kept)

-- ---- a step back

module _ (s j : List ℕ) (h : is_state s ≡ true) (w : Well j) where
  pub back_refused : kept_of j ≡ 0 → stepped_back s j ≡ stepped 5 s j
  back_refused z = sym (back_none s j h (well_of w) z)

  pub back_done : (kept_of j ≡ 0 → ⊥) → sound s (past j 0) ≡ true → stepped_back s j ≡ stepped 17 (restored s (past j 0)) (lowered j)
  back_done z r = sym (back_tried s j h (well_of w) _ z (simp r))

-- ---- a journal made empty

pub empty_done : (j : List ℕ) → wrong_length j ≡ false → made_empty j ≡ made 17 (emptied j)
unfolding made_empty
empty_done j h = simp h

-- ---- a journal made large

-- of a well-formed journal its slots, and the second buffer's length, tell the refusals
pub large_told : (j second : List ℕ) (most : ℕ) → Well j → slots_of j ≡ most
    → made_large j second
    ≡ cond (not (eqb most 64)) (copied 4 j second) (cond (not (eqb (length second) 52224)) (copied 1 j second) (copied 17 j (enlarged j second)))
unfolding made_large
large_told j second most w e = rw (small_by_slots j w, e) refl
