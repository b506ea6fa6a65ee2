-- A run with every answer of the enlarging call, worked out; and two wrong adapters that demand 3 shuts out: one whose enlarging forgets, and one whose
-- large journal keeps 64.
use Prim.Native.Nat.{ℕ, zero, suc, min, ◌≤◌}
use mathlib.Core.Path.{◌≡◌, refl, ap, ◌∙◌}
use mathlib.Core.List.{List, [], ◌∷◌, foldl}
use mathlib.Core.Bool.{cond}
use native.Mathlib.Omega.{arith}
use lib.Dec.{lit≤}
use lib.ListN.{length, replicate, length-replicate}
use borrow.Author.Tests.{eq-eqb}
use Rattle.numbers.specs.Numbers as number
use Rattle.chip.specs.Event.{upset}
use Rattle.chip.specs.Chip.{reaction, on_upset}
use Rattle.journal.specs.Layout.{wrong_length, well_formed}
use Rattle.journal.proofs.Ring.{well_of, emptied_well, emptied_kept}
use Rattle.adapter.specs.Answers.{KeptNumber}
use Rattle.adapter.specs.Calls.{made_empty, kept_in, made_large}
use Rattle.promises.specs.Runs.{Call, event, batch, back, empty, enlarge, Given, Calls, AllOfTheirTypes, Run, left, Standing, at_start, keeps}
use Rattle.promises.specs.Runs.{standing, due_enlarging, is_refusal, Demand3}
use Rattle.promises.specs.Ours.{Handed, handed, gives_ours, leaves_ours, ours}
use Rattle.promises.specs.Table.{lines, happens}
use Rattle.promises.proofs.Formats.{slots_64, slots_200, any_17408, any_52224}
use Rattle.promises.proofs.Runs.{demand3}
use Rattle.promises.proofs.Lines.{text_lines, lines_told}
use Rattle.promises.proofs.KeptNumber.{kept_rule}
use Rattle.promises.proofs.Steps.{split}
use Rattle.promises.proofs.ShutOut.{ran, ran_standing}

-- ---- a run

-- Two upsets with a small journal. A second buffer of no bytes is refused with 1, one of 52,224 is granted, and asked again, for a large journal by then,
-- it is refused with 4. Then both upsets are taken back, and there is no third.
abbrev pub enlargings : List ℕ → List Call
enlargings second =
    happens upset
    ∷ happens upset
    ∷ enlarge []
    ∷ enlarge second
    ∷ enlarge second
    ∷ back
    ∷ back
    ∷ back
    ∷ []

abbrev pub enlargings_output : List (List ℕ)
enlargings_output =
    (17 ∷ 1 ∷ [])
    ∷ (17 ∷ 2 ∷ [])
    ∷ (1 ∷ 2 ∷ [])
    ∷ (17 ∷ 2 ∷ [])
    ∷ (4 ∷ 2 ∷ [])
    ∷ (17 ∷ 1 ∷ [])
    ∷ (17 ∷ 0 ∷ [])
    ∷ (5 ∷ 0 ∷ [])
    ∷ []

enlargings_text : (second : List ℕ) → length second ≡ 52224 → text_lines 0x00000A (at_start 64) (enlargings second) ≡ enlargings_output
unfolding reaction on_upset
enlargings_text second n = rw (eq-eqb (length second) 52224 n) refl

-- ITS LINES, number and kept number, whatever the two buffers held.
pub worked : (bytes second : List ℕ) → length bytes ≡ 17408 → length second ≡ 52224
    → lines ours (ours.start 0x00000A bytes) (enlargings second) ≡ enlargings_output
worked bytes second m n =
    lines_told ours demand3 0x00000A (lit≤ tt) bytes (any_17408 bytes m) (enlargings second) (tt, (tt, (tt, (tt, (tt, (tt, (tt, (tt, tt))))))))
    ∙ ap (λ (most : ℕ). text_lines 0x00000A (at_start most) (enlargings second)) (slots_64 bytes m) ∙ enlargings_text second n

-- ---- what no calls can do that meet the demand

abbrev upset_call : Call
upset_call = happens upset

-- 65 upsets with a large journal
zeros : List ℕ
zeros = replicate 52224 0

as_long : length zeros ≡ 52224
unfolding zeros
as_long = length-replicate {A = ℕ} 52224 0

upsets : ℕ → List Call
upsets zero = []
upsets (suc n) = upset_call ∷ upsets n

typed_upsets : (n : ℕ) → AllOfTheirTypes (upsets n)
unfolding upsets
typed_upsets zero = tt
typed_upsets (suc n) = (tt, typed_upsets n)

abbrev filled : Run
filled =
    record { id = 0x00000A; id_fits = lit≤ tt; bytes = zeros; size = any_52224 zeros as_long; calls = upsets 65; typed = typed_upsets 65 }

filled_number : (standing filled).number ≡ 65
unfolding upsets
filled_number = ap (λ (most : ℕ). (foldl keeps (at_start most) (upsets 65)).number) (slots_200 zeros as_long)

-- one upset with a small journal
abbrev once : Run
once = ran (upset_call ∷ []) (tt, tt)

once_standing : standing once ≡ foldl keeps (at_start 64) (upset_call ∷ [])
once_standing = ran_standing (upset_call ∷ []) (tt, tt)

module _ (c : Calls) (d : Demand3 c) where
  -- forget at an enlarging that is granted
  pub forgets : ((p : c.Pair) (second : List ℕ) → (c.gives p (enlarge second)).number ≡ number.no_frame → (c.kept (c.leaves p (enlarge second))).kept ≡ 0)
      → ⊥
  forgets h =
      let one : (c.kept (left c once)).kept ≡ 1 = ap (λ (k : KeptNumber). k.kept) (d.kept once) ∙ ap (λ (s : Standing). s.number) once_standing in
      let granted : (c.gives (left c once) (enlarge zeros)).number ≡ number.no_frame =
      ap (λ (g : Given). g.number) (d.enlarges once zeros) ∙ ap (λ (s : Standing). (due_enlarging s zeros).number) once_standing
      ∙ rw (eq-eqb (length zeros) 52224 as_long) refl in
      omega (arith, one, (kept_rule c d).through_enlarging once zeros, h (left c once) zeros granted)

  -- keep 64 at most
  pub keeps_64 : ((p : c.Pair) → (c.kept p).kept ≤ 64) → ⊥
  keeps_64 h = omega (arith, ap (λ (k : KeptNumber). k.kept) (d.kept filled), filled_number, h (left c filled))

-- ---- the wrong adapters

-- AN ENLARGING THAT FORGETS: where ours is granted, the second buffer is only made empty.
forgetful : Handed → Call → Handed
forgetful p (event e o) = leaves_ours p (event e o)
forgetful p (batch list o) = leaves_ours p (batch list o)
forgetful p back = leaves_ours p back
forgetful p empty = leaves_ours p empty
forgetful p (enlarge second) = cond (is_refusal (made_large p.journal second).number) p (handed p.state (made_empty second).bytes)

pub forgetting : Calls
forgetting = record { Pair = Handed; start = ours.start; gives = gives_ours; leaves = forgetful; state = ours.state; kept = ours.kept }

none_kept : (j : List ℕ) → (kept_in (made_empty j).bytes).kept ≡ 0
unfolding made_empty kept_in well_formed
none_kept j = split (wrong_length j) (λ h. rw (h, h) refl) (λ h. rw h (rw (well_of (emptied_well j h)) (emptied_kept j)))

pub forgets_at_enlarging : Demand3 forgetting → ⊥
unfolding forgetting forgetful
forgets_at_enlarging d = forgets forgetting d (λ p second granted. rw granted (none_kept second))

-- A LARGE JOURNAL THAT KEEPS 64, by what it says.
pub capped : Calls
capped =
    record {
      Pair = Handed;
      start = ours.start;
      gives = gives_ours;
      leaves = leaves_ours;
      state = ours.state;
      kept = λ p. record { number = number.no_frame; kept = min 64 (ours.kept p).kept };
    }

pub keeps_64_of_200 : Demand3 capped → ⊥
unfolding capped
keeps_64_of_200 d = keeps_64 capped d (λ p. omega arith)
