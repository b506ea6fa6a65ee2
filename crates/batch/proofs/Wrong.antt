-- The kinds of a batch's samples, one by one. Assumes nothing.
use Prim.Native.Nat.{ℕ, ◌<◌, ◌≤◌}
use mathlib.Core.Path.{◌≡◌, refl, sym, ◌∙◌}
use mathlib.Core.Bool.{Bool, true, false}
use mathlib.Core.List.{List}
use lib.Dec.{ltb}
use lib.ListN.{length, get_or}
use borrow.Author.Tests.{ltb-false}
use Rattle.std.proofs.lemmas.List.Recursion.{or_at}
use Rattle.batch.specs.declared.Sample.{Sample}
use Rattle.batch.specs.Batch.{some_wrong}

-- a sample of no list
abbrev pub dark : Sample
dark = record { levels = 0; kind = 0 }

pub wrong_one : (l : List Sample) (i : ℕ) → i < length l → ltb 2 (get_or l i dark).kind ≡ true → some_wrong l ≡ true
unfolding some_wrong
wrong_one l i h k = or_at some_wrong (λ x. ltb 2 x.kind) refl (λ _ _. refl) l i dark h k

pub right_one : (l : List Sample) (i : ℕ) → i < length l → some_wrong l ≡ false → (get_or l i dark).kind ≤ 2
right_one l i h g = by (ltb 2 (get_or l i dark).kind) refl
  where
    by : (t : Bool) → ltb 2 (get_or l i dark).kind ≡ t → (get_or l i dark).kind ≤ 2
    by true e = let z : true ≡ false = sym (wrong_one l i h e) ∙ g in absurd cc
    by false e = ltb-false _ _ e
