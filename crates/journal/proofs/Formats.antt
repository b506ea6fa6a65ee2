-- The laws of the table of formats, row by row: bytes of no wrong length are as long as their format's slots ask, and a kept number is a
-- byte. A row more in the table is a row more in `all_fine` and in what says that there are no other lengths (`only_lengths`). Assumes nothing.
use Prim.Native.Nat.{ℕ, ◌+◌, ◌*◌, ◌<◌}
use mathlib.Core.Path.{◌≡◌, refl, ap, ◌∙◌}
use mathlib.Core.List.{List, [], ◌∷◌}
use mathlib.Core.Bool.{false, true≢false}
use mathlib.Core.Logic.{◌⊎◌, inl, inr}
use native.Mathlib.Nat.{pos_of_ne-zero}
use lib.Dec.{eqb, lit<}
use lib.ListN.{length}
use borrow.Author.Tests.{eqb-true, eqb-false}
use Rattle.bits.specs.Table.{Row, look}
use Rattle.bits.proofs.Tests.{cond_cases}
use Rattle.journal.specs.declared.Format.{Format}
use Rattle.journal.specs.Layout.{size_of, formats, no_format, format_of, slots_of, wrong_length}

-- ---- of every table

record Fine (r : Row Format) : Type 0 where
  size : r.code ≡ size_of r.means
  small : r.means.slots < 256

AllFine : List (Row Format) → Type 0
AllFine [] = Unit
AllFine (r ∷ rs) = Fine r × AllFine rs

looked_size : (rs : List (Row Format)) (n : ℕ) → AllFine rs → eqb (look rs no_format n).slots 0 ≡ false → n ≡ size_of (look rs no_format n)
unfolding AllFine
looked_size [] n f h = absurd (true≢false h)
looked_size (r ∷ rs) n f h =
    cond_cases (λ (x : Format). eqb x.slots 0 ≡ false → n ≡ size_of x) (eqb n r.code) (λ e _. eqb-true n r.code e ∙ f.0.size)
    (λ e. looked_size rs n f.1) h

looked_small : (rs : List (Row Format)) (n : ℕ) → AllFine rs → (look rs no_format n).slots < 256
unfolding AllFine
looked_small [] n f = lit< tt
looked_small (r ∷ rs) n f = cond_cases (λ (x : Format). x.slots < 256) (eqb n r.code) (λ _. f.0.small) (λ _. looked_small rs n f.1)

-- ---- of ours

all_fine : AllFine formats
unfolding AllFine
all_fine = (record { size = refl; small = lit< tt }, (record { size = refl; small = lit< tt }, tt))

pub its_size : (j : List ℕ) → wrong_length j ≡ false → length j ≡ 1024 + 256 * slots_of j
unfolding wrong_length format_of
its_size j h = looked_size formats (length j) all_fine h

pub some_slots : (j : List ℕ) → wrong_length j ≡ false → 0 < slots_of j
unfolding wrong_length
some_slots j h = pos_of_ne-zero (eqb-false (slots_of j) 0 h)

pub slots_small : (j : List ℕ) → slots_of j < 256
unfolding format_of
slots_small j = looked_small formats (length j) all_fine

-- the table's two rows
pub only_lengths : (j : List ℕ) → wrong_length j ≡ false → (length j ≡ 17408) ⊎ (length j ≡ 52224)
unfolding wrong_length format_of
only_lengths j =
    cond_cases Known (eqb (length j) 17408) (λ t _. inl (eqb-true (length j) 17408 t))
    (λ _. cond_cases Known (eqb (length j) 52224) (λ t _. inr (eqb-true (length j) 52224 t)) (λ _ h. absurd (true≢false h)))
  where
    Known : Format → Type 0
    Known f = eqb f.slots 0 ≡ false → (length j ≡ 17408) ⊎ (length j ≡ 52224)

-- what the large one has room for
pub of_large : (j : List ℕ) → length j ≡ 52224 → slots_of j ≡ 200
unfolding format_of
of_large j h = ap (λ (n : ℕ). (format_of n).slots) h

pub of_small : (j : List ℕ) → length j ≡ 17408 → slots_of j ≡ 64
unfolding format_of
of_small j h = ap (λ (n : ℕ). (format_of n).slots) h

-- only the length counts
pub same_length : (j k : List ℕ) → length j ≡ length k → wrong_length k ≡ false → wrong_length j ≡ false
unfolding wrong_length
same_length j k e h = ap (λ (n : ℕ). eqb (format_of n).slots 0) e ∙ h
