-- THE TWO SIZES: 17,408 bytes keep 64 and 52,224 bytes keep 200, and no other length is a journal's. What is said elsewhere of the slots of a run's
-- bytes is said of 64 and 200 by these. Assumes nothing.
use Prim.Native.Nat.{ℕ}
use mathlib.Core.Path.{◌≡◌, ap}
use mathlib.Core.List.{List}
use mathlib.Core.Bool.{false}
use mathlib.Core.Logic.{◌⊎◌}
use lib.ListN.{length}
use lib.Dec.{eqb}
use Rattle.journal.specs.Layout.{slots_of, wrong_length}
use Rattle.journal.proofs.Formats.{only_lengths, of_small, of_large}
use Rattle.journal.proofs.Enlarged.{large_size}

module _ (bytes : List ℕ) where
  pub slots_64 : length bytes ≡ 17408 → slots_of bytes ≡ 64
  slots_64 h = of_small bytes h

  pub slots_200 : length bytes ≡ 52224 → slots_of bytes ≡ 200
  slots_200 h = of_large bytes h

  -- any 17,408 bytes, and any 52,224
  pub any_17408 : length bytes ≡ 17408 → wrong_length bytes ≡ false
  unfolding wrong_length
  any_17408 h = ap (λ (n : ℕ). eqb n 0) (slots_64 h)

  pub any_52224 : length bytes ≡ 52224 → wrong_length bytes ≡ false
  any_52224 h = large_size bytes h

  pub no_other_length : wrong_length bytes ≡ false → (length bytes ≡ 17408) ⊎ (length bytes ≡ 52224)
  no_other_length h = only_lengths bytes h
