-- What code makes of a transaction's end is what the definitions spell.
use Prim.Native.Nat.{ℕ, ◌+◌, ◌*◌}
use mathlib.Core.Bool.{Bool, not, ◌&&◌}
use mathlib.Core.Path.{◌≡◌}
use lib.Bits.{bit_and}
use lib.Dec.{eqb}
use Rattle.bits.specs.Bits.{digit}
use Rattle.bits.proofs.Bits.{bit_test}
use Rattle.registers.specs.Transaction.{status_after}

pub status_of : (acknowledge low : Bool) (was s l i n : ℕ) → s ≡ digit (acknowledge && not low) * 4 → l ≡ digit low * 8
    → i ≡ digit (not (eqb (bit_and was 32) 0)) * 32 → n ≡ digit (not acknowledge) * 64 → s + l + i + n ≡ status_after acknowledge low was
status_of acknowledge low was s l i n e f g h = simp (e, f, g, h, bit_test was 5)
