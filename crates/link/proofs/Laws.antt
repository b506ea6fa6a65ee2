-- SREJ's control field, and the bit that asks for an answer: what code makes of them is what the definitions say.
use Prim.Native.Nat.{ℕ, ◌+◌, ◌*◌, ◌%◌}
use mathlib.Core.Path.{◌≡◌}
use native.Mathlib.Omega.{arith}
use lib.Bits.{bit_and, bit_or, or_shifted_r, and_mask}
use Rattle.link.specs.Link.{acknowledge_control}
use Rattle.bits.proofs.Bits.{bit_set, bit_clear}

-- `0x0D | ((n & 7) << 5)`
pub reject_packed : (n : ℕ) → bit_or 0x0D (bit_and n 7 * 32 % 256) ≡ 0x0D + 32 * (n % 8)
reject_packed n =
    let e : n % 8 * 32 % 256 ≡ n % 8 * 32 = omega arith in
    let o : bit_or 13 (n % 8 * 32) ≡ n % 8 * 32 + 13 = or_shifted_r (n % 8) 5 13 (omega arith) in
    rw (and_mask n 3, e) (omega arith)

-- bit 4 of a control
pub polls : (n : ℕ) → (bit_and n 16 ≡ 0 → ⊥) → 0x73 ≡ acknowledge_control n
polls n h = simp (bit_set n 4 h)

pub polls_not : (n : ℕ) → bit_and n 16 ≡ 0 → 0x63 ≡ acknowledge_control n
polls_not n h = simp (bit_clear n 4 h)
