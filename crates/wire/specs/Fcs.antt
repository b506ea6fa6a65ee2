-- The 16-bit FCS of ISO/IEC 13239 over bits, in the register that RFC 1662 keeps: x^15 is bit 0, so x^16+x^12+x^5+1 is 0x8408.
use mathlib.Core.List.{List, [], ◌∷◌, foldl}
use Rattle.std.specs.Prelude.{ℕ, ◌+◌, ◌*◌, ◌-◌, ◌/◌, ◌%◌}
use Rattle.std.specs.Int.Bits.{bit_xor}
use Rattle.wire.specs.Bits.{wire}

-- the polynomial
abbrev pub polynomial : ℕ
polynomial = 0x8408

-- preset to ones
abbrev pub preset : ℕ
preset = 0xFFFF

-- what a good frame, body and FCS, leaves in the register
abbrev pub residue : ℕ
residue = 0xF0B8

-- the register after a bit: shifted, and the polynomial added where the bit that leaves and the bit that comes differ
unfoldable pub register_bit : ℕ → ℕ → ℕ
register_bit c b = bit_xor (c / 2) (polynomial * ((c % 2 + b) % 2))

-- the register after bits
unfoldable pub register : ℕ → List ℕ → ℕ
register c bs = foldl register_bit c bs

-- complemented
abbrev pub check_of : List ℕ → ℕ
check_of body = preset - register preset (wire body)

-- low byte first
unfoldable pub fcs : List ℕ → List ℕ
fcs body = check_of body % 256 ∷ check_of body / 256 ∷ []
