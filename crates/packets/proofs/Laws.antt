-- The bytes of a packet: a request is what its word makes it, a body what its four data bytes make it, and D read back from them is the D sent.
use Prim.Native.Nat.{ℕ, ◌^◌, ◌<◌}
use mathlib.Core.Path.{◌≡◌}
use native.Mathlib.Omega.{arith}
use Rattle.std.proofs.lemmas.Nat.{from_le_bytes-to_le_bytes_4}
use Rattle.parts.specs.Digits.{word}
use Rattle.packets.specs.Packets.{byte_of}

-- D read from the four bytes of a reply's data, in the wire's order, is the D sent
pub data_round : (d : ℕ) → d < 2 ^ 32 → word (byte_of d 0) (byte_of d 1) (byte_of d 2) (byte_of d 3) ≡ d
data_round d h = let e = from_le_bytes-to_le_bytes_4 d h in omega arith
