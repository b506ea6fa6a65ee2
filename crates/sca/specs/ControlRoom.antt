-- The control room's calls as C and Rust programs link them: the call of crate `control_room`, with what it gives packed into one number.
use Rattle.std.specs.Prelude.{ℕ, ◌+◌, ◌*◌, List}
use Rattle.bits.specs.Bits.{digit}
use Rattle.control_room.specs.Given.{Given}
use Rattle.control_room.specs.Calls.{Outcome}

-- the number in bits 7 to 0, the bytes written in bits 15 to 8, 1 in bit 16 where an interrupt was read
abbrev pub pack_given : Given → ℕ
pack_given g = g.number + 256 * g.length + 65536 * digit g.interrupt

-- a result, the record and the output afterwards
pub record Left : Type 0 where
  pub result : ℕ
  pub kept : List ℕ
  pub output : List ℕ

abbrev pub left : ℕ → List ℕ → List ℕ → Left
left result kept output = record { result = result; kept = kept; output = output }

abbrev pub packed : Outcome → Left
packed c = left (pack_given c.given) c.kept c.output
