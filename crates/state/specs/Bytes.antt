-- A state as bytes: five of the link, then those of the registers. docs/JOURNAL.md has it byte by byte.
use Rattle.std.specs.Prelude.{ℕ, ◌+◌, Bool, ◌&&◌, List, [], ◌∷◌, ◌++◌, length, get_or, eqb, leb}
use Rattle.bits.specs.Bits.{digit}
use Rattle.parts.specs.Parts.{part}
use Rattle.registers.specs.Registers.{size}
use Rattle.link.specs.declared.Link.{Link}
use Rattle.state.specs.State.{Adapter, adapter, in_range}

abbrev pub link_bytes : ℕ
link_bytes = 5

abbrev pub state_size : ℕ
state_size = link_bytes + size

-- ---- from the state to bytes

-- the two numbers, the active port, and for each port 1 where it is in loopback
abbrev pub link_image : Link → List ℕ
link_image l = l.send.0 ∷ l.receive.0 ∷ l.port ∷ digit l.primary.loopback ∷ digit l.auxiliary.loopback ∷ []

unfoldable pub state_bytes : Adapter → List ℕ
state_bytes a = link_image a.link ++ a.registers

-- ---- from bytes to the state

abbrev pub link_of : List ℕ → Link
link_of s =
    record {
      send = record { 0 = get_or s 0 0 };
      receive = record { 0 = get_or s 1 0 };
      port = get_or s 2 0;
      primary = record { loopback = eqb (get_or s 3 0) 1 };
      auxiliary = record { loopback = eqb (get_or s 4 0) 1 };
    }

unfoldable pub state_in : List ℕ → Adapter
state_in s = adapter (link_of s) (part link_bytes size s)

-- ---- what bytes spell a state

-- no bit of the loopbacks' bytes is set that no field has; those of the registers are looked at with their ranges
abbrev pub spelled : List ℕ → Bool
spelled s = leb (get_or s 3 0) 1 && leb (get_or s 4 0) 1

-- as many bytes, no bit set that no field has, and the state in range: what number 6 refuses is all else
unfoldable pub is_state : List ℕ → Bool
is_state s = eqb (length s) state_size && spelled s && in_range (state_in s)
