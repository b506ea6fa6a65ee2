-- What the inner functions of the receiver promise each other. Nobody needs to believe it: the call's contract does not cite it.
use Rattle.std.specs.Prelude.{◌≡◌, List, [], ◌∷◌, ℕ, ◌+◌, ◌*◌, ◌^◌, ◌≤◌, ◌<◌, min, length, get_or}
use Rattle.wire.specs.Bits.{low}
use Rattle.receiver.specs.Receiver.{State, Stop, runs}
use Rattle.receiver.specs.declared.Receiver.{Receiver}
use Rattle.receiver.specs.Received.{Received}
use Rattle.receiver.specs.declared.scanning.Control.{Control}
use Rattle.receiver.specs.declared.scanning.Scanned.{Scanned}
use Rattle.receiver.specs.declared.scanning.End.{End}
use Rattle.receiver.specs.declared.scanning.End.TheVariants.{OutOfBits, Flag, Abort}

-- the number that bytes spell, byte 0 lowest
unfoldable pub value : List ℕ → ℕ
value [] = 0
value (x ∷ xs) = x + 256 * value xs

-- the control and the bytes of a receiver within their ranges
pub record Good (c : Control) (bytes : List ℕ) : Type 0 where
  pub mode : c.mode ≤ 1
  pub ones : c.ones ≤ 7
  pub lead : c.lead ≤ 1
  pub count : c.count ≤ 152
  pub idle : c.mode ≡ 0 → (c.count ≡ 0) × (c.lead ≡ 0)
  pub seven : c.mode ≡ 1 → c.ones ≤ 6
  pub run : c.mode ≡ 1 → c.lead + min c.ones 5 ≤ c.count
  pub rest : value bytes < 2 ^ c.count
  pub size : length bytes ≡ 20
  pub small : (i : ℕ) → get_or bytes i 0 < 256

abbrev pub control_of : Receiver → Control
control_of r = record { mode = r.mode; ones = r.ones; lead = r.lead; count = r.count }

-- what a control and bytes stand for
abbrev pub state_of : Control → List ℕ → State
state_of c bytes = record { mode = c.mode; ones = c.ones; lead = c.lead; content = low c.count (value bytes) }

-- the number of each end in a stop
abbrev pub hit_of : End → ℕ
hit_of OutOfBits = 0
hit_of Flag = 1
hit_of Abort = 2

abbrev pub stop_of : Scanned → Stop
stop_of p = record { state = state_of p.control p.bytes; used = p.used; hit = hit_of p.end }

-- the struct of a control and bytes
abbrev pub receiver_of : Control → List ℕ → Receiver
receiver_of c bytes = record { mode = c.mode; ones = c.ones; lead = c.lead; count = c.count; bytes = bytes }

-- what is given back without a body
abbrev pub barely : Receiver → ℕ → ℕ → Received
barely rx number consumed = record { rx = rx; number = number; consumed = consumed; length = 0 }

-- where a scan of bits stops: in range, where the machine does, and at a flag with 32 bits of content, the flag's zero and five ones
pub record Scan (c : Control) (bytes bits : List ℕ) (p : Scanned) : Type 0 where
  pub good : Good p.control p.bytes
  pub stops : stop_of p ≡ runs (state_of c bytes) 0 bits
  pub ends : p.end ≡ Flag → 37 + p.control.lead ≤ p.control.count

-- a byte left the control as it was, and the one byte of content
pub record Idle (before : Control) (first : ℕ) (after : Control) (held : ℕ) : Type 0 where
  pub control : before ≡ after
  pub content : first ≡ held
  pub short : after.count ≤ 8

-- the control after a bit that ends no flag and is no seventh one
pub record Stepped (c : Control) (b : ℕ) (r : Control) : Type 0 where
  pub mode : r.mode ≡ c.mode
  pub zero : b ≡ 0 → r.ones ≡ 0
  pub one : b ≡ 1 → c.ones < 7 → r.ones ≡ c.ones + 1
  pub seven : b ≡ 1 → c.ones ≡ 7 → r.ones ≡ 7
  pub lead0 : b ≡ 0 → c.ones < 5 → r.lead ≡ c.mode
  pub lead5 : b ≡ 0 → 5 ≤ c.ones → r.lead ≡ 0
  pub lead1 : b ≡ 1 → r.lead ≡ c.lead
  pub pushed : c.ones < 5 → c.mode ≡ 1 → c.count < 152 → r.count ≡ c.count + 1
  pub full : 152 ≤ c.count → r.count ≡ c.count
  pub idle : c.mode ≡ 0 → r.count ≡ c.count
  pub five : 5 ≤ c.ones → r.count ≡ c.count
  pub grows : c.count ≤ r.count
