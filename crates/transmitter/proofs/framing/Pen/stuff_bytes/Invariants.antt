-- The bytes passed are written.
use Rattle.std.proofs.Common.{take}
use Rattle.wire.specs.Bits.{wire}
use Rattle.transmitter.specs.Pen.{Writes}
use Rattle.transmitter.proofs.framing.Pen.stuff_bytes.Given as goal

abbrev pub invariant-loop-x : goal.invariant-loop-x
invariant-loop-x l = Writes l.fn.self (wire (take l.x-index l.s)) l.self
