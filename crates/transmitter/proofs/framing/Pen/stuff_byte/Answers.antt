-- The low four bits, then the high four.
use Rattle.wire.proofs.Check.{low_nibbles}
use Rattle.transmitter.proofs.Pens.{writes_then}
use Rattle.transmitter.proofs.framing.Pen.stuff_byte.Goals as goal

pub returns : goal.returns
returns c = rw (low_nibbles c.args.x) (writes_then c.stuff_four.ensures c.stuff_four-2.ensures)
