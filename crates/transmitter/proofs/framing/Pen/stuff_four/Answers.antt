-- What is stuffed is put.
use Rattle.transmitter.proofs.Written.{written_four}
use Rattle.transmitter.proofs.framing.Pen.stuff_four.Goals as goal

pub returns : goal.returns
returns c = let w = c.put.ensures.0 in record { written = written_four c.stuffed-out.ensures w.raw; same = w.same }
