-- A byte more.
use Rattle.transmitter.proofs.Pens.{writes_none_yet, writes_more}
use Rattle.transmitter.proofs.framing.Pen.stuff_bytes.Goals as goal

pub loop-x-init : goal.loop-x-init
loop-x-init c = writes_none_yet _

pub loop-x-preserved : goal.loop-x-preserved
loop-x-preserved c = writes_more _ _ c.loop-x-test.true c.loop-x.invariant c.stuff_byte.ensures
