-- Each of the eighty pairs of a run and four bits is tested, by computing.
use Rattle.transmitter.proofs.Written.{zero_inserted, none_inserted}
use Rattle.transmitter.proofs.stuffing.stuffed.Goals as goal

pub returns-then-x-left : goal.returns-then-x-left
returns-then-x-left c = zero_inserted _ _ c.requires.0 c.requires.1 c.if-x-left.true c.run_of.ensures.run

pub returns : goal.returns
returns c = none_inserted _ _ c.requires.0 c.requires.1 c.if-x-left.false c.run_of-2.ensures.run
