-- `enlarge` meets its contract. Assumes nothing.
use Rattle.journal.proofs.Enlarged.{still_long, headed_then}
use Rattle.journal.proofs.enlarge.Goals as goal

pub head-requires : goal.head-requires
head-requires c = search still_long

pub returns : goal.returns
returns c = search headed_then
