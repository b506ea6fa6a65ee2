-- `keep` meets its contract. Assumes nothing.
use Rattle.journal.proofs.Record.{keeps_record}
use Rattle.journal.proofs.keep.Goals as goal

pub returns : goal.returns
returns c = search keeps_record
