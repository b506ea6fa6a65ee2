-- `records::make` meets its contract. Assumes nothing.
use Rattle.journal.proofs.Record.{makes}
use Rattle.journal.proofs.records.make.Goals as goal

pub returns : goal.returns
returns c = search makes
