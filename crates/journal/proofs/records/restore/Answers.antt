-- `records::restore` meets its contract: a record that makes a state, and one that makes none. Assumes nothing.
use Rattle.journal.proofs.Record.{tried, judged, undone, remade, remade_too}
use Rattle.journal.proofs.records.restore.Goals as goal

pub returns-then-fits : goal.returns-then-fits
returns-then-fits c = (search (judged, tried), search tried, search (remade, tried))

pub returns-else-fits : goal.returns-else-fits
returns-else-fits c = (search (judged, tried), search (undone, tried), search (remade_too, tried))
