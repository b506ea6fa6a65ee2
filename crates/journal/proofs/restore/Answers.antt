-- `restore` meets its contract. Assumes nothing.
use Rattle.journal.proofs.Pieces.{came_back}
use Rattle.journal.proofs.Record.{newest_judged, newest_tried}
use Rattle.journal.proofs.restore.Goals as goal

pub returns : goal.returns
returns c = (search newest_judged, search newest_tried, search came_back)
