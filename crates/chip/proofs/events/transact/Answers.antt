-- `events::transact` meets its contract. Assumes nothing.
use Rattle.chip.proofs.Cases.{transacted_by}
use Rattle.chip.proofs.events.transact.Goals as goal

pub returns : goal.returns
returns c = search transacted_by
