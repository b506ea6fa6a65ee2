-- `checks::reset` meets its contract, where the command is done. Assumes nothing.
use Rattle.chip.proofs.Cases.{reset_done}
use Rattle.chip.proofs.checks.reset.Goals as goal

pub returns : goal.returns
returns c = search reset_done
