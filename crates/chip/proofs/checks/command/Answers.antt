-- `checks::command` meets its contract, where the command is done. Assumes nothing.
use Rattle.chip.proofs.Cases.{acknowledged}
use Rattle.chip.proofs.checks.command.Goals as goal

pub returns : goal.returns
returns c = search acknowledged
