use Rattle.registers.proofs.Laws.{zeros_there_are}
use Rattle.registers.proofs.are_zero.Goals as goal

pub returns : goal.returns
returns c = search zeros_there_are
