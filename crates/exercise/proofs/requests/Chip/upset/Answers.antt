-- Assumes nothing.
use Rattle.std.proofs.Common.{refl}
use Rattle.chip.proofs.Laws.{silently_said}
use Rattle.exercise.proofs.requests.Chip.upset.Goals as goal

pub returns : goal.returns
returns g c = silently_said _ c.on_upset-r.result _ _ c.on_upset-r.ensures refl
