-- Those that were looked at are sound.
use Rattle.std.proofs.Common.{◌≡◌, ℕ, ◌+◌, ◌<◌, true}
use Rattle.channels.specs.Inner.{master_sound}
use Rattle.channels.proofs.masters.some_are_sound.Given as goal

abbrev pub invariant-loop-k : goal.invariant-loop-k
invariant-loop-k l = (j : ℕ) → j < l.k → master_sound l.registers (l.some.first + j) ≡ true
