-- Those that are left are still to be held.
use Rattle.std.proofs.Common.{◌≡◌, drop}
use Rattle.channels.specs.Rows.{held_all}
use Rattle.channels.proofs.rows.settle.Given as goal

abbrev pub invariant-loop-which : goal.invariant-loop-which
invariant-loop-which l = held_all (drop l.which-index l.which-items) l.registers ≡ held_all l.which-items l.initial.registers
