-- A line holds at most 81 characters between two reads.
use Rattle.std.proofs.Common.{◌≤◌}
use Rattle.bench.proofs.run.Given as goal

abbrev pub invariant-turns : goal.invariant-turns
invariant-turns g l = l.held ≤ 81
