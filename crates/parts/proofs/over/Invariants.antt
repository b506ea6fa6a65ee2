-- The first i bytes of d are those of s. Assumes nothing.
use Rattle.std.proofs.Common.{◌≡◌, take}
use Rattle.parts.proofs.over.Given as goal

abbrev pub invariant-loop-i : goal.invariant-loop-i
invariant-loop-i l = take l.i l.d ≡ take l.i l.s
