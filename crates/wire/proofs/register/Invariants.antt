-- The register after the bytes passed.
use Rattle.std.proofs.Common.{◌≡◌, take}
use Rattle.wire.specs.Bits.{wire}
use Rattle.wire.specs.Fcs as fcs
use Rattle.wire.proofs.register.Given as goal

abbrev pub invariant-loop-x : goal.invariant-loop-x
invariant-loop-x l = l.c ≡ fcs.register fcs.preset (wire (take l.x-index l.s))
