-- What was read so far. Assumes nothing.
use Rattle.std.proofs.Common.{◌≡◌, take}
use Rattle.listing.specs.Characters.{pair_bytes}
use Rattle.listing.proofs.characters.load_pairs.Given as goal

abbrev pub invariant-loop-i : goal.invariant-loop-i
invariant-loop-i l = take l.i l.bytes ≡ pair_bytes l.i l.s
