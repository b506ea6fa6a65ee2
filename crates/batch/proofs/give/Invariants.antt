-- The samples before this one are given.
use Rattle.std.proofs.Common.{◌≡◌, ◌≤◌, ◌*◌, true, take}
use Rattle.std.specs.List.{fold}
use Rattle.journal.specs.Layout.{well_formed}
use Rattle.batch.specs.Inner.{going, given, nothing_sent}
use Rattle.batch.proofs.give.Given as goal

abbrev pub invariant-loop-s : goal.invariant-loop-s
invariant-loop-s l =
    (going l.state l.journal l.output l.sent ≡ fold given (going l.fn.state l.fn.journal l.fn.output nothing_sent) (take l.s-index l.list))
    × (well_formed l.journal ≡ true)
    × (l.sent.frames ≤ l.s-index)
    × (l.sent.sum ≤ 32 * l.s-index)
