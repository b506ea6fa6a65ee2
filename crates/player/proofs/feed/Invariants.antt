-- What the first bytes of the block make of the start. Assumes nothing.
use Rattle.std.proofs.Common.{◌≡◌, ◌*◌, ◌≤◌, [], take}
use mathlib.Core.List.{foldl}
use Rattle.player.specs.Parts.{player, takes, fed, feeds}
use Rattle.player.proofs.feed.Given as goal

abbrev pub invariant-loop-b : goal.invariant-loop-b
invariant-loop-b l =
    (l.f.count ≤ 81)
    × (l.f.next ≤ 48 * l.b-index)
    × (fed l.f l.state l.journal l.line l.out ≡ feeds 0 l.initial.out (foldl takes (player l.initial.state l.initial.journal l.initial.line l.held []) (take l.b-index l.block)))
