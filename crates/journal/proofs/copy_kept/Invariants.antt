-- The k oldest stand in the second buffer's first k slots.
use Rattle.std.proofs.Common.{◌≡◌}
use Rattle.parts.specs.Parts.{put}
use Rattle.journal.specs.Layout.{header_bytes, oldest}
use Rattle.journal.proofs.copy_kept.Given as goal

abbrev pub invariant-loop-k : goal.invariant-loop-k
invariant-loop-k l = l.second ≡ put header_bytes (oldest l.k l.j) l.fn.second
