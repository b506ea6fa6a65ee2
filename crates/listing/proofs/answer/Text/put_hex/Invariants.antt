-- What was written so far. Assumes nothing.
use Rattle.std.proofs.Common.{◌≡◌, ◌+◌, ◌*◌, length, take}
use Rattle.parts.specs.Parts.{put}
use Rattle.listing.specs.Characters.{hex_text}
use Rattle.listing.proofs.answer.Text.put_hex.Given as goal

abbrev pub invariant-loop-b : goal.invariant-loop-b
invariant-loop-b l =
    (l.self.out.ghost_name ≡ l.initial.self.out.ghost_name)
    × (l.self.at ≡ l.initial.self.at + 2 * l.b-index)
    × (l.self.out.now ≡ put l.initial.self.at (hex_text (take l.b-index l.s)) l.initial.self.out.now)
    × (length l.self.out.now ≡ length l.initial.self.out.now)
