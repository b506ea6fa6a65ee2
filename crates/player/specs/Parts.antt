-- A listing played in parts: what is kept between two blocks of the input, and what a byte makes of it.
use Rattle.std.specs.Prelude.{ℕ, ◌+◌, cond, take, set, replicate, eqb, ltb}
use mathlib.Core.List.{List, [], ◌∷◌, ◌++◌, foldl}
use Rattle.player.specs.declared.Fed.{Fed}
use Rattle.listing.specs.Characters.{line_feed}
use Rattle.listing.specs.Answer.{Wrote, wrote, written}
use Rattle.player.specs.Play.{Turn, turn, new_state, empty_journal}

-- ---- one line, its output line in a lent buffer

pub record Left : Type 0 where
  pub state : List ℕ
  pub journal : List ℕ
  pub output : Wrote

abbrev pub left : ℕ → List ℕ → List ℕ → List ℕ → Left
left next state journal output = record { state = state; journal = journal; output = wrote next output }

abbrev pub leaves : ℕ → List ℕ → Turn → Left
leaves at output t = record { state = t.state; journal = t.journal; output = written at t.text output }

-- ---- a byte of the input

-- 80 characters, and one more that makes a line too long
abbrev pub line_room : ℕ
line_room = 81

-- the lent line, and how many characters of it are the line so far
pub record Held : Type 0 where
  pub count : ℕ
  pub line : List ℕ

abbrev pub held : ℕ → List ℕ → Held
held count line = record { count = count; line = line }

-- A character more; those past the room are not kept, since a line that long is not readable whatever they are.
unfoldable pub added : ℕ → ℕ → List ℕ → Held
added count b line = cond (ltb count line_room) (held (count + 1) (set line count b)) (held count line)

-- Between two bytes: the chip's state, its journal, the line so far, and the text that was answered.
pub record Player : Type 0 where
  pub state : List ℕ
  pub journal : List ℕ
  pub line : Held
  pub text : List ℕ

abbrev pub player : List ℕ → List ℕ → List ℕ → ℕ → List ℕ → Player
player s journal line count text = record { state = s; journal = journal; line = held count line; text = text }

abbrev pub sofar : Held → List ℕ
sofar h = take h.count h.line

-- LF: the line is played
unfoldable pub ends : Player → Player
ends p =
    let t = turn p.state p.journal (sofar p.line) in
    record { state = t.state; journal = t.journal; line = held 0 p.line.line; text = p.text ++ t.text }

-- any other character joins the line
unfoldable pub joins : Player → ℕ → Player
joins p b = record { state = p.state; journal = p.journal; line = added p.line.count b p.line.line; text = p.text }

unfoldable pub takes : Player → ℕ → Player
takes p b = cond (eqb b line_feed) (ends p) (joins p b)

-- the end of the input: a last line that lacks its LF is played
unfoldable pub closes : Player → Player
closes p = cond (eqb p.line.count 0) p (ends p)

-- ---- blocks of the input, one after the other

-- power-on, an empty journal, and no line begun
abbrev pub begins : Player
begins = player new_state empty_journal (replicate line_room 0) 0 []

-- the text is handed over before the next block
abbrev pub handed_over : Player → Player
handed_over p = record { state = p.state; journal = p.journal; line = p.line; text = [] }

-- the texts of all blocks and of the end
unfoldable pub played_in : Player → List (List ℕ) → List ℕ
played_in p [] = (closes p).text
played_in p (block ∷ blocks) = (foldl takes p block).text ++ played_in (handed_over (foldl takes p block)) blocks

-- ---- a block of the input, the text from a place on in a lent buffer

pub record Feeding : Type 0 where
  pub state : List ℕ
  pub journal : List ℕ
  pub line : Held
  pub output : Wrote

abbrev pub fed : Fed → List ℕ → List ℕ → List ℕ → List ℕ → Feeding
fed r state journal line output = record { state = state; journal = journal; line = held r.count line; output = wrote r.next output }

abbrev pub feeds : ℕ → List ℕ → Player → Feeding
feeds at output p = record { state = p.state; journal = p.journal; line = p.line; output = written at p.text output }
