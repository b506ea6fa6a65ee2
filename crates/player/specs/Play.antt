-- One line played, and a whole listing, from all input bytes to all output bytes.
use Rattle.std.specs.Prelude.{ℕ, cond, List, [], ◌∷◌, ◌++◌, take, replicate, eqb}
use Rattle.numbers.specs.Numbers as numbers
use Rattle.state.specs.Bytes.{state_size}
use Rattle.journal.specs.Layout.{size_of, large}
use Rattle.adapter.specs.Answers.{plain}
use Rattle.adapter.specs.Calls.{Outcome, outcome, called, stepped_back, kept_in, created, made_empty}
use Rattle.listing.specs.Characters.{line_feed}
use Rattle.listing.specs.Line.{Line, happens, back, unreadable, read}
use Rattle.listing.specs.Answer.{answer_text}

-- ---- one line

-- what a line does: its event, a step back, or nothing and the answer 10
abbrev pub heard : List ℕ → List ℕ → Line → List ℕ → Outcome
heard s journal (happens e) reply = called s journal e reply
heard s journal back reply = let x = stepped_back s journal in outcome (plain x.number) x.state x.journal reply
heard s journal unreadable reply = outcome (plain numbers.unreadable) s journal reply

-- room for a body of 16 bytes
abbrev pub no_reply : List ℕ
no_reply = replicate 16 0

-- the answer's line, with the kept number as it is after the call
abbrev pub answer_of : Outcome → List ℕ
answer_of o = answer_text o.answer.number (kept_in o.journal).kept o.answer.port (take o.answer.length o.output)

-- what a line leaves, and its output line
pub record Turn : Type 0 where
  pub state : List ℕ
  pub journal : List ℕ
  pub text : List ℕ

unfoldable pub turn : List ℕ → List ℕ → List ℕ → Turn
turn s journal line =
    let o = heard s journal (read line) no_reply in
    record { state = o.state; journal = o.journal; text = answer_of o }

-- ---- a whole listing

-- after the final LF no line follows
abbrev pub last_line : List ℕ → List (List ℕ)
last_line [] = []
last_line (c ∷ l) = (c ∷ l) ∷ []

-- LF ends a line; the last may lack it. The line so far stands before the rest of the input.
unfoldable pub lines_from : List ℕ → List ℕ → List (List ℕ)
lines_from l [] = last_line l
lines_from l (b ∷ s) = cond (eqb b line_feed) (l ∷ lines_from [] s) (lines_from (l ++ (b ∷ [])) s)

-- each line's answer, one after the other
unfoldable pub answers : List ℕ → List ℕ → List (List ℕ) → List ℕ
answers s journal [] = []
answers s journal (l ∷ ls) = (turn s journal l).text ++ answers (turn s journal l).state (turn s journal l).journal ls

-- the listing's chip ID
abbrev pub chip_id : ℕ
chip_id = 0x00000A

-- the state of this chip that the creating call made of zeros
abbrev pub new_state : List ℕ
new_state = (created (replicate state_size 0) chip_id).bytes

-- a large journal that the emptying call made of zeros
abbrev pub empty_journal : List ℕ
empty_journal = (made_empty (replicate (size_of large) 0)).bytes

unfoldable pub played : List ℕ → List ℕ
played input = answers new_state empty_journal (lines_from [] input)
