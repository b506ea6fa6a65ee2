-- What each public call gives and what it leaves in every buffer that it is lent, refused or not. A state is bytes, as the caller lends them.
use Rattle.std.specs.Prelude.{ℕ, Bool, not, cond, List, length, eqb, ltb}
use Rattle.numbers.specs.Numbers.{no_frame, short_output, bad_journal, bad_state, bad_id, id_most}
use Rattle.state.specs.State.{power_on}
use Rattle.state.specs.Bytes.{state_size, state_bytes, state_in}
use Rattle.chip.specs.Event.{Event}
use Rattle.chip.specs.Chip.{reaction, accepted_reset}
use Rattle.chip.specs.Answer.{Response, response, laid}
use Rattle.journal.specs.Layout.{size_of, large, wrong_length, kept_of, well_formed, is_small, past, emptied, pushed, lowered, enlarged}
use Rattle.journal.specs.Record.{before, restored}
use Rattle.adapter.specs.Answers.{Answer, KeptNumber, Verdict, Refused, Passed, plain}
use Rattle.adapter.specs.Refusals.{verdict, back_verdict}

-- ---- creation and emptying: a number, and one buffer afterwards

pub record Made : Type 0 where
  pub number : ℕ
  pub bytes : List ℕ

abbrev pub made : ℕ → List ℕ → Made
made number bytes = record { number = number; bytes = bytes }

-- A state of another length is 6, an ID over 24 bits 7.
unfoldable pub created : List ℕ → ℕ → Made
created s id =
    cond (not (eqb (length s) state_size)) (made bad_state s)
    (cond (ltb id_most id) (made bad_id s)
    (made no_frame (state_bytes (power_on id))))

-- Only a wrong length is refused.
unfoldable pub made_empty : List ℕ → Made
made_empty journal = cond (wrong_length journal) (made bad_journal journal) (made no_frame (emptied journal))

unfoldable pub kept_in : List ℕ → KeptNumber
kept_in journal =
    cond (well_formed journal) (record { number = no_frame; kept = kept_of journal })
    (record { number = bad_journal; kept = 0 })

-- ---- enlarging: a number, and two buffers afterwards

pub record Copied : Type 0 where
  pub number : ℕ
  pub first : List ℕ
  pub second : List ℕ

abbrev pub copied : ℕ → List ℕ → List ℕ → Copied
copied number first second = record { number = number; first = first; second = second }

-- What is no small journal, a large one too, is 4; then a second buffer that is not of a large one's length is 1.
unfoldable pub made_large : List ℕ → List ℕ → Copied
made_large journal second =
    cond (not (is_small journal)) (copied bad_journal journal second)
    (cond (not (eqb (length second) (size_of large))) (copied short_output journal second)
    (copied no_frame journal (enlarged journal second)))

-- ---- events

-- what an event's call gives, and its three buffers afterwards
pub record Outcome : Type 0 where
  pub answer : Answer
  pub state : List ℕ
  pub journal : List ℕ
  pub output : List ℕ

abbrev pub outcome : Answer → List ℕ → List ℕ → List ℕ → Outcome
outcome answer state journal output = record { answer = answer; state = state; journal = journal; output = output }

-- what the chip gives, without the link
abbrev pub shown : Response → Answer
shown r = record { number = r.number; port = r.port; length = r.length }

-- A record joins the journal, or what resets empties it.
abbrev pub joined : Bool → List ℕ → List ℕ → List ℕ
joined resets r journal = cond resets (emptied journal) (pushed r journal)

-- The event's record joins the journal; an accepted RESET empties it.
abbrev pub recorded : List ℕ → Event → List ℕ → List ℕ
recorded s e journal = joined (accepted_reset e) (before s e) journal

-- What an event leaves, beside a journal: its answer, the state, its frames in the output.
abbrev pub happened : List ℕ → Event → List ℕ → List ℕ → Outcome
happened s e output journal =
    let r = reaction (state_in s) e in
    outcome (shown (response r)) (state_bytes r.adapter) journal (laid r.frames output)

-- The journal is the one with the event's record.
unfoldable pub done : List ℕ → List ℕ → Event → List ℕ → Outcome
done s journal e output = happened s e output (recorded s e journal)

abbrev pub judged : Verdict → List ℕ → List ℕ → Event → List ℕ → Outcome
judged (Refused number) s journal e output = outcome (plain number) s journal output
judged Passed s journal e output = done s journal e output

unfoldable pub called : List ℕ → List ℕ → Event → List ℕ → Outcome
called s journal e output = judged (verdict s journal e output) s journal e output

-- ---- a step back

-- its number, and its two buffers afterwards
pub record Stepped : Type 0 where
  pub number : ℕ
  pub state : List ℕ
  pub journal : List ℕ

abbrev pub stepped : ℕ → List ℕ → List ℕ → Stepped
stepped number state journal = record { number = number; state = state; journal = journal }

-- The newest record's core and group over the state handed in, and the record given up.
abbrev pub judged_back : Verdict → List ℕ → List ℕ → Stepped
judged_back (Refused number) s journal = stepped number s journal
judged_back Passed s journal = stepped no_frame (restored s (past journal 0)) (lowered journal)

unfoldable pub stepped_back : List ℕ → List ℕ → Stepped
stepped_back s journal = judged_back (back_verdict s journal) s journal
