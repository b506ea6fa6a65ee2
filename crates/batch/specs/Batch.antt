-- A batch of pin samples: document 02, request 2026-03. Each sample is an event of its own, given after the one before it.
use Rattle.std.specs.Prelude.{ℕ, ◌+◌, Bool, false, not, cond, ◌||◌, length, eqb, ltb, Result, Ok, Err}
use mathlib.Core.List.{List, [], ◌∷◌, ◌++◌, foldl, flatten}
use Rattle.std.specs.Int.Count.{ones}
use Rattle.numbers.specs.Numbers.{has_frame, no_frame, reply_bytes, samples_most, batch_least}
use Rattle.parts.specs.Parts.{put}
use Rattle.packets.specs.Packets.{data_of}
use Rattle.state.specs.Bytes.{state_bytes, link_of, state_in, is_state}
use Rattle.chip.specs.Event.{Event, sample}
use Rattle.chip.specs.Chip.{reaction}
use Rattle.journal.specs.Layout.{well_formed}
use Rattle.adapter.specs.declared.NoFrame.{NoFrame}
use Rattle.adapter.specs.Answers.{Verdict, Refused, Passed, no_frame_number}
use Rattle.adapter.specs.Refusals.{wrong_argument, in_order}
use Rattle.adapter.specs.Calls.{recorded}
use Rattle.batch.specs.declared.Sample.{Sample}
use Rattle.batch.specs.declared.Batch as code

abbrev pub event_of : Sample → Event
event_of x = sample x.levels x.kind

-- ---- the samples, given one by one

-- what they leave: the state, the journal, and the bodies of the frames sent, in order
pub record Course : Type 0 where
  pub state : List ℕ
  pub journal : List ℕ
  pub bodies : List (List ℕ)

abbrev pub outset : List ℕ → List ℕ → Course
outset s journal = record { state = s; journal = journal; bodies = [] }

-- one more: the chip's reaction to it, and its record in the journal
unfoldable pub onward : Course → Sample → Course
onward c x =
    let r = reaction (state_in c.state) (event_of x) in
    record {
      state = state_bytes r.adapter;
      journal = recorded c.state (event_of x) c.journal;
      bodies = c.bodies ++ r.frames;
    }

abbrev pub one_by_one : List ℕ → List ℕ → List Sample → Course
one_by_one s journal list = foldl onward (outset s journal) list

-- ---- the answer

-- "the sum of firing lines over the interrupts", "tied to the ones in the INTS values sent": the ones in the data of each body
unfoldable pub lines_in : List (List ℕ) → ℕ
lines_in [] = 0
lines_in (body ∷ more) = ones (data_of body) + lines_in more

-- document 01's number, and with number 0 the port and the length of each frame, their number, and the sum of the lines that they name
pub record Batch : Type 0 where
  pub number : ℕ
  pub port : ℕ
  pub length : ℕ
  pub frames : ℕ
  pub sum : ℕ

-- a number alone
abbrev pub bare : ℕ → Batch
bare number = record { number = number; port = 0; length = 0; frames = 0; sum = 0 }

-- "The answer is 0 when a frame was sent, else 17, with GPIO disabled too."
abbrev pub reported : ℕ → ℕ → ℕ → Batch
reported port frames sum =
    cond (eqb frames 0) (bare no_frame)
    (record { number = has_frame; port = port; length = reply_bytes; frames = frames; sum = sum })

-- for these bodies; they leave on the active port, which no sample changes
abbrev pub answered : ℕ → List (List ℕ) → Batch
answered port bodies = reported port (length bodies) (lines_in bodies)

-- of what code gives: a batch that sent frames, or the number of the refusal or silence
abbrev pub answer_of : Result code.Batch NoFrame → Batch
answer_of (Ok b) = record { number = has_frame; port = b.port; length = reply_bytes; frames = b.frames; sum = b.sum }
answer_of (Err e) = bare (no_frame_number e)

-- ---- the call

-- "over 256 samples, or any kind over 2, is 3"
unfoldable pub some_wrong : List Sample → Bool
some_wrong [] = false
some_wrong (x ∷ list) = wrong_argument (event_of x) || some_wrong list

abbrev pub wrong_list : List Sample → Bool
wrong_list list = ltb samples_most (length list) || some_wrong list

-- 6, 4, then "output under 2,560 bytes is 1, in its old place before 3"
abbrev pub verdict : List ℕ → List ℕ → List Sample → List ℕ → Verdict
verdict s journal list output =
    in_order (not (is_state s)) (not (well_formed journal)) (ltb (length output) batch_least) (wrong_list list) false

-- what a batch's call gives, and its three buffers afterwards
pub record Outcome : Type 0 where
  pub answer : Batch
  pub state : List ℕ
  pub journal : List ℕ
  pub output : List ℕ

abbrev pub outcome : Batch → List ℕ → List ℕ → List ℕ → Outcome
outcome answer state journal output = record { answer = answer; state = state; journal = journal; output = output }

-- State and journal are as the samples leave them, one by one. "frames sent, in order, in one output": the bodies one after the other, from its front
-- on; no other byte changes.
abbrev pub done : ℕ → Course → List ℕ → Outcome
done port c output = outcome (answered port c.bodies) c.state c.journal (put 0 (flatten c.bodies) output)

abbrev pub judged : Verdict → List ℕ → List ℕ → List Sample → List ℕ → Outcome
judged (Refused number) s journal list output = outcome (bare number) s journal output
judged Passed s journal list output = done (link_of s).port (one_by_one s journal list) output

unfoldable pub called : List ℕ → List ℕ → List Sample → List ℕ → Outcome
called s journal list output = judged (verdict s journal list output) s journal list output
