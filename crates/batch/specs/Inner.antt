-- What the contracts of the walk cite, and no promise: a batch on its way, as code has it.
use Rattle.std.specs.Prelude.{ℕ, ◌+◌, ◌*◌, ◌≤◌, ◌<◌, ◌≡◌, true, false, cond, List, length, eqb}
use Rattle.std.specs.Int.Count.{ones}
use Rattle.numbers.specs.Numbers.{has_frame, reply_bytes, samples_most, batch_least}
use Rattle.parts.specs.Parts.{part, put}
use Rattle.packets.specs.Packets.{data_of}
use Rattle.journal.specs.Layout.{well_formed}
use Rattle.adapter.specs.Calls.{Outcome, done}
use Rattle.batch.specs.declared.Sample.{Sample}
use Rattle.batch.specs.declared.Batch.{Batch}
use Rattle.batch.specs.Batch.{event_of, some_wrong}

-- what nothing refuses
pub record Fine (journal : List ℕ) (list : List Sample) (output : List ℕ) : Type 0 where
  pub formed : well_formed journal ≡ true
  pub roomy : batch_least ≤ length output
  pub few : length list ≤ samples_most
  pub kinds : some_wrong list ≡ false

-- before the first sample
abbrev pub nothing_sent : Batch
nothing_sent = record { port = 0; frames = 0; sum = 0 }

-- the three buffers, and what the batch has sent
pub record Going : Type 0 where
  pub state : List ℕ
  pub journal : List ℕ
  pub output : List ℕ
  pub sent : Batch

abbrev pub going : List ℕ → List ℕ → List ℕ → Batch → Going
going s journal output b = record { state = s; journal = journal; output = output; sent = b }

-- the most lines of all samples but the last: the sum before that one
abbrev pub most_before : ℕ
most_before = 32 * 255

-- what a sample can rely on
pub record Ready (journal output : List ℕ) (b : Batch) : Type 0 where
  pub formed : well_formed journal ≡ true
  pub room : reply_bytes * b.frames + reply_bytes ≤ length output
  pub few : b.frames < samples_most
  pub small : b.sum ≤ most_before

-- with the interrupt counted that an event sent, or without one
abbrev pub sent_after : Batch → Outcome → Batch
sent_after b o =
    cond (eqb o.answer.number has_frame)
    (record { port = o.answer.port; frames = b.frames + 1; sum = b.sum + ones (data_of o.output) }) b

-- A sample's event, in the ten bytes of the output behind the bodies before.
unfoldable pub given : Going → Sample → Going
given g x =
    let first = reply_bytes * g.sent.frames in
    let o = done g.state g.journal (event_of x) (part first reply_bytes g.output) in
    going o.state o.journal (put first o.output g.output) (sent_after g.sent o)

-- and that the journal stays well-formed, and no more is counted than a frame of 32 lines
pub record Given (s journal output : List ℕ) (b : Batch) (x : Sample) (s' journal' output' : List ℕ) (r : Batch) : Type 0 where
  pub is : going s' journal' output' r ≡ given (going s journal output b) x
  pub formed : well_formed journal' ≡ true
  pub frame : r.frames ≤ b.frames + 1
  pub lines : r.sum ≤ b.sum + 32
