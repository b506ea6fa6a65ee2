-- The adapter's calls as C and Rust programs link them: the call of crate `adapter`, or a batch of crate `batch`, with what it gives packed into one
-- number.
use Rattle.std.specs.Prelude.{ℕ, ◌+◌, ◌*◌, Bool, not, List, eqb}
use Rattle.adapter.specs.Answers.{Answer, KeptNumber}
use Rattle.adapter.specs.Calls.{Outcome}
use Rattle.batch.specs.Batch.{Batch}
use Rattle.batch.specs.Batch as batches

-- the number in bits 7 to 0, the frame's length in bits 15 to 8, its port in bits 23 to 16
abbrev pub pack_answer : Answer → ℕ
pack_answer a = a.number + 256 * a.length + 65536 * a.port

-- the number in bits 7 to 0, the kept number in bits 15 to 8
abbrev pub pack_kept : KeptNumber → ℕ
pack_kept k = k.number + 256 * k.kept

-- the number in bits 7 to 0, the length of each frame in bits 15 to 8, their port in bits 23 to 16, how many they are in bits 39 to 24, the sum above
abbrev pub pack_batch : Batch → ℕ
pack_batch b = b.number + 256 * b.length + 65536 * b.port + 16777216 * b.frames + 1099511627776 * b.sum

-- a bit handed over as a number: any but 0 means 1
abbrev pub is_set : ℕ → Bool
is_set n = not (eqb n 0)

-- an event: a result, the state, the journal and the output afterwards
pub record Left : Type 0 where
  pub result : ℕ
  pub state : List ℕ
  pub journal : List ℕ
  pub output : List ℕ

abbrev pub left : ℕ → List ℕ → List ℕ → List ℕ → Left
left result state journal output = record { result = result; state = state; journal = journal; output = output }

abbrev pub packed : Outcome → Left
packed c = left (pack_answer c.answer) c.state c.journal c.output

abbrev pub packed_batch : batches.Outcome → Left
packed_batch c = left (pack_batch c.answer) c.state c.journal c.output
