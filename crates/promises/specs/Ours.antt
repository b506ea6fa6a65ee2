-- The delivered adapter as its calls show it: nothing but the functions that the contracts of crate `adapter` state, for a batch the one of crate
-- `batch` that the contract of its export states, and, of the exports that C and Rust link, those that the contracts of crate `sca` state. An export
-- differs in what it gives alone: one packed number.
use Rattle.std.specs.Prelude.{ℕ, ◌/◌, ◌%◌, ◌^◌, cond, List, [], replicate}
use Rattle.state.specs.Bytes.{state_size, state_in}
use Rattle.adapter.specs.Answers.{Answer}
use Rattle.adapter.specs.Answers.{KeptNumber}
use Rattle.adapter.specs.Calls.{created, made_empty, kept_in, made_large, called, stepped_back}
use Rattle.batch.specs.Batch as batches
use Rattle.sca.specs.Adapter.{pack_kept, packed, packed_batch}
use Rattle.promises.specs.Runs.{Call, event, batch, back, empty, enlarge, Given, bare, batch_given, is_refusal, Calls}

-- the pair that is handed on: a state and a journal, as bytes
pub record Handed : Type 0 where
  pub state : List ℕ
  pub journal : List ℕ

abbrev pub handed : List ℕ → List ℕ → Handed
handed state journal = record { state = state; journal = journal }

-- a new adapter, in bytes of a state's length (in any such bytes it is the same: `any_bytes`), and a journal made empty
abbrev pub starts : ℕ → List ℕ → Handed
starts id bytes = handed (created (replicate state_size 0) id).bytes (made_empty bytes).bytes

-- an enlarging that is not refused leaves the second buffer as the journal
abbrev pub leaves_ours : Handed → Call → Handed
leaves_ours p (event e output) = let x = called p.state p.journal e output in handed x.state x.journal
leaves_ours p (batch list output) = let x = batches.called p.state p.journal list output in handed x.state x.journal
leaves_ours p back = let x = stepped_back p.state p.journal in handed x.state x.journal
leaves_ours p empty = handed p.state (made_empty p.journal).bytes
leaves_ours p (enlarge second) = let x = made_large p.journal second in handed p.state (cond (is_refusal x.number) x.first x.second)

-- ---- crate `adapter`

abbrev pub given : Answer → List ℕ → Given
given x output = record { number = x.number; port = x.port; length = x.length; frames = 0; sum = 0; output = output }

abbrev pub gives_ours : Handed → Call → Given
gives_ours p (event e output) = let x = called p.state p.journal e output in given x.answer x.output
gives_ours p (batch list output) = let x = batches.called p.state p.journal list output in batch_given x.answer x.output
gives_ours p back = bare (stepped_back p.state p.journal).number []
gives_ours p empty = bare (made_empty p.journal).number []
gives_ours p (enlarge second) = bare (made_large p.journal second).number []

abbrev pub ours : Calls
ours =
    record {
      Pair = Handed;
      start = starts;
      gives = gives_ours;
      leaves = leaves_ours;
      state = λ p. state_in p.state;
      kept = λ p. kept_in p.journal;
    }

-- ---- the exports

-- results as include/sca.h reads them: the number in bits 7 to 0; above it the length, the port, how many frames, the sum; or the kept number
abbrev pub result_number : ℕ → ℕ
result_number result = result % 256

abbrev pub unpacked : ℕ → List ℕ → Given
unpacked result output =
    record {
      number = result_number result;
      port = result / 2 ^ 16 % 256;
      length = result / 2 ^ 8 % 256;
      frames = result / 2 ^ 24 % 2 ^ 16;
      sum = result / 2 ^ 40;
      output = output;
    }

abbrev pub unpacked_kept : ℕ → KeptNumber
unpacked_kept result = record { number = result_number result; kept = result / 256 % 256 }

abbrev pub gives_exported : Handed → Call → Given
gives_exported p (event e output) =
    let x = packed (called p.state p.journal e output) in unpacked x.result x.output
gives_exported p (batch list output) =
    let x = packed_batch (batches.called p.state p.journal list output) in unpacked x.result x.output
gives_exported p back = unpacked (stepped_back p.state p.journal).number []
gives_exported p empty = unpacked (made_empty p.journal).number []
gives_exported p (enlarge second) = unpacked (made_large p.journal second).number []

abbrev pub exported : Calls
exported =
    record {
      Pair = Handed;
      start = starts;
      gives = gives_exported;
      leaves = leaves_ours;
      state = λ p. state_in p.state;
      kept = λ p. unpacked_kept (pack_kept (kept_in p.journal));
    }
