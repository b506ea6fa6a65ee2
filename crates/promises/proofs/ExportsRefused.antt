-- DEMAND 1 of the exports, for every input: "A refused call [..] changes no state, no journal byte and no output byte." A call is refused
-- where the number in its packed result is 1 to 10 or 31 to 35.
use Prim.Native.Nat.{ℕ, ◌+◌, ◌*◌, ◌%◌, ◌<◌}
use mathlib.Core.Path.{◌≡◌, refl, sym, ap, ◌∙◌}
use mathlib.Core.Bool.{true, false≢true}
use mathlib.Core.List.{List}
use native.Mathlib.Nat.{mod-eq_of_lt}
use native.Mathlib.Omega.{arith}
use lib.ListN.{length, drop}
use lib.Dec.{eqb, lit<}
use borrow.Author.Tests.{eqb-true}
use Rattle.chip.specs.Event.{Event}
use Rattle.transmitter.specs.Transmit.{transmitted}
use Rattle.wire.specs.Bits.{wire}
use Rattle.receiver.specs.declared.Receiver.{Receiver}
use Rattle.receiver.specs.Receiver.{view}
use Rattle.receiver.specs.Receive.{received}
use Rattle.adapter.specs.Calls.{Outcome, created, made_empty, copied, made_large, called, stepped_back, stepped}
use Rattle.batch.specs.declared.Sample.{Sample}
use Rattle.batch.specs.Batch as batches
use Rattle.sca.specs.Adapter.{left, pack_answer, packed, pack_batch, packed_batch}
use Rattle.sca.specs.Link.{receiver_bytes, receiver_of, transmit_result, transmit_output, new_result, new_receiver, receive_result, receive_receiver, receive_output}
use Rattle.sca.proofs.Spelling.{spelled_again}
use Rattle.promises.specs.Runs.{is_refusal}
use Rattle.promises.specs.Ours.{result_number}
use Rattle.promises.proofs.Exported.{refusal_small, its_number, called_number, batch_number, back_number, create_number, empty_number, enlarge_number}
use Rattle.promises.proofs.Steps.{split}
use Rattle.promises.proofs.Cases.{transmit_cases, receive_cases}
use Rattle.promises.proofs.Refused.{event_unchanged, batch_unchanged, back_unchanged, create_unchanged, empty_unchanged, enlarge_unchanged}
use Rattle.promises.proofs.Refused.{transmit_unchanged, reading_number, receive_unchanged}

-- ---- the adapter's calls

-- sca_frame, sca_completion, sca_i2c_completion, sca_sample, sca_upset
pub event_keeps : (s journal : List ℕ) (e : Event) (output : List ℕ) → let x = packed (called s journal e output) in
    is_refusal (result_number x.result) ≡ true → x ≡ left x.result s journal output
event_keeps s journal e output h =
    let x = (called s journal e output).answer in
    let n = its_number x.number x.length x.port (called_number s journal e output) in
    ap (λ (c : Outcome). left (pack_answer x) c.state c.journal c.output) (event_unchanged s journal e output (ap is_refusal (sym n) ∙ h))

-- sca_samples
pub batch_keeps : (s journal : List ℕ) (list : List Sample) (output : List ℕ) → let x = packed_batch (batches.called s journal list output) in
    is_refusal (result_number x.result) ≡ true → x ≡ left x.result s journal output
batch_keeps s journal list output h =
    let x = (batches.called s journal list output).answer in
    let small = batch_number s journal list output in
    let n : pack_batch x % 256 ≡ x.number = omega (arith, small) in
    ap (λ (c : batches.Outcome). left (pack_batch x) c.state c.journal c.output) (batch_unchanged s journal list output (ap is_refusal (sym n) ∙ h))

-- sca_step_back
pub back_keeps : (s journal : List ℕ) → is_refusal (result_number (stepped_back s journal).number) ≡ true
    → stepped_back s journal ≡ stepped (stepped_back s journal).number s journal
back_keeps s journal h = back_unchanged s journal (ap is_refusal (sym (mod-eq_of_lt (back_number s journal))) ∙ h)

-- sca_create
pub create_keeps : (s : List ℕ) (id : ℕ) → is_refusal (result_number (created s id).number) ≡ true → (created s id).bytes ≡ s
create_keeps s id h = create_unchanged s id (ap is_refusal (sym (mod-eq_of_lt (create_number s id))) ∙ h)

-- sca_empty
pub empty_keeps : (journal : List ℕ) → is_refusal (result_number (made_empty journal).number) ≡ true → (made_empty journal).bytes ≡ journal
empty_keeps journal h = empty_unchanged journal (ap is_refusal (sym (mod-eq_of_lt (empty_number journal))) ∙ h)

-- sca_enlarge
pub enlarge_keeps : (journal second : List ℕ) → is_refusal (result_number (made_large journal second).number) ≡ true
    → made_large journal second ≡ copied (made_large journal second).number journal second
enlarge_keeps journal second h = enlarge_unchanged journal second (ap is_refusal (sym (mod-eq_of_lt (enlarge_number journal second))) ∙ h)

-- ---- the link's calls

received_number : (rx : Receiver) (input : List ℕ) (start : ℕ) (output : List ℕ) → (received rx input start output).number < 256
received_number rx input start output =
    receive_cases rx input start output (λ x o. x.number < 256) refusal_small
    (λ r i s o. reading_number (λ n. n < 256) (lit< tt) (lit< tt) (lit< tt) (lit< tt) (lit< tt) (lit< tt) (view rx) (drop start (wire input)))

-- sca_transmit
pub transmit_keeps : (body output : List ℕ) → is_refusal (result_number (transmit_result body output)) ≡ true → transmit_output body output ≡ output
transmit_keeps body output h =
    let x = transmitted body output in
    let small : x.number < 256 = transmit_cases body output (λ x o. x.number < 256) refusal_small (lit< tt) in
    let n : (x.number + 256 * x.count) % 256 ≡ x.number = omega arith in
    (transmit_unchanged body output (ap is_refusal (sym n) ∙ h)).bytes

-- sca_receiver_new
pub new_keeps : (rx : List ℕ) → is_refusal (result_number (new_result rx)) ≡ true → new_receiver rx ≡ rx
new_keeps rx h = split (eqb (length rx) 24) (λ q. absurd (false≢true (rw q at h))) (λ q. rw q refl)

-- sca_receive
pub receive_keeps : (rx input : List ℕ) (start : ℕ) (output : List ℕ) → is_refusal (result_number (receive_result rx input start output)) ≡ true
    → (receive_receiver rx input start output ≡ rx) × (receive_output rx input start output ≡ output)
receive_keeps rx input start output h =
    split (eqb (length rx) 24)
    (λ q.
    let x = received (receiver_of rx) input start output in
    let n = its_number x.number x.length x.consumed (received_number (receiver_of rx) input start output) in
    let u = receive_unchanged (receiver_of rx) input start output (ap is_refusal (sym n) ∙ (rw q at h)) in
    rw q (ap receiver_bytes u.receiver_same ∙ spelled_again rx (eqb-true (length rx) 24 q), u.bytes))
    (λ q. rw q (refl, refl))
