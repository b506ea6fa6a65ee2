-- ONE OUTCOME: any two outcomes that the contract of a delivered call allows coincide, the result and every lent byte, refused calls
-- included. `Reads.Post` is what the contract in the call's own source says.
use mathlib.Core.Path.{sym, ◌∙◌}
use mathlib.Core.List.{List}
use Prim.Native.Nat.{ℕ}
use Rattle.std.specs.Prelude.{Result}
use Rattle.numbers.specs.declared.Refusal.{Refusal}
use Rattle.receiver.specs.declared.Reception.{Reception}
use Rattle.parts.proofs.Outcome.{One, OneBeside}
use Rattle.transmitter.proofs.Same.{sent_same}
use Rattle.transmitter.proofs as transmitter
use Rattle.receiver.proofs.Same.{received_same}
use Rattle.receiver.proofs as receiver
use Rattle.chip.proofs.Same.{both}
use Rattle.sca.proofs as sca
use Rattle.adapter.specs.Calls.{made, copied, stepped}
use Rattle.sca.specs.Adapter.{left}
use Rattle.control_room.specs.Calls as rooms
use Rattle.sca.specs.ControlRoom as room
-- the adapter's ten calls
pub use Rattle.adapter.proofs.OneOutcome.{create_one, empty_one, kept_one, enlarge_one, frame_one, completion_one, i2c_completion_one, sample_one}
pub use Rattle.adapter.proofs.OneOutcome.{upset_one, step_back_one}
-- the control room's four
pub use Rattle.control_room.proofs.OneOutcome.{new_record_one, request_one, reply_one, command_one}

-- ---- the link: a result and the output's bytes

pub receiver_new_one : One 0 receiver.Receiver.new.Kinds.ps receiver.Receiver.new.Kinds.r receiver.Receiver.new.Reads.Post (λ κs x s. x)
receiver_new_one κs a x y s t p q = p ∙ sym q

pub transmit_one : One {B = Result ℕ Refusal × List ℕ} 2 transmitter.transmit.Kinds.ps transmitter.transmit.Kinds.r transmitter.transmit.Reads.Post
    (λ κs x s. (x, s.1.0.now))
transmit_one κs a x y s t p q = both (sent_same x y (p.0 ∙ sym q.0)) (p.1 ∙ sym q.1)

pub receive_one : One {B = Reception × List ℕ} 2 receiver.receive.Kinds.ps receiver.receive.Kinds.r receiver.receive.Reads.Post (λ κs x s. (x, s.1.1.1.0.now))
receive_one κs a x y s t p q = both (received_same x y (p.0 ∙ sym q.0)) (p.1 ∙ sym q.1)

-- ---- what the exports call, and have the clauses of

pub sca_transmit_one : One {B = ℕ × List ℕ} 2 sca.sca_transmit.Kinds.ps sca.sca_transmit.Kinds.r sca.sca_transmit.Reads.Post (λ κs x s. (x, s.1.0.now))
sca_transmit_one κs a x y s t p q = both (p.0 ∙ sym q.0) (p.1 ∙ sym q.1)

pub sca_receiver_new_one : One {B = ℕ × List ℕ} 1 sca.sca_receiver_new.Kinds.ps sca.sca_receiver_new.Kinds.r sca.sca_receiver_new.Reads.Post (λ κs x s. (x, s.0.now))
sca_receiver_new_one κs a x y s t p q = both (p.0 ∙ sym q.0) (p.1 ∙ sym q.1)

-- the receiver's bytes and the output's
pub sca_receive_one : One {B = ℕ × (List ℕ × List ℕ)} 3 sca.sca_receive.Kinds.ps sca.sca_receive.Kinds.r sca.sca_receive.Reads.Post (λ κs x s. (x, (s.0.now, s.1.1.1.0.now)))
sca_receive_one κs a x y s t p q = both (p.0 ∙ sym q.0) (both (p.1.0 ∙ sym q.1.0) (p.1.1 ∙ sym q.1.1))

-- ---- the adapter: the result, the state, the journal and the output

pub sca_create_one : One 1 sca.sca_create.Kinds.ps sca.sca_create.Kinds.r sca.sca_create.Reads.Post (λ κs x s. made x s.0.now)
sca_create_one κs a x y s t p q = p ∙ sym q

pub sca_empty_one : One 1 sca.sca_empty.Kinds.ps sca.sca_empty.Kinds.r sca.sca_empty.Reads.Post (λ κs x s. made x s.0.now)
sca_empty_one κs a x y s t p q = p ∙ sym q

pub sca_kept_one : One 1 sca.sca_kept.Kinds.ps sca.sca_kept.Kinds.r sca.sca_kept.Reads.Post (λ κs x s. x)
sca_kept_one κs a x y s t p q = p ∙ sym q

pub sca_enlarge_one : OneBeside 2 sca.sca_enlarge.Kinds.ps sca.sca_enlarge.Kinds.r sca.sca_enlarge.Reads.Post (λ κs a x s. copied x a.0.now s.1.0.now)
sca_enlarge_one κs a x y s t p q = p ∙ sym q

pub sca_frame_one : One 4 sca.sca_frame.Kinds.ps sca.sca_frame.Kinds.r sca.sca_frame.Reads.Post (λ κs x s. left x s.0.now s.1.0.now s.1.1.1.1.0.now)
sca_frame_one κs a x y s t p q = p ∙ sym q

pub sca_completion_one : One 4 sca.sca_completion.Kinds.ps sca.sca_completion.Kinds.r sca.sca_completion.Reads.Post (λ κs x s. left x s.0.now s.1.0.now s.1.1.1.0.now)
sca_completion_one κs a x y s t p q = p ∙ sym q

pub sca_i2c_completion_one : One 4 sca.sca_i2c_completion.Kinds.ps sca.sca_i2c_completion.Kinds.r sca.sca_i2c_completion.Reads.Post (λ κs x s. left x s.0.now s.1.0.now s.1.1.1.1.1.1.0.now)
sca_i2c_completion_one κs a x y s t p q = p ∙ sym q

pub sca_sample_one : One 3 sca.sca_sample.Kinds.ps sca.sca_sample.Kinds.r sca.sca_sample.Reads.Post (λ κs x s. left x s.0.now s.1.0.now s.1.1.1.1.0.now)
sca_sample_one κs a x y s t p q = p ∙ sym q

pub sca_samples_one : One 4 sca.sca_samples.Kinds.ps sca.sca_samples.Kinds.r sca.sca_samples.Reads.Post (λ κs x s. left x s.0.now s.1.0.now s.1.1.1.0.now)
sca_samples_one κs a x y s t p q = p ∙ sym q

pub sca_upset_one : One 3 sca.sca_upset.Kinds.ps sca.sca_upset.Kinds.r sca.sca_upset.Reads.Post (λ κs x s. left x s.0.now s.1.0.now s.1.1.0.now)
sca_upset_one κs a x y s t p q = p ∙ sym q

pub sca_step_back_one : One 2 sca.sca_step_back.Kinds.ps sca.sca_step_back.Kinds.r sca.sca_step_back.Reads.Post (λ κs x s. stepped x s.0.now s.1.0.now)
sca_step_back_one κs a x y s t p q = p ∙ sym q

-- ---- the control room: the result, the record and the output

pub sca_record_new_one : One 1 sca.sca_record_new.Kinds.ps sca.sca_record_new.Kinds.r sca.sca_record_new.Reads.Post (λ κs x s. rooms.made x s.0.now)
sca_record_new_one κs a x y s t p q = p ∙ sym q

pub sca_request_one : One 2 sca.sca_request.Kinds.ps sca.sca_request.Kinds.r sca.sca_request.Reads.Post (λ κs x s. room.left x s.0.now s.1.1.1.1.0.now)
sca_request_one κs a x y s t p q = p ∙ sym q

pub sca_reply_one : One 3 sca.sca_reply.Kinds.ps sca.sca_reply.Kinds.r sca.sca_reply.Reads.Post (λ κs x s. room.left x s.0.now s.1.1.0.now)
sca_reply_one κs a x y s t p q = p ∙ sym q

pub sca_command_one : One 2 sca.sca_command.Kinds.ps sca.sca_command.Kinds.r sca.sca_command.Reads.Post (λ κs x s. room.left x s.0.now s.1.1.0.now)
sca_command_one κs a x y s t p q = p ∙ sym q

pub sca_version_one : One 0 sca.sca_version.Kinds.ps sca.sca_version.Kinds.r sca.sca_version.Reads.Post (λ κs x s. x)
sca_version_one κs a x y s t p q = p ∙ sym q
