-- Any two outcomes that a public function's contract allows coincide.
use mathlib.Core.Path.{sym, ◌∙◌}
use Rattle.bits.proofs.Outcome.{OneOutcome}
use Rattle.link.proofs as this

pub send_up_one : OneOutcome 0 this.send_up.Kinds.ps this.send_up.Kinds.r this.send_up.Reads.Post
send_up_one κs a x y s t e f = e ∙ sym f

pub receive_up_one : OneOutcome 0 this.receive_up.Kinds.ps this.receive_up.Kinds.r this.receive_up.Reads.Post
receive_up_one κs a x y s t e f = e ∙ sym f

pub receive_number_one : OneOutcome 0 this.receive_number.Kinds.ps this.receive_number.Kinds.r this.receive_number.Reads.Post
receive_number_one κs a x y s t e f = e ∙ sym f

pub number_in_one : OneOutcome 0 this.number_in.Kinds.ps this.number_in.Kinds.r this.number_in.Reads.Post
number_in_one κs a x y s t e f = e ∙ sym f

pub reply_control_one : OneOutcome 0 this.reply_control.Kinds.ps this.reply_control.Kinds.r this.reply_control.Reads.Post
reply_control_one κs a x y s t e f = e ∙ sym f

pub reject_control_one : OneOutcome 0 this.reject_control.Kinds.ps this.reject_control.Kinds.r this.reject_control.Reads.Post
reject_control_one κs a x y s t e f = e ∙ sym f

pub acknowledge_control_one : OneOutcome 0 this.acknowledge_control.Kinds.ps this.acknowledge_control.Kinds.r this.acknowledge_control.Reads.Post
acknowledge_control_one κs a x y s t e f = e ∙ sym f

pub fresh_one : OneOutcome 0 this.fresh.Kinds.ps this.fresh.Kinds.r this.fresh.Reads.Post
fresh_one κs a x y s t e f = e ∙ sym f

pub loop_back_one : OneOutcome 0 this.loop_back.Kinds.ps this.loop_back.Kinds.r this.loop_back.Reads.Post
loop_back_one κs a x y s t e f = e ∙ sym f

pub in_loopback_one : OneOutcome 0 this.in_loopback.Kinds.ps this.in_loopback.Kinds.r this.in_loopback.Reads.Post
in_loopback_one κs a x y s t e f = e ∙ sym f

pub command_in_one : OneOutcome 0 this.command_in.Kinds.ps this.command_in.Kinds.r this.command_in.Reads.Post
command_in_one κs a x y s t e f = e.0 ∙ sym f.0
