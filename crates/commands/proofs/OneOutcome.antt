-- Any two outcomes that a function's contract allows coincide.
use mathlib.Core.Path.{sym, ◌∙◌}
use Rattle.bits.proofs.Outcome.{OneOutcome}
use Rattle.commands.proofs as this

pub channel_channel_of_one : OneOutcome 0 this.channel.channel_of.Kinds.ps this.channel.channel_of.Kinds.r this.channel.channel_of.Reads.Post
channel_channel_of_one κs a x y s t e f = e ∙ sym f

pub command_of_one : OneOutcome 0 this.channel.command_of.Kinds.ps this.channel.command_of.Kinds.r this.channel.command_of.Reads.Post
command_of_one κs a x y s t e f = e ∙ sym f

pub request_granted_one : OneOutcome 0 this.request.granted.Kinds.ps this.request.granted.Kinds.r this.request.granted.Reads.Post
request_granted_one κs a x y s t e f = e ∙ sym f

pub request_refusal_one : OneOutcome 0 this.request.refusal.Kinds.ps this.request.refusal.Kinds.r this.request.refusal.Reads.Post
request_refusal_one κs a x y s t e f = e ∙ sym f
