-- Any two outcomes that a function's contract allows coincide: the result and every lent byte, for every public function.
use mathlib.Core.Path.{sym, ◌∙◌}
use Rattle.bits.proofs.Outcome.{OneOutcome}
use Rattle.parts.proofs.Outcome.{One}
use Rattle.packets.proofs as this

pub request_of_one : OneOutcome 1 this.request_of.Kinds.ps this.request_of.Kinds.r this.request_of.Reads.Post
request_of_one κs a x y s t e f = e ∙ sym f

pub data_of_one : OneOutcome 1 this.data_of.Kinds.ps this.data_of.Kinds.r this.data_of.Reads.Post
data_of_one κs a x y s t e f = e ∙ sym f

pub put_control_one : One 1 this.put_control.Kinds.ps this.put_control.Kinds.r this.put_control.Reads.Post (λ κs x s. s.0.now)
put_control_one κs a x y s t p q = p ∙ sym q

pub put_reply_one : One 1 this.put_reply.Kinds.ps this.put_reply.Kinds.r this.put_reply.Reads.Post (λ κs x s. s.0.now)
put_reply_one κs a x y s t p q = p ∙ sym q

pub put_request_one : One 1 this.put_request.Kinds.ps this.put_request.Kinds.r this.put_request.Reads.Post (λ κs x s. s.0.now)
put_request_one κs a x y s t p q = p ∙ sym q
