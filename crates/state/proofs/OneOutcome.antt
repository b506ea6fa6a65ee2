-- Any two outcomes that a public function's contract allows coincide.
use mathlib.Core.Path.{sym, ◌∙◌}
use Rattle.parts.proofs.Outcome.{One}
use Rattle.state.proofs as this

pub power_on_one : One 1 this.power_on.Kinds.ps this.power_on.Kinds.r this.power_on.Reads.Post (λ κs x s. s.0.now)
power_on_one κs a x y s t e f = e ∙ sym f

pub link_of_one : One 1 this.link_of.Kinds.ps this.link_of.Kinds.r this.link_of.Reads.Post (λ κs x s. x)
link_of_one κs a x y s t e f = e ∙ sym f

pub store_link_one : One 1 this.store_link.Kinds.ps this.store_link.Kinds.r this.store_link.Reads.Post (λ κs x s. s.0.now)
store_link_one κs a x y s t e f = e ∙ sym f

pub is_state_one : One 1 this.is_state.Kinds.ps this.is_state.Kinds.r this.is_state.Reads.Post (λ κs x s. x)
is_state_one κs a x y s t e f = e ∙ sym f
