-- Any two outcomes that a function's contract allows coincide.
use mathlib.Core.Path.{sym, ◌∙◌}
use Rattle.parts.proofs.Outcome.{One}
use Rattle.wire.proofs as this

pub register_one : One 1 this.register.Kinds.ps this.register.Kinds.r this.register.Reads.Post (λ κs x s. x)
register_one κs a x y s t p q = p ∙ sym q
