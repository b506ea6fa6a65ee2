-- Any two outcomes that a public function's contract allows coincide: the response itself, and what it and the lent bytes stand for.
use Rattle.std.proofs.Common.{[], sym, ap, ◌∙◌}
use Rattle.bits.proofs.Outcome.{OneOutcome}
use Rattle.parts.proofs.Outcome.{One}
use Rattle.chip.specs.declared.Response.{Response}
use Rattle.chip.specs.Inner.{Said, said}
use Rattle.chip.proofs.Same.{both, response_same}
use Rattle.chip.proofs as this

pub is_reset_one : OneOutcome 1 this.events.is_reset.Kinds.ps this.events.is_reset.Kinds.r this.events.is_reset.Reads.Post
is_reset_one κs a x y s t e f = e ∙ sym f

pub group_of_one : OneOutcome 1 this.events.group_of.Kinds.ps this.events.group_of.Kinds.r this.events.group_of.Reads.Post
group_of_one κs a x y s t e f = e ∙ sym f

pub on_frame_one : One {B = Response × Said} 3 this.events.on_frame.Kinds.ps this.events.on_frame.Kinds.r this.events.on_frame.Reads.Post
    (λ κs x s. (x, said x s.1.0.now s.1.1.1.1.0.now))
on_frame_one κs a x y s t e f = both (response_same x y (ap (λ (o : Said). o.response) (e ∙ sym f))) (e ∙ sym f)

pub on_spi_one : One {B = Response × Said} 3 this.events.on_spi.Kinds.ps this.events.on_spi.Kinds.r this.events.on_spi.Reads.Post
    (λ κs x s. (x, said x s.1.0.now s.1.1.1.0.now))
on_spi_one κs a x y s t e f = both (response_same x y (ap (λ (o : Said). o.response) (e ∙ sym f))) (e ∙ sym f)

pub on_i2c_one : One {B = Response × Said} 3 this.events.on_i2c.Kinds.ps this.events.on_i2c.Kinds.r this.events.on_i2c.Reads.Post
    (λ κs x s. (x, said x s.1.0.now s.1.1.1.1.1.1.0.now))
on_i2c_one κs a x y s t e f = both (response_same x y (ap (λ (o : Said). o.response) (e ∙ sym f))) (e ∙ sym f)

pub group_of_i2c_one : OneOutcome 0 this.events.group_of_i2c.Kinds.ps this.events.group_of_i2c.Kinds.r this.events.group_of_i2c.Reads.Post
group_of_i2c_one κs a x y s t e f = e ∙ sym f

pub on_sample_one : One {B = Response × Said} 2 this.events.on_sample.Kinds.ps this.events.on_sample.Kinds.r this.events.on_sample.Reads.Post
    (λ κs x s. (x, said x s.1.0.now s.1.1.1.1.0.now))
on_sample_one κs a x y s t e f = both (response_same x y (ap (λ (o : Said). o.response) (e ∙ sym f))) (e ∙ sym f)

pub on_upset_one : One {B = Response × Said} 1 this.events.on_upset.Kinds.ps this.events.on_upset.Kinds.r this.events.on_upset.Reads.Post
    (λ κs x s. (x, said x s.1.0.now []))
on_upset_one κs a x y s t e f = both (response_same x y (ap (λ (o : Said). o.response) (e [] ∙ sym (f [])))) (e [] ∙ sym (f []))
