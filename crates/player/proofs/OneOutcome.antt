-- Any two outcomes that a function's contract allows coincide: the result and every lent byte, for every public function.
use mathlib.Core.Path.{sym, ap, ◌∙◌}
use Rattle.std.specs.Prelude.{Result}
use Rattle.chip.specs.declared.Frame.{Frame}
use Rattle.chip.proofs.Same.{both}
use Rattle.adapter.specs.declared.NoFrame.{NoFrame}
use Rattle.adapter.specs.Answers.{answer_of}
use Rattle.adapter.specs.Calls.{Outcome, outcome}
use Rattle.adapter.proofs.Same.{answer_same}
use Rattle.parts.proofs.Outcome.{One}
use Rattle.player.specs.Parts.{left, fed}
use Rattle.player.proofs as this

pub hear_one : One {B = Result Frame NoFrame × Outcome} 4 this.calls.hear.Kinds.ps this.calls.hear.Kinds.r this.calls.hear.Reads.Post
    (λ κs x s. (x, outcome (answer_of x) s.0.now s.1.0.now s.1.1.1.0.now))
hear_one κs a x y s t p q = both (answer_same x y (ap (λ (o : Outcome). o.answer) (p ∙ sym q))) (p ∙ sym q)

pub play_line_one : One 4 this.play_line.Kinds.ps this.play_line.Kinds.r this.play_line.Reads.Post (λ κs x s. left x s.0.now s.1.0.now s.1.1.1.0.now)
play_line_one κs a x y s t p q = p.0 ∙ sym q.0

pub start_one : One 1 this.start.Kinds.ps this.start.Kinds.r this.start.Reads.Post (λ κs x s. s.0.now)
start_one κs a x y s t p q = p ∙ sym q

pub feed_one : One 5 this.feed.Kinds.ps this.feed.Kinds.r this.feed.Reads.Post
    (λ κs x s. fed x s.0.now s.1.1.0.now s.1.1.1.0.now s.1.1.1.1.1.0.now)
feed_one κs a x y s t p q = p.0 ∙ sym q.0

pub finish_one : One 4 this.finish.Kinds.ps this.finish.Kinds.r this.finish.Reads.Post
    (λ κs x s. fed x s.0.now s.1.1.0.now s.1.1.1.0.now s.1.1.1.1.0.now)
finish_one κs a x y s t p q = p.0 ∙ sym q.0
