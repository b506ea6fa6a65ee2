-- Any two outcomes that a function's contract allows coincide: the result itself, and what it and the lent bytes stand for, for every public function.
use Prim.Native.Nat.{ℕ}
use mathlib.Core.Path.{sym, ap, ◌∙◌}
use Rattle.std.specs.Prelude.{Result}
use Rattle.numbers.specs.declared.Refusal.{Refusal}
use Rattle.parts.proofs.Outcome.{One, OneBeside}
use Rattle.chip.specs.declared.Frame.{Frame}
use Rattle.chip.proofs.Same.{both}
use Rattle.adapter.specs.declared.NoFrame.{NoFrame}
use Rattle.adapter.specs.Answers.{answer_of, number_after}
use Rattle.adapter.specs.Calls.{Made, made, Copied, copied, Outcome, outcome, Stepped, stepped}
use Rattle.adapter.proofs.Same.{done_same, kept_same, answer_same, verdict_same}
use Rattle.adapter.proofs as this

pub create_one : One {B = Result Unit Refusal × Made} 1 this.create.Kinds.ps this.create.Kinds.r this.create.Reads.Post
    (λ κs x s. (x, made (number_after x) s.0.now))
create_one κs a x y s t p q = both (done_same x y (ap (λ (o : Made). o.number) (p ∙ sym q))) (p ∙ sym q)

pub empty_one : One {B = Result Unit Refusal × Made} 1 this.empty.Kinds.ps this.empty.Kinds.r this.empty.Reads.Post
    (λ κs x s. (x, made (number_after x) s.0.now))
empty_one κs a x y s t p q = both (done_same x y (ap (λ (o : Made). o.number) (p ∙ sym q))) (p ∙ sym q)

pub kept_one : One {B = Result ℕ Refusal} 1 this.kept.Kinds.ps this.kept.Kinds.r this.kept.Reads.Post (λ κs x s. x)
kept_one κs a x y s t p q = kept_same x y (p ∙ sym q)

pub enlarge_one : OneBeside {B = Result Unit Refusal × Copied} 2 this.enlarge.Kinds.ps this.enlarge.Kinds.r this.enlarge.Reads.Post
    (λ κs a x s. (x, copied (number_after x) a.0.now s.1.0.now))
enlarge_one κs a x y s t p q = both (done_same x y (ap (λ (o : Copied). o.number) (p ∙ sym q))) (p ∙ sym q)

pub frame_one : One {B = Result Frame NoFrame × Outcome} 4 this.frame.Kinds.ps this.frame.Kinds.r this.frame.Reads.Post
    (λ κs x s. (x, outcome (answer_of x) s.0.now s.1.0.now s.1.1.1.1.0.now))
frame_one κs a x y s t p q = both (answer_same x y (ap (λ (o : Outcome). o.answer) (p ∙ sym q))) (p ∙ sym q)

pub completion_one : One {B = Result Frame NoFrame × Outcome} 4 this.completion.Kinds.ps this.completion.Kinds.r this.completion.Reads.Post
    (λ κs x s. (x, outcome (answer_of x) s.0.now s.1.0.now s.1.1.1.0.now))
completion_one κs a x y s t p q = both (answer_same x y (ap (λ (o : Outcome). o.answer) (p ∙ sym q))) (p ∙ sym q)

pub i2c_completion_one : One {B = Result Frame NoFrame × Outcome} 4 this.i2c_completion.Kinds.ps this.i2c_completion.Kinds.r this.i2c_completion.Reads.Post
    (λ κs x s. (x, outcome (answer_of x) s.0.now s.1.0.now s.1.1.1.1.1.1.0.now))
i2c_completion_one κs a x y s t p q = both (answer_same x y (ap (λ (o : Outcome). o.answer) (p ∙ sym q))) (p ∙ sym q)

pub sample_one : One {B = Result Frame NoFrame × Outcome} 3 this.sample.Kinds.ps this.sample.Kinds.r this.sample.Reads.Post
    (λ κs x s. (x, outcome (answer_of x) s.0.now s.1.0.now s.1.1.1.1.0.now))
sample_one κs a x y s t p q = both (answer_same x y (ap (λ (o : Outcome). o.answer) (p ∙ sym q))) (p ∙ sym q)

pub upset_one : One {B = Result Frame NoFrame × Outcome} 3 this.upset.Kinds.ps this.upset.Kinds.r this.upset.Reads.Post
    (λ κs x s. (x, outcome (answer_of x) s.0.now s.1.0.now s.1.1.0.now))
upset_one κs a x y s t p q = both (answer_same x y (ap (λ (o : Outcome). o.answer) (p ∙ sym q))) (p ∙ sym q)

pub step_back_one : One {B = Result Unit Refusal × Stepped} 2 this.step_back.Kinds.ps this.step_back.Kinds.r this.step_back.Reads.Post
    (λ κs x s. (x, stepped (number_after x) s.0.now s.1.0.now))
step_back_one κs a x y s t p q = both (done_same x y (ap (λ (o : Stepped). o.number) (p ∙ sym q))) (p ∙ sym q)

-- what crate `batch` calls: the first refusal, and a sample that nothing refused
pub judge_one : One {B = Result Unit Refusal} 2 this.judge.Kinds.ps this.judge.Kinds.r this.judge.Reads.Post (λ κs x s. x)
judge_one κs a x y s t p q = verdict_same x y (p ∙ sym q)

pub events_sample_one : One {B = Result Frame NoFrame × Outcome} 3 this.events.sample.Kinds.ps this.events.sample.Kinds.r this.events.sample.Reads.Post
    (λ κs x s. (x, outcome (answer_of x) s.0.now s.1.0.now s.1.1.1.1.0.now))
events_sample_one κs a x y s t p q = both (answer_same x y (ap (λ (o : Outcome). o.answer) (p ∙ sym q))) (p ∙ sym q)
