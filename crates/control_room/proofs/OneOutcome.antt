-- Any two outcomes that a function's contract allows coincide: the result itself, and what it and the lent bytes stand for, for every public function.
use mathlib.Core.Path.{sym, ap, ◌∙◌}
use Rattle.std.specs.Prelude.{Result}
use Rattle.numbers.specs.declared.Refusal.{Refusal}
use Rattle.parts.proofs.Outcome.{One}
use Rattle.control_room.specs.declared.Given.{Given}
use Rattle.control_room.specs.Given.{given_of, number_after}
use Rattle.control_room.specs.Calls.{Made, made, Outcome, outcome}
use Rattle.control_room.proofs.Same.{both, made_same, given_same}
use Rattle.control_room.proofs as this

pub new_record_one : One {B = Result Unit Refusal × Made} 1 this.new_record.Kinds.ps this.new_record.Kinds.r this.new_record.Reads.Post
    (λ κs x s. (x, made (number_after x) s.0.now))
new_record_one κs a x y s t p q = both (made_same x y (ap (λ (o : Made). o.number) (p ∙ sym q))) (p ∙ sym q)

pub request_one : One {B = Result Given Refusal × Outcome} 2 this.request.Kinds.ps this.request.Kinds.r this.request.Reads.Post
    (λ κs x s. (x, outcome (given_of x) s.0.now s.1.1.1.1.0.now))
request_one κs a x y s t p q = both (given_same x y (ap (λ (o : Outcome). o.given) (p ∙ sym q))) (p ∙ sym q)

pub reply_one : One {B = Result Given Refusal × Outcome} 3 this.reply.Kinds.ps this.reply.Kinds.r this.reply.Reads.Post
    (λ κs x s. (x, outcome (given_of x) s.0.now s.1.1.0.now))
reply_one κs a x y s t p q = both (given_same x y (ap (λ (o : Outcome). o.given) (p ∙ sym q))) (p ∙ sym q)

pub command_one : One {B = Result Given Refusal × Outcome} 2 this.command.Kinds.ps this.command.Kinds.r this.command.Reads.Post
    (λ κs x s. (x, outcome (given_of x) s.0.now s.1.1.0.now))
command_one κs a x y s t p q = both (given_same x y (ap (λ (o : Outcome). o.given) (p ∙ sym q))) (p ∙ sym q)
