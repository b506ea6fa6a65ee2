-- Any two outcomes that a function's contract allows coincide: the result and every lent byte, for every public function.
use mathlib.Core.Path.{sym, ◌∙◌}
use Rattle.parts.proofs.Outcome.{One}
use Rattle.listing.specs.Answer.{wrote}
use Rattle.listing.proofs as this

pub hex_value_one : One 0 this.characters.hex_value.Kinds.ps this.characters.hex_value.Kinds.r this.characters.hex_value.Reads.Post (λ κs x s. x)
hex_value_one κs a x y s t p q = p ∙ sym q

pub load_pairs_one : One 2 this.characters.load_pairs.Kinds.ps this.characters.load_pairs.Kinds.r this.characters.load_pairs.Reads.Post (λ κs x s. s.1.0.now)
load_pairs_one κs a x y s t p q = p ∙ sym q

pub form_of_one : One 1 this.line.form_of.Kinds.ps this.line.form_of.Kinds.r this.line.form_of.Reads.Post (λ κs x s. x)
form_of_one κs a x y s t p q = p ∙ sym q

pub levels_one : One 1 this.line.levels.Kinds.ps this.line.levels.Kinds.r this.line.levels.Reads.Post (λ κs x s. x)
levels_one κs a x y s t p q = p ∙ sym q

pub i2c_channel_one : One 1 this.line.i2c_channel.Kinds.ps this.line.i2c_channel.Kinds.r this.line.i2c_channel.Reads.Post (λ κs x s. x)
i2c_channel_one κs a x y s t p q = p ∙ sym q

pub i2c_acknowledge_one : One 1 this.line.i2c_acknowledge.Kinds.ps this.line.i2c_acknowledge.Kinds.r this.line.i2c_acknowledge.Reads.Post (λ κs x s. x)
i2c_acknowledge_one κs a x y s t p q = p ∙ sym q

pub i2c_line_low_one : One 1 this.line.i2c_line_low.Kinds.ps this.line.i2c_line_low.Kinds.r this.line.i2c_line_low.Reads.Post (λ κs x s. x)
i2c_line_low_one κs a x y s t p q = p ∙ sym q

pub put_answer_one : One 2 this.answer.put_answer.Kinds.ps this.answer.put_answer.Kinds.r this.answer.put_answer.Reads.Post (λ κs x s. wrote x s.0.now)
put_answer_one κs a x y s t p q = p.0 ∙ sym q.0
