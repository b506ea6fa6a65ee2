-- Any two outcomes that a public function's contract allows coincide.
use mathlib.Core.List.{List}
use mathlib.Core.Path.{sym, ap₂, ◌∙◌}
use Prim.Native.Nat.{ℕ}
use Rattle.commands.specs.declared.request.Reply.{Reply}
use Rattle.std.specs.Prelude.{Option}
use Rattle.bits.proofs.Outcome.{OneOutcome}
use Rattle.parts.proofs.Outcome.{One}
use Rattle.channels.proofs as this

pub answer_one : One {B = Option Reply × List ℕ} 1 this.answer.Kinds.ps this.answer.Kinds.r this.answer.Reads.Post (λ κs x s. (x, s.0.now))
answer_one κs a x y s t e f = ap₂ (λ (p : Option Reply) (l : List ℕ). (p, l)) (e.0 ∙ sym f.0) (e.1 ∙ sym f.1)

pub is_enabled_one : One 1 this.is_enabled.Kinds.ps this.is_enabled.Kinds.r this.is_enabled.Reads.Post (λ κs x s. x)
is_enabled_one κs a x y s t e f = e ∙ sym f

pub is_busy_one : One 1 this.is_busy.Kinds.ps this.is_busy.Kinds.r this.is_busy.Reads.Post (λ κs x s. x)
is_busy_one κs a x y s t e f = e ∙ sym f

pub rows_is_enabled_one : One 1 this.rows.is_enabled.Kinds.ps this.rows.is_enabled.Kinds.r this.rows.is_enabled.Reads.Post (λ κs x s. x)
rows_is_enabled_one κs a x y s t e f = e ∙ sym f

pub rows_is_busy_one : One 1 this.rows.is_busy.Kinds.ps this.rows.is_busy.Kinds.r this.rows.is_busy.Reads.Post (λ κs x s. x)
rows_is_busy_one κs a x y s t e f = e ∙ sym f

pub are_sound_one : One 1 this.are_sound.Kinds.ps this.are_sound.Kinds.r this.are_sound.Reads.Post (λ κs x s. x)
are_sound_one κs a x y s t e f = e ∙ sym f

pub master_group_one : OneOutcome 0 this.rows.master_group.Kinds.ps this.rows.master_group.Kinds.r this.rows.master_group.Reads.Post
master_group_one κs a x y s t e f = e ∙ sym f

pub group_for_one : OneOutcome 0 this.groups.group_for.Kinds.ps this.groups.group_for.Kinds.r this.groups.group_for.Reads.Post
group_for_one κs a x y s t e f = e ∙ sym f

pub span_of_one : OneOutcome 0 this.groups.span_of.Kinds.ps this.groups.span_of.Kinds.r this.groups.span_of.Reads.Post
span_of_one κs a x y s t e f = e ∙ sym f
