-- Any two outcomes that a function's contract allows coincide: the result and every lent byte, for every public function.
use mathlib.Core.Bool.{Bool, cond}
use mathlib.Core.List.{List}
use mathlib.Core.Path.{sym, ap, ap₂, ◌∙◌}
use Prim.Native.Nat.{ℕ}
use Rattle.parts.proofs.Outcome.{One}
use Rattle.journal.specs.Layout.{past}
use Rattle.journal.specs.Record.{restored}
use Rattle.journal.proofs as this

pub is_wrong_length_one : One 1 this.is_wrong_length.Kinds.ps this.is_wrong_length.Kinds.r this.is_wrong_length.Reads.Post (λ κs x s. x)
is_wrong_length_one κs a x y s t p q = p ∙ sym q

pub is_well_formed_one : One 1 this.is_well_formed.Kinds.ps this.is_well_formed.Kinds.r this.is_well_formed.Reads.Post (λ κs x s. x)
is_well_formed_one κs a x y s t p q = p ∙ sym q

pub is_small_one : One 1 this.is_small.Kinds.ps this.is_small.Kinds.r this.is_small.Reads.Post (λ κs x s. x)
is_small_one κs a x y s t p q = p ∙ sym q

pub empty_one : One 1 this.empty.Kinds.ps this.empty.Kinds.r this.empty.Reads.Post (λ κs x s. s.0.now)
empty_one κs a x y s t p q = p ∙ sym q

pub keep_one : One 2 this.keep.Kinds.ps this.keep.Kinds.r this.keep.Reads.Post (λ κs x s. s.0.now)
keep_one κs a x y s t p q = p ∙ sym q

-- the state is chosen by what is given
pub restore_one : One {B = Bool × List ℕ × List ℕ} 2 this.restore.Kinds.ps this.restore.Kinds.r this.restore.Reads.Post
    (λ κs x s. (x, s.1.0.now, s.0.now))
restore_one κs a x y s t p q =
    let same = p.0 ∙ sym q.0 in
    let state =
    p.1 ∙ ap (λ (b : Bool). cond b (restored a.1.0.now (past a.0.now 0)) a.1.0.now) same ∙ sym q.1 in
    ap₂ (λ (b : Bool) (l : List ℕ × List ℕ). (b, l.0, l.1)) same (ap₂ (λ (l m : List ℕ). (l, m)) state (p.2 ∙ sym q.2))

pub lower_one : One 1 this.lower.Kinds.ps this.lower.Kinds.r this.lower.Reads.Post (λ κs x s. s.0.now)
lower_one κs a x y s t p q = p ∙ sym q

pub enlarge_one : One 2 this.enlarge.Kinds.ps this.enlarge.Kinds.r this.enlarge.Reads.Post (λ κs x s. s.1.0.now)
enlarge_one κs a x y s t p q = p ∙ sym q
