-- Two answers of code that stand for one answer of the documents are the same answer; what `OneOutcome` is proved with.
use Prim.Native.Nat.{ℕ}
use mathlib.Core.Bool.{Bool}
use mathlib.Core.Path.{◌≡◌, refl, sym, ap, ap₂, ◌∙◌}
use native.Mathlib.Omega.{arith}
use Rattle.std.specs.Prelude.{Result, Ok, Err}
use Rattle.numbers.specs.Numbers as number
use Rattle.numbers.specs.Answers.{refusal_number}
use Rattle.numbers.specs.declared.Refusal.{Refusal}
use Rattle.numbers.proofs.Same.{refusal_of, refusal_back, refusal_same, refusal_some}
use Rattle.control_room.specs.declared.Given.{Given}
use Rattle.control_room.specs.Given as room

-- two pairs are alike where their parts are
pub both : {A B : Type 0} {x y : A} {u v : B} → x ≡ y → u ≡ v → ◌≡◌ {A = A × B} (x, u) (y, v)
both {A} {B} p q = ap₂ (λ (a : A) (b : B). let w : A × B = (a, b) in w) p q

never_17 : (r : Refusal) → refusal_number r ≡ number.no_frame → ⊥
never_17 r e =
    let z : refusal_number r ≡ number.no_command = ap refusal_number (sym (refusal_back r) ∙ ap refusal_of e) in
    omega (arith, e, z)

refused_same : {A : Type 0} (r s : Refusal) → refusal_number r ≡ refusal_number s → ◌≡◌ {A = Result A Refusal} (Err r) (Err s)
refused_same {A} r s e = ap (λ (x : Refusal). let y : Result A Refusal = Err x in y) (refusal_same r s e)

pub made_same : (x y : Result Unit Refusal) → room.number_after x ≡ room.number_after y → x ≡ y
made_same (Ok m) (Ok n) e = refl
made_same (Ok m) (Err s) e = absurd (never_17 s (sym e))
made_same (Err r) (Ok n) e = absurd (never_17 r e)
made_same (Err r) (Err s) e = refused_same r s e

told_same : {m n : ℕ} {t u : Bool} → m ≡ n → t ≡ u
    → ◌≡◌ {A = Given} (record { length = m; interrupt = t }) (record { length = n; interrupt = u })
told_same e f = cc

pub given_same : (x y : Result Given Refusal) → room.given_of x ≡ room.given_of y → x ≡ y
given_same (Ok g) (Ok h) e =
    ap (λ (k : Given). let x : Result Given Refusal = Ok k in x)
    (told_same (ap (λ (k : room.Given). k.length) e) (ap (λ (k : room.Given). k.interrupt) e))
given_same (Ok g) (Err s) e = absurd (omega (arith, refusal_some s, ap (λ (k : room.Given). k.number) e))
given_same (Err r) (Ok h) e = absurd (omega (arith, refusal_some r, ap (λ (k : room.Given). k.number) e))
given_same (Err r) (Err s) e = refused_same r s (ap (λ (k : room.Given). k.number) e)
