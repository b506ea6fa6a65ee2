-- A test that is computed at each number below another.
use mathlib.Core.Path.{◌≡◌, sym, subst}
use mathlib.Core.Bool.{Bool, true, false, ◌&&◌}
use mathlib.Core.Logic.{◌⊎◌, inl, inr}
use Prim.Native.Nat.{ℕ, zero, suc, ◌<◌}
use native.Mathlib.Nat.{not-suc-le-zero, le_of_suc-le-suc, eq-or-lt_of_le}
use native.Mathlib.Omega.{arith}
use lib.Dec.{T}

pub apart : {A : Type 0} → false ≡ true → A
apart h = absurd (let z : ◌≡◌ {A = ℕ} 0 1 = cc in omega arith)

abbrev pub below : (ℕ → Bool) → ℕ → Bool
below f zero = true
below f (suc n) = f n && below f n

pub and_left : (a b : Bool) → T (a && b) → T a
and_left true b t = tt
and_left false b t = t

pub and_right : (a b : Bool) → T (a && b) → T b
and_right true b t = t
and_right false b t = absurd t

pub at_each : (f : ℕ → Bool) (n : ℕ) → T (below f n) → (k : ℕ) → k < n → T (f k)
at_each f zero t k h = absurd (not-suc-le-zero h)
at_each f (suc n) t k h = by (and_left (f n) (below f n) t) (at_each f n (and_right (f n) (below f n) t) k) (eq-or-lt_of_le (le_of_suc-le-suc h))
  where
    by : T (f n) → (k < n → T (f k)) → (k ≡ n) ⊎ (k < n) → T (f k)
    by now before (inl e) = subst (λ (x : ℕ). T (f x)) (sym e) now
    by now before (inr l) = before l
