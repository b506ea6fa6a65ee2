-- Laws of stuffed bits: no six ones in a row, taken out again they are the content, and how long they are; and of bits that hold no pattern.
use mathlib.Core.Path.{◌≡◌, refl, sym, ap, ◌∙◌}
use mathlib.Core.Bool.{false}
use mathlib.Core.Logic.{⊎_elim, inl, inr}
use mathlib.Core.List.{List, [], ◌∷◌, ◌++◌, append-nil}
use Prim.Native.Nat.{ℕ, zero, suc, ◌+◌, ◌*◌, ◌≤◌, ◌<◌}
use native.Mathlib.Nat.{eq-or-lt_of_le}
use native.Mathlib.Omega.{arith}
use borrow.Author.Tests.{ne_eqb, leb-true, leb-false}
use lib.Dec.{eqb, leb, lit≤}
use lib.ListN.{length, take, get_or, replicate, length-take, length-drop, length-replicate, get_or-replicate}
use lib.Seq.{get_or-take, get_or_at, take-append-le}
use Rattle.wire.specs.Frame.{stuff}
use Rattle.wire.proofs.Bits.{AreBits, none, more}
use Rattle.promises.specs.Wire.{absent, six_ones, unstuff}
use Rattle.promises.proofs.Steps.{split, absent_drop, ones_on}

-- one induction for every law of stuffed bits
module _ (P : ℕ → List ℕ → List ℕ → Type 0) (at_end : (k : ℕ) → k ≤ 4 → P k [] [])
    (at_zero : (k : ℕ) (bs r : List ℕ) → k ≤ 4 → P 0 bs r → P k (0 ∷ bs) (0 ∷ r))
    (at-fifth : (bs r : List ℕ) → P 0 bs r → P 4 (1 ∷ bs) (1 ∷ 0 ∷ r))
    (at_one : (k : ℕ) (bs r : List ℕ) → k < 4 → P (k + 1) bs r → P k (1 ∷ bs) (1 ∷ r)) where
  by_bits : {bs : List ℕ} → AreBits bs → (k : ℕ) → k ≤ 4 → P k bs (stuff k bs)
  unfolding stuff
  by_bits none k h = at_end k h
  by_bits {bs = b ∷ bs} (more (inl z) hb) k h = rw z (at_zero k bs (stuff 0 bs) h (by_bits hb 0 (lit≤ tt)))
  by_bits {bs = b ∷ bs} (more (inr z) hb) k h =
      rw z
      (⊎_elim (λ (e : k ≡ 4). rw e (at-fifth bs (stuff 0 bs) (by_bits hb 0 (lit≤ tt))))
      (λ (e : k < 4).
      let other : eqb k 4 ≡ false = ne_eqb k 4 (λ q. omega arith) in
      rw other (at_one k bs (stuff (k + 1) bs) e (by_bits hb (k + 1) (omega arith))))
      (eq-or-lt_of_le h))

pub bits_stuff : {bs : List ℕ} → AreBits bs → AreBits (stuff 0 bs)
bits_stuff hb =
    by_bits (λ (k : ℕ) (bs r : List ℕ). AreBits r) (λ k h. none) (λ k bs r h m. more (inl refl) m)
    (λ bs r m. more (inr refl) (more (inl refl) m)) (λ k bs r h m. more (inr refl) m) hb 0 (lit≤ tt)

pub unstuff_stuff : {bs : List ℕ} → AreBits bs → unstuff 0 (stuff 0 bs) ≡ bs
unfolding unstuff
unstuff_stuff hb =
    by_bits (λ (k : ℕ) (bs r : List ℕ). unstuff k r ≡ bs) (λ k h. refl)
    (λ k bs r h m. let e : eqb k 5 ≡ false = ne_eqb k 5 (λ q. omega arith) in rw e (ap (λ (l : List ℕ). 0 ∷ l) m))
    (λ bs r m. ap (λ (l : List ℕ). 1 ∷ l) m) (λ k bs r h m. ap (λ (l : List ℕ). 1 ∷ l) m) hb 0 (lit≤ tt)

-- ---- bits that hold no pattern

-- fewer bits than the pattern has
pub too_few : (p b : List ℕ) → length b < length p → absent p b
too_few p b h i e = omega (arith, simp (length-take, length-drop) at (ap length e))

pub short_run : (k : ℕ) → k ≤ 5 → absent six_ones (replicate k 1)
short_run k h = too_few six_ones (replicate k 1) (rw length-replicate (omega arith))

-- bits without six ones in a row, joined by a zero
pub joined : (a b : List ℕ) → absent six_ones a → absent six_ones b → absent six_ones (a ++ (0 ∷ b))
joined a b ha hb zero e =
    split (leb 6 (length a)) (λ t. ha 0 (sym (take-append-le 6 a (0 ∷ b) (leb-true 6 (length a) t)) ∙ e))
    (λ t.
    let l : length a < 6 = leb-false 6 (length a) t in
    let z : get_or (take 6 (a ++ (0 ∷ b))) (length a) 0 ≡ 0 = get_or-take 6 (a ++ (0 ∷ b)) (length a) 0 l ∙ get_or_at a 0 b 0 (length a) refl in
    omega (arith, ap (λ (x : List ℕ). get_or x (length a) 0) e, get_or-replicate {A = ℕ} 6 (length a) 1 0 l))
joined [] b ha hb (suc i) e = hb i e
joined (x ∷ a) b ha hb (suc i) e = joined a b (absent_drop six_ones (x ∷ a) 1 ha) hb i e

pub no_six : {bs : List ℕ} → AreBits bs → absent six_ones (stuff 0 bs)
no_six hb =
    by_bits (λ (k : ℕ) (bs r : List ℕ). absent six_ones (replicate k 1 ++ r))
    (λ k h. rw append-nil (short_run k (omega arith)))
    (λ k bs r h m. joined (replicate k 1) r (short_run k (omega arith)) m) (λ bs r m. joined (replicate 5 1) r (short_run 5 (lit≤ tt)) m)
    (λ k bs r h m. rw (ones_on k r) m) hb 0 (lit≤ tt)

pub stuff_least : {bs : List ℕ} → AreBits bs → length bs ≤ length (stuff 0 bs)
stuff_least hb =
    by_bits (λ (k : ℕ) (bs r : List ℕ). length bs ≤ length r) (λ k h. lit≤ tt) (λ k bs r h m. omega arith) (λ bs r m. omega arith)
    (λ k bs r h m. omega arith) hb 0 (lit≤ tt)

pub stuff_most : {bs : List ℕ} → AreBits bs → 5 * length (stuff 0 bs) ≤ 6 * length bs
stuff_most {bs = bs} hb =
    let m : 5 * length (stuff 0 bs) ≤ 0 + 6 * length bs =
    by_bits (λ (k : ℕ) (bs r : List ℕ). 5 * length r ≤ k + 6 * length bs) (λ k h. omega arith) (λ k bs r h m. omega arith)
    (λ bs r m. omega arith) (λ k bs r h m. omega arith) hb 0 (lit≤ tt) in
    omega arith

-- what is left when stuffed zeros are taken out is bits
pub bits_unstuff : (raw : List ℕ) (k : ℕ) → AreBits (unstuff k raw)
unfolding unstuff
bits_unstuff [] k = none
bits_unstuff (b ∷ bs) k =
    split (eqb b 0)
    (λ e. split (eqb k 5) (λ f. rw (e, f) (bits_unstuff bs 0)) (λ f. rw (e, f) (more (inl refl) (bits_unstuff bs 0))))
    (λ e. rw e (more (inr refl) (bits_unstuff bs (k + 1))))
