-- ALL CASES: after a flag, any bits are of one of five kinds, to a hunting receiver of one of three, and `Wire` has a law for each.
use mathlib.Core.Path.{◌≡◌, refl, sym, ap, ◌∙◌}
use mathlib.Core.Logic.{◌⊎◌, ⊎_elim, inl, inr}
use mathlib.Core.List.{List, [], ◌∷◌, ◌++◌, append_assoc, append-nil, List-discrete}
use Prim.Native.Nat.{ℕ, zero, suc, ◌+◌, ◌-◌, ◌≤◌, ◌<◌}
use native.Mathlib.Nat.{eq-or-lt_of_le}
use native.Mathlib.Omega.{arith}
use borrow.Author.Tests.{leb-true, leb-false, ne_eqb}
use lib.Dec.{leb, lit<, lit≤}
use native.Mathlib.Decide.{ℕ_discrete}
use lib.ListN.{length, take, drop, get_or, replicate, length-append, length-replicate, get_or-replicate, take-append-drop, get_or-append}
use lib.Seq.{get_or_at, take_at, drop_at, take-append-le, drop-append-le}
use Rattle.wire.specs.Bits.{wire}
use Rattle.wire.specs.Frame.{flag}
use Rattle.receiver.specs.declared.Receiver.{Receiver}
use Rattle.wire.proofs.Bits.{AreBits, none, more, bits_wire, bits_drop}
use Rattle.promises.specs.Wire.{absent, six_ones, AfterFlag, unended, six_last, closes, shares, aborts, seen, WhileHunting, flagless, ends_begun, holds_flag}
use Rattle.promises.specs.Calls.{Accepted}
use Rattle.promises.proofs.Steps.{split, each_below, ones_on}
use Rattle.promises.proofs.Stuffing.{too_few, short_run, joined}
use Rattle.promises.proofs.States.{hunted_state, view_held}

-- what stands before a run of ones
data Before : List ℕ → Type 0 where
  nothing : Before []
  zeroed : (a : List ℕ) → absent six_ones a → Before (a ++ (0 ∷ []))

before_join : {pre : List ℕ} → Before pre → (b : List ℕ) → absent six_ones b → absent six_ones (pre ++ b)
before_join nothing b hb = hb
before_join (zeroed a ha) b hb = rw (append_assoc a (0 ∷ []) b) (joined a b ha hb)

before_absent : {pre : List ℕ} → Before pre → absent six_ones pre
before_absent nothing = too_few six_ones [] (lit< tt)
before_absent (zeroed a ha) = joined a [] ha (too_few six_ones [] (lit< tt))

before_last : {pre : List ℕ} → Before pre → get_or pre (length pre - 1) 0 ≡ 0
before_last nothing = refl
before_last (zeroed a ha) =
    let n : length (a ++ (0 ∷ [])) - 1 ≡ length a = rw (length-append a (0 ∷ [])) (omega arith) in
    rw n (get_or_at a 0 [] 0 (length a) refl)

-- ---- the first six ones in a row

six_found : {pre bits : List ℕ} → Before pre → AreBits bits → AfterFlag (pre ++ (six_ones ++ bits))
six_found {pre = pre} p none = six_last pre (before_absent p) (before_last p)
six_found {bits = b ∷ bits} nothing (more (inl z) h) = rw z (shares bits)
six_found {bits = b ∷ bits} (zeroed a ha) (more (inl z) h) = rw (z, append_assoc a (0 ∷ []) (six_ones ++ (0 ∷ bits))) (closes a bits ha)
six_found {pre = pre} {bits = b ∷ bits} p (more (inr z) h) = rw z (aborts pre bits (before_absent p) (before_last p))

module _ (pre : List ℕ) (k : ℕ) (bits : List ℕ) where
  zero_found : (b : ℕ) → b ≡ 0 → AfterFlag (((pre ++ replicate k 1) ++ (0 ∷ [])) ++ bits) → AfterFlag (pre ++ (replicate k 1 ++ (b ∷ bits)))
  zero_found b z h =
      let e : ((pre ++ replicate k 1) ++ (0 ∷ [])) ++ bits ≡ pre ++ (replicate k 1 ++ (0 ∷ bits)) =
      append_assoc (pre ++ replicate k 1) (0 ∷ []) bits ∙ append_assoc pre (replicate k 1) (0 ∷ bits) in
      rw z (rw e at h)

  one_found : (b : ℕ) → b ≡ 1 → k ≤ 5 → Before pre → AreBits bits → (k + 1 ≤ 5 → AfterFlag (pre ++ (replicate (k + 1) 1 ++ bits)))
      → AfterFlag (pre ++ (replicate k 1 ++ (b ∷ bits)))
  one_found b z hk p hb m =
      rw (z, ones_on k bits)
      (⊎_elim (λ (e : k ≡ 5). rw e (six_found p hb)) (λ (e : k < 5). m (omega arith)) (eq-or-lt_of_le hk))

scan : {bits : List ℕ} → AreBits bits → (pre : List ℕ) (k : ℕ) → Before pre → k ≤ 5 → AfterFlag (pre ++ (replicate k 1 ++ bits))
scan none pre k p hk =
    rw (append-nil {A = ℕ} (replicate k 1)) (unended (pre ++ replicate k 1) (before_join p (replicate k 1) (short_run k hk)))
scan {bits = b ∷ bits} (more (inl z) hb) pre k p hk =
    zero_found pre k bits b z
    (scan hb ((pre ++ replicate k 1) ++ (0 ∷ [])) 0 (zeroed (pre ++ replicate k 1) (before_join p (replicate k 1) (short_run k hk))) (lit≤ tt))
scan {bits = b ∷ bits} (more (inr z) hb) pre k p hk = one_found pre k bits b z hk p hb (λ h. scan hb pre (k + 1) p h)

-- THERE IS NO OTHER CASE after a flag.
pub all_cases : (input : List ℕ) (start : ℕ) → AfterFlag (drop start (wire input))
all_cases input start = scan (bits_drop start (bits_wire input)) [] 0 nothing (lit≤ tt)

-- ---- hunting: the first flag

record FirstFlag (l : List ℕ) : Type 0 where
  before : List ℕ
  rest : List ℕ
  bits : l ≡ before ++ (flag ++ rest)
  none_yet : absent flag (before ++ take 7 flag)

absent_more : (b : ℕ) (l : List ℕ) → (take 8 (b ∷ l) ≡ flag → ⊥) → absent flag l → absent flag (b ∷ l)
absent_more b l n h zero e = n e
absent_more b l n h (suc i) e = h i e

-- the bits before a flag's last see no further
not_further : (p rest : List ℕ) → take 7 (p ++ (flag ++ rest)) ≡ take 7 (p ++ take 7 flag)
not_further p rest =
    let l : 7 ≤ length (p ++ take 7 flag) = rw (length-append p (take 7 flag)) (omega arith) in
    ap (take 7) (sym (append_assoc p (take 7 flag) (0 ∷ rest))) ∙ take-append-le 7 (p ++ take 7 flag) (0 ∷ rest) l

find : (l : List ℕ) → absent flag l ⊎ FirstFlag l
find [] = inl (too_few flag [] (lit< tt))
find (b ∷ l) = by (List-discrete ℕ_discrete (take 8 (b ∷ l)) flag) (find l)
  where
    by : Dec (take 8 (b ∷ l) ≡ flag) → absent flag l ⊎ FirstFlag l → absent flag (b ∷ l) ⊎ FirstFlag (b ∷ l)
    by (yes e) f =
        inr
        (record {
          before = [];
          rest = drop 8 (b ∷ l);
          bits = sym (take-append-drop 8 (b ∷ l)) ∙ ap (λ (r : List ℕ). r ++ drop 8 (b ∷ l)) e;
          none_yet = too_few flag (take 7 flag) (lit< tt);
        })
    by (no n) (inl h) = inl (absent_more b l n h)
    by (no n) (inr f) =
        let same-front : take 7 l ≡ take 7 (f.before ++ take 7 flag) = ap (take 7) f.bits ∙ not_further f.before f.rest in
        inr
        (record {
          before = b ∷ f.before;
          rest = f.rest;
          bits = ap (λ (r : List ℕ). b ∷ r) f.bits;
          none_yet = absent_more b (f.before ++ take 7 flag) (λ e. n (ap (λ (r : List ℕ). b ∷ r) same-front ∙ e)) f.none_yet;
        })

begun_end : (j : ℕ) (rest : List ℕ) → j ≤ 6 → drop j (six_ones ++ (0 ∷ rest)) ≡ replicate (6 - j) 1 ++ (0 ∷ rest)
begun_end j rest h =
    each_below 7 (λ j. drop j (six_ones ++ (0 ∷ rest)) ≡ replicate (6 - j) 1 ++ (0 ∷ rest))
    (refl, (refl, (refl, (refl, (refl, (refl, (refl, tt))))))) j (omega arith)

seen_none : (j : ℕ) → j ≡ 7 → length (seen j) ≡ 0
unfolding seen
seen_none j e = rw e refl

seen_some : (j : ℕ) → j ≤ 6 → seen j ≡ 0 ∷ replicate j 1
unfolding seen
seen_some j h = rw (ne_eqb j 7 (λ e. omega arith)) refl

module _ (j : ℕ) (bits : List ℕ) where
  -- a flag that begins in what was seen begins with its zero
  begun_before : (p rest : List ℕ) → j ≤ 6 → (0 ∷ replicate j 1) ++ bits ≡ p ++ (flag ++ rest) → length p ≤ j → WhileHunting j bits
  begun_before [] rest h e l =
      let b : bits ≡ replicate (6 - j) 1 ++ (0 ∷ rest) =
      sym (drop_at (replicate j 1) bits j (length-replicate j 1)) ∙ ap (λ (r : List ℕ). drop j (drop 1 r)) e ∙ begun_end j rest h in
      rw b (ends_begun rest h)
  begun_before (x ∷ p) rest h e l =
      let one : get_or (replicate j 1 ++ bits) (length p) 0 ≡ 1 =
      get_or-append (replicate j 1) bits 0 (length p) (rw (length-replicate {A = ℕ} j 1) (omega arith)) ∙ get_or-replicate j (length p) 1 0 (omega arith) in
      let none : get_or (p ++ (flag ++ rest)) (length p) 0 ≡ 0 = get_or_at p 0 (drop 1 flag ++ rest) 0 (length p) refl in
      absurd (omega (arith, ap (λ (r : List ℕ). get_or r (suc (length p)) 0) e))

  -- another begins after it
  begun_after : (f : FirstFlag (seen j ++ bits)) → length (seen j) ≤ length f.before → WhileHunting j bits
  begun_after f h =
      let k : ℕ = length (seen j) in
      let p : List ℕ = drop k f.before in
      let front : seen j ≡ take k f.before =
      sym (take_at (seen j) bits k refl) ∙ ap (take k) f.bits ∙ take-append-le k f.before (flag ++ f.rest) h in
      let b : bits ≡ p ++ (flag ++ f.rest) =
      sym (drop_at (seen j) bits k refl) ∙ ap (drop k) f.bits ∙ drop-append-le k f.before (flag ++ f.rest) h in
      let whole : f.before ++ take 7 flag ≡ seen j ++ (p ++ take 7 flag) =
      ap (λ (r : List ℕ). r ++ take 7 flag) (sym (ap (λ (r : List ℕ). r ++ p) front ∙ take-append-drop k f.before))
      ∙ append_assoc (seen j) p (take 7 flag) in
      rw b (holds_flag p f.rest (rw whole at f.none_yet))

  by_place : j ≤ 7 → absent flag (seen j ++ bits) ⊎ FirstFlag (seen j ++ bits) → WhileHunting j bits
  by_place h (inl a) = flagless bits a
  by_place h (inr f) =
      split (leb (length (seen j)) (length f.before)) (λ t. begun_after f (leb-true (length (seen j)) (length f.before) t))
      (λ t.
      let l : length f.before < length (seen j) = leb-false (length (seen j)) (length f.before) t in
      ⊎_elim (λ (e : j ≡ 7). absurd (omega (arith, seen_none j e)))
      (λ (e : j < 7).
      let s : seen j ≡ 0 ∷ replicate j 1 = seen_some j (omega arith) in
      let n : length f.before ≤ j = omega (arith, ap length s, length-replicate {A = ℕ} j 1) in
      begun_before f.before f.rest (omega arith) (ap (λ (r : List ℕ). r ++ bits) (sym s) ∙ f.bits) n)
      (eq-or-lt_of_le h))

-- NOR FOR A RECEIVER THAT HUNTS, whatever ones it has seen.
pub all_cases_hunting : {rx : Receiver} {input output : List ℕ} {start : ℕ} → Accepted rx input start output → rx.mode ≡ 0
    → WhileHunting rx.ones (drop start (wire input))
all_cases_hunting {rx} {input} {output} {start} a m =
    by_place rx.ones (drop start (wire input)) (hunted_state (view_held rx a.range a.size) m).few (find (seen rx.ones ++ drop start (wire input)))
