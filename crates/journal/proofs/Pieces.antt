-- Two pieces of one list of bytes over those of another that is the same elsewhere: the first list. What a lent part that has come back leaves.
-- Assumes nothing.
use Prim.Native.Nat.{ℕ, ◌+◌, ◌-◌, ◌≤◌}
use mathlib.Core.Path.{◌≡◌, sym, ap, ◌∙◌}
use mathlib.Core.List.{List, ◌++◌, append_assoc}
use native.Mathlib.Omega.{arith}
use borrow.Rule.Slice.PartMut.{put_mid}
use lib.ListN.{length, take, drop, length-drop, take-append-drop}
use lib.Seq.{take-add, take_all, drop-drop, drop-append-le, length-take-le}
use Rattle.parts.specs.Parts.{part, put}
use Rattle.parts.proofs.Laws.{length_part, length_put, part_put_before, part_put_after, part_put_same}

front : (n : ℕ) (d : List ℕ) → length d ≤ n → part 0 n d ≡ d
unfolding part
front n d h = take_all n d h

pub joined : (d : List ℕ) (p k n : ℕ) → part p k d ++ part (p + k) n d ≡ part p (k + n) d
unfolding part
joined d p k n = ap (λ (l : List ℕ). take k (drop p d) ++ take n l) (sym (drop-drop k p d)) ∙ sym (take-add k n (drop p d))

joined_front : (d : List ℕ) (k n : ℕ) → part 0 k d ++ part k n d ≡ part 0 (k + n) d
unfolding part
joined_front d k n = sym (take-add k n d)

-- a lent part that has come back as it was
pub came_back : (a n : ℕ) (j x : List ℕ) → x ≡ take n (drop a j) → put_mid a n j x ≡ j
came_back a n j x e = rw e (ap (λ (l : List ℕ). take a j ++ l) (take-append-drop n (drop a j)) ∙ take-append-drop a j)

-- one with bytes put at its front
pub front_written : (a n : ℕ) (j r x : List ℕ) → a + n ≤ length j → length r ≤ n → x ≡ put 0 r (take (a + n - a) (drop a j))
    → put_mid a (a + n - a) j x ≡ put a r j
unfolding put
front_written a n j r x h l e =
    let m : a + n - a ≡ n = omega arith in
    let z : 0 + length r ≡ length r = omega arith in
    let d : List ℕ = drop a j in
    let k : length (take n d) ≡ n = length-take-le n d (simp length-drop (omega arith)) in
    rw (e, m, z)
    (ap (λ (q : List ℕ). take a j ++ q)
    (append_assoc r (drop (length r) (take n d)) (drop n d)
    ∙ ap (λ (q : List ℕ). r ++ q)
    (sym (drop-append-le (length r) (take n d) (drop n d) (omega arith)) ∙ ap (drop (length r)) (take-append-drop n d) ∙ drop-drop (length r) a j)))

module _ (c x m y : ℕ) where
  abbrev in_pieces : List ℕ → List ℕ
  in_pieces d = part 0 c d ++ (part c x d ++ (part (c + x) m d ++ part (c + x + m) y d))

  pieces : (d : List ℕ) → length d ≡ c + (x + (m + y)) → in_pieces d ≡ d
  pieces d n =
      ap (λ (l : List ℕ). part 0 c d ++ (part c x d ++ l)) (joined d (c + x) m y)
      ∙ ap (λ (l : List ℕ). part 0 c d ++ l) (joined d c x (m + y))
      ∙ joined_front d c (x + (m + y))
      ∙ front (c + (x + (m + y))) d (omega arith)

  -- c bytes and m bytes of s over those of t, where the others are the same
  module _ (s t : List ℕ) (n : length s ≡ c + (x + (m + y))) (k : length t ≡ c + (x + (m + y))) (gap : part c x t ≡ part c x s)
      (tail : part (c + x + m) y t ≡ part (c + x + m) y s) where
    abbrev core : List ℕ
    core = part 0 c s

    abbrev group : List ℕ
    group = part (c + x) m s

    abbrev first : List ℕ
    first = put 0 core t

    core_long : length core ≡ c
    core_long = length_part 0 c s (omega arith)

    group_long : length group ≡ m
    group_long = length_part (c + x) m s (omega arith)

    first_long : length first ≡ c + (x + (m + y))
    first_long = let l = core_long in length_put 0 core t (omega arith) ∙ k

    pub over_pieces : put (c + x) group first ≡ s
    over_pieces =
        let l = core_long in
        let g = group_long in
        let f = first_long in
        let room : c + x + length group ≤ length first = omega arith in
        let before : (p w : ℕ) → p + w ≤ c + x → part p w (put (c + x) group first) ≡ part p w first = λ p w h. part_put_before (c + x) group first p w room h in
        let a : part 0 c (put (c + x) group first) ≡ part 0 c s =
        before 0 c (omega arith) ∙ ap (λ (w : ℕ). part 0 w first) (sym l) ∙ part_put_same 0 core t (omega arith) in
        let b : part c x (put (c + x) group first) ≡ part c x s =
        before c x (omega arith) ∙ part_put_after 0 core t c x (omega arith) (omega arith) ∙ gap in
        let d : part (c + x) m (put (c + x) group first) ≡ part (c + x) m s =
        ap (λ (w : ℕ). part (c + x) w (put (c + x) group first)) (sym g) ∙ part_put_same (c + x) group first (omega arith) in
        let e : part (c + x + m) y (put (c + x) group first) ≡ part (c + x + m) y s =
        part_put_after (c + x) group first (c + x + m) y room (omega arith) ∙ part_put_after 0 core t (c + x + m) y (omega arith) (omega arith) ∙ tail in
        sym (pieces (put (c + x) group first) (length_put (c + x) group first room ∙ f))
        ∙ rw (a, b, d, e) (pieces s n)
