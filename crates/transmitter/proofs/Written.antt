-- Laws of bits written into a lent output: one bit, bits after bits, stuffed bits, a whole frame.
use mathlib.Core.Path.{◌≡◌, refl, sym, ap, ap₂, ◌∙◌}
use mathlib.Core.Bool.{Bool, true, false, cond, ◌&&◌}
use mathlib.Core.List.{List, [], ◌∷◌, ◌++◌, append_assoc, append-nil}
use Prim.Native.Nat.{ℕ, zero, suc, ◌+◌, ◌*◌, ◌-◌, ◌/◌, ◌%◌, ◌^◌, ◌≤◌, ◌<◌}
use native.Mathlib.Nat.{mod-le, mul-le-mul_right, suc-mul, mul_comm, add_comm, div-one}
use native.Mathlib.Omega.{arith}
use borrow.Author.Tests.{eq-eqb, ne_eqb}
use mir.Val.{bool_byte}
use lib.Dec.{T, eqb, leb, ltb, eqb→eq, leb→le, ltb→lt, lit≤}
use lib.Pow.{pow-add, shl_exact, shr_lt, high}
use lib.ListN.{length, take, drop, set, replicate, length-append, length-set, take-append-drop}
use lib.Seq.{length-take-le, take-set-le, take-suc-set, drop-set-lt, drop-drop}
use Rattle.parts.specs.Parts.{put}
use Rattle.parts.proofs.Laws.{AreBytes, bytes_take}
use Rattle.wire.specs.Bits.{low, wire, pack}
use Rattle.wire.specs.Frame.{stuff, flag}
use Rattle.transmitter.specs.Inner.{tail, inked, Inked, Written}
use Rattle.transmitter.specs.Stuffing.{Stuffs}
use Rattle.transmitter.specs.declared.stuffing.Piece.{Piece}
use Rattle.wire.proofs.Bits.{length_low, low_cut, low_mod, low_add, wire_append, pack_wire}
use Rattle.wire.proofs.Tests.{and_left, and_right, at_each}

-- ---- some bits

-- bits above h's, one number
low_join : (j c h v : ℕ) → h < 2 ^ j → low (j + c) (h + v * 2 ^ j) ≡ low j h ++ low c v
low_join j c h v hh =
    ap (low (j + c)) (add_comm h (v * 2 ^ j)) ∙ low_add j c (v * 2 ^ j + h) ∙ ap₂ (λ (x y : List ℕ). x ++ y) (low_cut j v h) (ap (low c) (high v j hh))

join_lt : (j c h v : ℕ) → h < 2 ^ j → v < 2 ^ c → h + v * 2 ^ j < 2 ^ (j + c)
join_lt j c h v hh hv =
    omega (arith, hh, mul-le-mul_right (2 ^ j) hv, suc-mul v (2 ^ j), mul_comm (2 ^ j) (2 ^ c), pow-add 2 j c)

-- the number of the bits held and those that come
abbrev pub joined : ℕ → ℕ → ℕ → ℕ
joined n h v = h + (v * 2 ^ (n % 8)) % 2 ^ 16

module _ (o : List ℕ) (n h v c : ℕ) (hn : n + c ≤ 8 * length o) (hh : h < 2 ^ (n % 8)) (c0 : 0 < c) (c8 : c ≤ 8) (hv : v < 2 ^ c) where
  joined_is : joined n h v ≡ h + v * 2 ^ (n % 8)
  joined_is = ap (λ (x : ℕ). h + x) (shl_exact c (n % 8) 16 hv (omega arith))

  joined_lt : joined n h v < 2 ^ (n % 8 + c)
  joined_lt = rw joined_is (join_lt (n % 8) c h v hh hv)

  -- the byte is whole or it is not
  bits_now : (m : ℕ) → (n % 8 + c) / 8 ≡ m
      → inked (set o (n / 8) (joined n h v % 256)) (n + c) (joined n h v / 2 ^ (8 * m)) ≡ wire (take (n / 8) o) ++ low (n % 8 + c) (joined n h v)
  unfolding wire
  bits_now zero e =
      let d : (n + c) / 8 ≡ n / 8 = omega arith in
      let f : (n + c) % 8 ≡ n % 8 + c = omega arith in
      rw (d, f, take-set-le (n / 8) o (n / 8) (joined n h v % 256) (omega arith), div-one (joined n h v)) refl
  bits_now (suc zero) e =
      let d : (n + c) / 8 ≡ suc (n / 8) = omega arith in
      let f : n % 8 + c ≡ 8 + (n + c) % 8 = omega arith in
      let w : wire (take (suc (n / 8)) (set o (n / 8) (joined n h v % 256))) ≡ wire (take (n / 8) o) ++ low 8 (joined n h v) =
      rw (take-suc-set o (n / 8) (joined n h v % 256) (omega arith), wire_append (take (n / 8) o) (joined n h v % 256 ∷ []), append-nil (low 8 (joined n h v % 256)), low_mod 8 (joined n h v)) refl in
      rw (d, w, f, low_add 8 ((n + c) % 8) (joined n h v)) (append_assoc (wire (take (n / 8) o)) (low 8 (joined n h v)) (low ((n + c) % 8) (joined n h v / 256)))
  bits_now (suc (suc m)) e = absurd (omega arith)

  held_now : (m : ℕ) → (n % 8 + c) / 8 ≡ m → joined n h v / 2 ^ (8 * m) < 2 ^ ((n + c) % 8)
  held_now zero e =
      let f : (n + c) % 8 ≡ n % 8 + c = omega arith in
      rw (f, div-one (joined n h v)) joined_lt
  held_now (suc zero) e =
      let f : n % 8 + c ≡ (n + c) % 8 + 8 = omega arith in
      shr_lt ((n + c) % 8) 8 (rw f at joined_lt)
  held_now (suc (suc m)) e = absurd (omega arith)

  pub put_inked : Inked o n h (low c v) (set o (n / 8) (joined n h v % 256)) (n + c) (joined n h v / 2 ^ (8 * ((n % 8 + c) / 8)))
  put_inked =
      record {
        count = rw (length_low c v) refl;
        bits =
            bits_now ((n % 8 + c) / 8) refl
            ∙ ap (λ (x : List ℕ). wire (take (n / 8) o) ++ x) (ap (low (n % 8 + c)) joined_is ∙ low_join (n % 8) c h v hh)
            ∙ sym (append_assoc (wire (take (n / 8) o)) (low (n % 8) h) (low c v));
        held = held_now ((n % 8 + c) / 8) refl;
        rest = drop-set-lt ((n + c + 7) / 8) o (n / 8) _ (omega arith);
        size = length-set o (n / 8) _;
      }

-- ---- bits after bits

-- what stands from byte i on stands from byte j on
later : (r o : List ℕ) (i j : ℕ) → i ≤ j → drop i r ≡ drop i o → drop j r ≡ drop j o
later r o i j h e =
    let f : j ≡ i + (j - i) = omega arith in
    ap (λ (x : ℕ). drop x r) f ∙ sym (drop-drop (j - i) i r) ∙ ap (drop (j - i)) e ∙ drop-drop (j - i) i o ∙ ap (λ (x : ℕ). drop x o) (sym f)

pub inked_none : (o : List ℕ) (n h : ℕ) → h < 2 ^ (n % 8) → Inked o n h [] o n h
inked_none o n h hh = record { count = omega arith; bits = sym (append-nil (inked o n h)); held = hh; rest = refl; size = refl }

pub inked_then : {o r t : List ℕ} {n h n' h' n'' h'' : ℕ} {l m : List ℕ} → Inked o n h l r n' h' → Inked r n' h' m t n'' h'' → Inked o n h (l ++ m) t n'' h''
inked_then {o} {r} {t} {n} {h} {n'} {h'} {n''} {h''} {l} {m} a b =
    record {
      count = rw (length-append l m) (omega (arith, a.count, b.count));
      bits = b.bits ∙ ap (λ (x : List ℕ). x ++ m) a.bits ∙ append_assoc (inked o n h) l m;
      held = b.held;
      rest = b.rest ∙ later r o ((n' + 7) / 8) ((n'' + 7) / 8) (omega (arith, b.count)) a.rest;
      size = b.size ∙ a.size;
    }

-- ---- stuffed bits

pub stuff_append : (k : ℕ) (l m : List ℕ) → stuff k (l ++ m) ≡ stuff k l ++ stuff (tail k l) m
unfolding stuff tail
stuff_append k [] m = refl
stuff_append k (b ∷ l) m = by (λ j. stuff_append j l m) (eqb b 0) (eqb k 4)
  where
    by : ((j : ℕ) → stuff j (l ++ m) ≡ stuff j l ++ stuff (tail j l) m) → (p q : Bool)
        → cond p (0 ∷ stuff 0 (l ++ m)) (cond q (1 ∷ 0 ∷ stuff 0 (l ++ m)) (1 ∷ stuff (k + 1) (l ++ m)))
        ≡ cond p (0 ∷ stuff 0 l) (cond q (1 ∷ 0 ∷ stuff 0 l) (1 ∷ stuff (k + 1) l)) ++ stuff (cond p (tail 0 l) (cond q (tail 0 l) (tail (k + 1) l))) m
    by ih true q = ap (λ (x : List ℕ). 0 ∷ x) (ih 0)
    by ih false true = ap (λ (x : List ℕ). 1 ∷ 0 ∷ x) (ih 0)
    by ih false false = ap (λ (x : List ℕ). 1 ∷ x) (ih (k + 1))

tail_append : (k : ℕ) (l m : List ℕ) → tail k (l ++ m) ≡ tail (tail k l) m
unfolding tail
tail_append k [] m = refl
tail_append k (b ∷ l) m = by (λ j. tail_append j l m) (eqb b 0) (eqb k 4)
  where
    by : ((j : ℕ) → tail j (l ++ m) ≡ tail (tail j l) m) → (p q : Bool)
        → cond p (tail 0 (l ++ m)) (cond q (tail 0 (l ++ m)) (tail (k + 1) (l ++ m))) ≡ tail (cond p (tail 0 l) (cond q (tail 0 l) (tail (k + 1) l))) m
    by ih true q = ih 0
    by ih false true = ih 0
    by ih false false = ih (k + 1)

pub written_none : (o : List ℕ) (n h k : ℕ) → h < 2 ^ (n % 8) → k ≤ 4 → Written o n h k [] o n h k
unfolding stuff tail
written_none o n h k hh hk = record { raw = inked_none o n h hh; run = refl; short = hk; most = omega arith }

pub written_then : {o r t : List ℕ} {n h n' h' n'' h'' k k' k'' : ℕ} {l m : List ℕ}
    → Written o n h k l r n' h' k' → Written r n' h' k' m t n'' h'' k'' → Written o n h k (l ++ m) t n'' h'' k''
written_then {o} {r} {t} {n} {h} {n'} {h'} {n''} {h''} {k} {k'} {k''} {l} {m} a b =
    record {
      raw = rw (stuff_append k l m, sym a.run) (inked_then a.raw b.raw);
      run = b.run ∙ ap (λ (x : ℕ). tail x m) a.run ∙ sym (tail_append k l m);
      short = b.short;
      most = rw (length-append l m) (omega (arith, a.most, b.most));
    }

pub written_four : {o r : List ℕ} {n h k x n' h' : ℕ} {f : Piece}
    → Stuffs k x f → Inked o n h (low f.count f.bits) r n' h' → Written o n h k (low 4 x) r n' h' f.ones
written_four {o} {r} {n} {h} {k} {x} {n'} {h'} {f} s w =
    record {
      raw = rw s.same w;
      run = s.run;
      short = s.short;
      most = rw (length_low 4 x) (omega (arith, rw length_low at w.count, s.most));
    }

-- the same bits
abbrev same : List ℕ → List ℕ → Bool
same [] [] = true
same [] (y ∷ ys) = false
same (x ∷ xs) [] = false
same (x ∷ xs) (y ∷ ys) = eqb x y && same xs ys

same_eq : (xs ys : List ℕ) → T (same xs ys) → xs ≡ ys
same_eq [] [] t = refl
same_eq [] (y ∷ ys) t = absurd t
same_eq (x ∷ xs) [] t = absurd t
same_eq (x ∷ xs) (y ∷ ys) t = ap₂ (λ (z : ℕ) (zs : List ℕ). z ∷ zs) (eqb→eq x y (and_left (eqb x y) (same xs ys) t)) (same_eq xs ys (and_right (eqb x y) (same xs ys) t))

-- that, as a test
abbrev stuffs : (k x bits count ones : ℕ) → Bool
stuffs k x bits count ones =
    same (stuff k (low 4 x)) (low count bits)
    && (eqb ones (tail k (low 4 x)) && (ltb bits (2 ^ count) && (leb ones 4 && (leb (5 * count + ones) (k + 24) && (leb 4 count && leb count 5)))))

both : (a b : Bool) → T (a && b) → T a × T b
both a b t = (and_left a b t, and_right a b t)

stuffs_right : (k x bits count ones : ℕ) → T (stuffs k x bits count ones) → Stuffs k x (record { bits = bits; count = count; ones = ones })
stuffs_right k x bits count ones t =
    let p = both (same (stuff k (low 4 x)) (low count bits)) _ t in
    let q = both (eqb ones (tail k (low 4 x))) _ p.1 in
    let r = both (ltb bits (2 ^ count)) _ q.1 in
    let u = both (leb ones 4) _ r.1 in
    let v = both (leb (5 * count + ones) (k + 24)) _ u.1 in
    let w = both (leb 4 count) (leb count 5) v.1 in
    record {
      same = same_eq (stuff k (low 4 x)) (low count bits) p.0;
      run = eqb→eq ones (tail k (low 4 x)) q.0;
      fits = ltb→lt bits (2 ^ count) r.0;
      short = leb→le ones 4 u.0;
      most = leb→le (5 * count + ones) (k + 24) v.0;
      some = leb→le 4 count w.0;
      few = leb→le count 5 w.1;
    }

-- the run of ones at the end of four bits, as it is counted
abbrev counted : ℕ → ℕ
counted x = bool_byte (ltb 7 x) + bool_byte (ltb 11 x) + bool_byte (ltb 13 x) + bool_byte (ltb 14 x)

one_bit : (b : Bool) → bool_byte b ≤ 1
one_bit true = lit≤ tt
one_bit false = lit≤ tt

pub counted_few : (x : ℕ) → counted x ≤ 4
counted_few x = omega (arith, one_bit (ltb 7 x), one_bit (ltb 11 x), one_bit (ltb 13 x), one_bit (ltb 14 x))

run_test : ℕ → Bool
run_test x = eqb (counted x) (tail 0 (low 4 x))

pub run_right : (x : ℕ) → x < 16 → counted x ≡ tail 0 (low 4 x)
unfolding run_test tail low
run_right x h = eqb→eq (counted x) (tail 0 (low 4 x)) (at_each run_test 16 tt x h)

-- all the ones that are left up to the fifth, after k of them
abbrev left : ℕ → ℕ
left k = 32 / 2 ^ k - 1

left_test : ℕ → Bool
left_test k = leb 1 (32 / 2 ^ k) && leb (32 / 2 ^ k) 32

module _ (k : ℕ) (h : k ≤ 4) where
  left_tested : T (left_test k)
  unfolding left_test
  left_tested = at_each left_test 5 tt k (omega arith)

  pub left_some : 1 ≤ 32 / 2 ^ k
  unfolding left_test
  left_some = leb→le 1 (32 / 2 ^ k) (and_left (leb 1 (32 / 2 ^ k)) (leb (32 / 2 ^ k) 32) left_tested)

  pub left_few : 32 / 2 ^ k ≤ 32
  unfolding left_test
  left_few = leb→le (32 / 2 ^ k) 32 (and_right (leb 1 (32 / 2 ^ k)) (leb (32 / 2 ^ k) 32) left_tested)

pub begins_with : (l x : ℕ) → x % (l + 1) ≡ l → l ≤ x
begins_with l x e = let h = mod-le x (l + 1) in omega arith

-- x begins with all that are left: a zero is inserted, else none
abbrev begins : (k x : ℕ) → Bool
begins k x = eqb (x % (left k + 1)) (left k)

entry : ℕ → ℕ → Bool
entry k x =
    cond (begins k x) (stuffs k x (x + (x - left k)) 5 (tail 0 (low 4 ((x + (x - left k)) / 2)))) (stuffs k x x 4 (tail 0 (low 4 x)))

entries : ℕ → Bool
entries i = entry (i / 16) (i % 16)

-- the test, at each of eighty
module _ (k x : ℕ) (hk : k ≤ 4) (hx : x < 16) where
  tested : T (entry k x)
  unfolding entries entry stuff tail low
  tested =
      let d : (16 * k + x) / 16 ≡ k = omega arith in
      let f : (16 * k + x) % 16 ≡ x = omega arith in
      rw (d, f) at (at_each entries 80 tt (16 * k + x) (omega arith))

  pub zero_inserted : {r : ℕ} → x % (left k + 1) ≡ left k → r ≡ tail 0 (low 4 ((x + (x - left k)) / 2))
      → Stuffs k x (record { bits = x + (x - left k); count = 5; ones = r })
  unfolding entry
  zero_inserted b e = rw e (stuffs_right k x _ 5 _ (simp (eq-eqb (x % (left k + 1)) (left k) b) at tested))

  pub none_inserted : {r : ℕ} → (x % (left k + 1) ≡ left k → ⊥) → r ≡ tail 0 (low 4 x) → Stuffs k x (record { bits = x; count = 4; ones = r })
  unfolding entry
  none_inserted b e = rw e (stuffs_right k x _ 4 _ (simp (ne_eqb (x % (left k + 1)) (left k) b) at tested))

pub ruleset stuffing = (left_some, left_few, begins_with)

-- ---- a whole frame

-- j ones, for the number that the code shifts out of a byte
ones_test : ℕ → Bool
ones_test j = ltb (255 / 2 ^ (8 - j)) (2 ^ j) && same (low j (255 / 2 ^ (8 - j))) (replicate j 1)

module _ (j : ℕ) (h : j ≤ 8) where
  ones_tested : T (ones_test j)
  unfolding ones_test low
  ones_tested = at_each ones_test 9 tt j (omega arith)

  pub ones_fit : 255 / 2 ^ (8 - j) < 2 ^ j
  unfolding ones_test
  ones_fit = ltb→lt (255 / 2 ^ (8 - j)) (2 ^ j) (and_left (ltb (255 / 2 ^ (8 - j)) (2 ^ j)) (same (low j (255 / 2 ^ (8 - j))) (replicate j 1)) ones_tested)

  pub ones_are : low j (255 / 2 ^ (8 - j)) ≡ replicate j 1
  unfolding ones_test
  ones_are =
      same_eq (low j (255 / 2 ^ (8 - j))) (replicate j 1)
      (and_right (ltb (255 / 2 ^ (8 - j)) (2 ^ j)) (same (low j (255 / 2 ^ (8 - j))) (replicate j 1)) ones_tested)

-- how many ones fill the last byte
abbrev pub lacking : ℕ → ℕ
lacking n = (8 - n % 8) % 8

pub fill_none : {o : List ℕ} {n h : ℕ} → h < 2 ^ (n % 8) → lacking n ≡ 0 → Inked o n h (replicate (lacking n) 1) o n h
fill_none {o} {n} {h} hh z = rw z (inked_none o n h hh)

pub flag_low : low 8 0x7E ≡ flag
unfolding low
flag_low = refl

-- whole bytes written from the front are put there
pub laid : (o l r : List ℕ) (k : ℕ) {h : ℕ} → k ≤ length r → Inked o 0 0 l r (8 * k) h → AreBytes r → r ≡ put 0 (pack l) o
unfolding put low wire
laid o l r k {h} hk a t =
    let d : (8 * k) / 8 ≡ k = omega arith in
    let f : (8 * k) % 8 ≡ 0 = omega arith in
    let w : wire (take k r) ≡ l = (sym (append-nil (wire (take k r)))) ∙ (rw (d, f) at a.bits) in
    let p : take k r ≡ pack l = sym (pack_wire (take k r) (bytes_take k r t)) ∙ ap pack w in
    let n : length (pack l) ≡ k = ap length (sym p) ∙ length-take-le k r hk in
    let e : (8 * k + 7) / 8 ≡ k = omega arith in
    let z : 0 + length (pack l) ≡ k = omega arith in
    sym (take-append-drop k r) ∙ ap₂ (λ (x y : List ℕ). x ++ y) p ((rw e at a.rest) ∙ ap (λ (m : ℕ). drop m o) (sym z))
