-- The laws of registers read and stored into: what changes, what stays, what stays within masks and at zero.
use Prim.Native.Nat.{ℕ, zero, suc, ◌+◌, ◌*◌, ◌-◌, ◌^◌, ◌≤◌, ◌<◌}
use mathlib.Core.Bool.{Bool, true, false, ◌&&◌, ◌||◌}
use mathlib.Core.List.{List, [], ◌∷◌}
use mathlib.Core.Logic.{◌⊎◌, inl, inr}
use mathlib.Core.Path.{◌≡◌, refl, sym, ap, ap₂, subst, ◌∙◌}
use native.Mathlib.Nat.{lt_of_le_of_lt, lt_of_lt_of_le}
use native.Mathlib.Omega.{arith}
use borrow.Author.Tests.{eq-eqb, eqb-true, eqb-false}
use lib.Bits.{bit_and, and_le_r}
use lib.Dec.{eqb, lit≤}
use lib.ListN.{length, take, drop, replicate, length-replicate}
use lib.Seq.{take-nil, drop-drop}
use Rattle.std.specs.List.{fold}
use Rattle.bits.proofs.Bits.{bits_ext, bit_and_lem}
use Rattle.bits.specs.Bits.{bit_of}
use Rattle.bits.proofs.Taut.{taut3}
use Rattle.bits.proofs.Tests.{and_left, and_right, and_true, and_assoc, both, le_or_le}
use Rattle.parts.specs.Parts.{part, put, all_zero}
use Rattle.parts.specs.Digits.{number, digits}
use Rattle.parts.specs.Digits.{bytes_in}
use Rattle.parts.specs.declared.Width.{Width}
use Rattle.parts.specs.declared.Width.TheVariants.{Byte, Half, Word}
use Rattle.parts.proofs.Laws.{Apart, AreBytes, bytes_put, length_put, part_put_apart, part_put_same, part_part}
use Rattle.parts.proofs.Digits.{length_digits, number_digits, digit_bytes, zeros_number, zeros_replicate, zeros_take, zeros_drop}
use Rattle.commands.specs.Field.{Status, master}
use Rattle.commands.specs.declared.command.Register.{Register}
use Rattle.commands.specs.declared.command.Register.TheVariants.{Crb, Crd, ChipId, Intenable}
use Rattle.registers.specs.Registers.{size, row_of, read, store, zeroed, are_zero, is_within, four_within, each, within}
use Rattle.registers.proofs.Rows.{place, wide, end, apart, alike, or_any, or_first, only, status_alone, placed, mask_fits}

pub record RegistersFit (rs : List ℕ) : Type 0 where
  pub long : length rs ≡ size
  pub bytes : AreBytes rs

-- ---- lengths and bytes

module _ (rs : List ℕ) (r : Register) (v : ℕ) where
  -- where the bytes of a value go
  pub store_room : length rs ≡ size → place r + length (digits (wide r) (bit_and v (row_of r).mask)) ≤ length rs
  store_room n = rw (n, length_digits (wide r) (bit_and v (row_of r).mask)) (placed r)

  pub length_store : length rs ≡ size → length (store rs r v) ≡ size
  unfolding store
  length_store n = length_put (place r) _ rs (store_room n) ∙ n

  pub store_fits : RegistersFit rs → RegistersFit (store rs r v)
  unfolding store
  store_fits f =
      record {
        long = length_store f.long;
        bytes = bytes_put (place r) _ rs (digit_bytes (wide r) (bit_and v (row_of r).mask)) f.bytes;
      }

-- four bytes at most
few : (r : Register) → 256 ^ wide r ≤ 2 ^ 32
few r = by (row_of r).width
  where
    by : (w : Width) → 256 ^ bytes_in w ≤ 2 ^ 32
    by Byte = lit≤ tt
    by Half = lit≤ tt
    by Word = lit≤ tt

-- ---- what is read after a store

module _ (rs : List ℕ) (r : Register) (v : ℕ) (n : length rs ≡ size) where
  pub read_same : read (store rs r v) r ≡ bit_and v (row_of r).mask
  unfolding read store
  read_same =
      let s = digits (wide r) (bit_and v (row_of r).mask) in
      let l : place r ≤ length rs = rw n (starts r) in
      ap (λ (m : ℕ). number (part (place r) m (put (place r) s rs))) (sym (length_digits (wide r) (bit_and v (row_of r).mask)))
      ∙ ap number (part_put_same (place r) s rs l)
      ∙ number_digits (wide r) (bit_and v (row_of r).mask) (lt_of_le_of_lt (and_le_r v (row_of r).mask) (mask_fits r))
    where
      starts : (r : Register) → place r ≤ size
      starts r = let h = placed r in omega arith

  -- bytes that are not the register's stay
  pub part_stays : (p m : ℕ) → Apart p m (place r) (wide r) → part p m (store rs r v) ≡ part p m rs
  unfolding store
  part_stays p m o =
      part_put_apart (place r) _ rs p m (store_room rs r v n)
      (subst (λ (k : ℕ). Apart p m (place r) k) (sym (length_digits (wide r) (bit_and v (row_of r).mask))) o)

  pub read_other : (q : Register) → apart q r ≡ true → read (store rs r v) q ≡ read rs q
  unfolding read
  read_other q h = ap number (part_stays (place q) (wide q) (le_or_le (end q) (place r) (end r) (place q) h))

-- ---- bytes at 0

abbrev zeros : ℕ → List ℕ
zeros n = replicate n 0

length_zeros : (n : ℕ) → length (zeros n) ≡ n
length_zeros n = length-replicate n 0

module _ (first many : ℕ) (rs : List ℕ) (l : first + many ≤ length rs) where
  zeros_room : first + length (zeros many) ≤ length rs
  zeros_room = rw (length_zeros many) l

  pub length_zeroed : length (zeroed first many rs) ≡ length rs
  unfolding zeroed
  length_zeroed = length_put first (zeros many) rs zeros_room

  pub zeroed_apart : (p m : ℕ) → Apart p m first many → part p m (zeroed first many rs) ≡ part p m rs
  unfolding zeroed
  zeroed_apart p m o =
      part_put_apart first (zeros many) rs p m zeros_room (subst (λ (k : ℕ). Apart p m first k) (sym (length_zeros many)) o)

  zeros_there : part first many (zeroed first many rs) ≡ zeros many
  unfolding zeroed
  zeros_there =
      ap (λ (m : ℕ). part first m (put first (zeros many) rs)) (sym (length_zeros many))
      ∙ part_put_same first (zeros many) rs (omega arith)

  pub zeroed_zero : are_zero first many (zeroed first many rs) ≡ true
  unfolding are_zero
  zeroed_zero = rw zeros_there (zeros_replicate many)

pub zero_bytes : (n : ℕ) → AreBytes (zeros n)
zero_bytes zero i = omega arith
zero_bytes (suc n) zero = omega arith
zero_bytes (suc n) (suc i) = zero_bytes n i

pub zeroed_bytes : (first many : ℕ) (rs : List ℕ) → AreBytes rs → AreBytes (zeroed first many rs)
unfolding zeroed
zeroed_bytes first many rs b = bytes_put first (zeros many) rs (zero_bytes many) b

zeros_part : (a n : ℕ) (s : List ℕ) → all_zero s ≡ true → all_zero (part a n s) ≡ true
unfolding part
zeros_part a n s h = zeros_take n _ (zeros_drop a s h)

-- a register among bytes that are 0
pub read_zero : (first many : ℕ) (rs : List ℕ) (r : Register) → are_zero first many rs ≡ true → first ≤ place r → end r ≤ first + many → read rs r ≡ 0
unfolding read are_zero
read_zero first many rs r z l u =
    zeros_number (part (place r) (wide r) rs)
    (rw (part_part rs first many (place r) (wide r) l u) (zeros_part (place r - first) (wide r) (part first many rs) z))

-- ---- each of so many in a row

-- what makes one of them another makes all of them so
pub each_through : (n first : ℕ) (f g : ℕ → Bool) → ((i : ℕ) → i < first + n → f i ≡ true → g i ≡ true) → each n first f ≡ true → each n first g ≡ true
each_through zero first f g step h = refl
each_through (suc n) first f g step h =
    let e = both (f first) (each n (suc first) f) h in
    ap₂ ◌&&◌ (step first (omega arith) e.0) (each_through n (suc first) f g (λ i l. step i (omega arith)) e.1)

pub each_at : (n first : ℕ) (f : ℕ → Bool) → each n first f ≡ true → (i : ℕ) → first ≤ i → i < first + n → f i ≡ true
each_at zero first f h i l u = absurd (omega arith)
each_at (suc n) first f h i l u =
    let e = both (f first) (each n (suc first) f) h in
    by (eqb first i) refl e.0 (λ m v. each_at n (suc first) f e.1 i m v)
  where
    by : (t : Bool) → eqb first i ≡ t → f first ≡ true → (suc first ≤ i → i < suc first + n → f i ≡ true) → f i ≡ true
    by true q here there = rw (← eqb-true first i q) here
    by false q here there = let d = eqb-false first i q in there (omega arith) (omega arith)

pub each_same : (n first : ℕ) (f g : ℕ → Bool) → ((i : ℕ) → i < first + n → f i ≡ g i) → each n first f ≡ each n first g
each_same zero first f g h = refl
each_same (suc n) first f g h = ap₂ ◌&&◌ (h first (omega arith)) (each_same n (suc first) f g (λ i l. h i (omega arith)))

pub each_within : (n first : ℕ) (f g : ℕ → Bool) → ((i : ℕ) → first ≤ i → i < first + n → f i ≡ g i) → each n first f ≡ each n first g
each_within zero first f g h = refl
each_within (suc n) first f g h =
    ap₂ ◌&&◌ (h first (omega arith) (omega arith)) (each_within n (suc first) f g (λ i l u. h i (omega arith) (omega arith)))

-- ---- bytes at 0 in a row

zeros_split : (m n : ℕ) (s : List ℕ) → all_zero (take (m + n) s) ≡ (all_zero (take m s) && all_zero (take n (drop m s)))
unfolding all_zero
zeros_split zero n s = let e : zero + n ≡ n = omega arith in rw e refl
zeros_split (suc m) n [] =
    ap all_zero (take-nil {A = ℕ} (suc m + n)) ∙ sym (ap all_zero (take-nil {A = ℕ} n))
zeros_split (suc m) n (b ∷ s) =
    let e : suc m + n ≡ suc (m + n) = omega arith in
    rw e (ap (λ (t : Bool). eqb b 0 && t) (zeros_split m n s) ∙ and_assoc (eqb b 0) (all_zero (take m s)) (all_zero (take n (drop m s))))

zero_split : (p m n : ℕ) (rs : List ℕ) → are_zero p (m + n) rs ≡ (are_zero p m rs && are_zero (p + m) n rs)
unfolding are_zero part
zero_split p m n rs =
    zeros_split m n (drop p rs) ∙ ap (λ (s : List ℕ). all_zero (take m (drop p rs)) && all_zero (take n s)) (drop-drop m p rs)

none_zero : (p : ℕ) (rs : List ℕ) → are_zero p 0 rs ≡ true
unfolding are_zero part all_zero
none_zero p rs = refl

-- every byte looked at, one after another
zeros_from : (s : List ℕ) (t : Bool) → fold (λ (all : Bool) (b : ℕ). all && eqb b 0) t s ≡ (t && all_zero s)
unfolding all_zero
zeros_from [] t = sym (and_true t)
zeros_from (b ∷ s) t = zeros_from s (t && eqb b 0) ∙ sym (and_assoc t (eqb b 0) (all_zero s))

pub zeros_there_are : (first many : ℕ) (rs : List ℕ) (t : Bool) → t ≡ fold (λ (all : Bool) (b : ℕ). all && eqb b 0) true (take (first + many - first) (drop first rs))
    → t ≡ are_zero first many rs
unfolding are_zero part
zeros_there_are first many rs t e =
    let n : first + many - first ≡ many = omega arith in
    rw (e, n) (zeros_from (take many (drop first rs)) true)

-- so many masters, one behind the other
pub each_zero : (n k : ℕ) (rs : List ℕ) → each n k (λ (i : ℕ). are_zero (70 + 21 * i) 21 rs) ≡ are_zero (70 + 21 * k) (21 * n) rs
each_zero zero k rs = sym (none_zero (70 + 21 * k) rs)
each_zero (suc n) k rs =
    let e : 21 * suc n ≡ 21 + 21 * n = omega arith in
    let f : 70 + 21 * suc k ≡ 70 + 21 * k + 21 = omega arith in
    ap (λ (t : Bool). are_zero (70 + 21 * k) 21 rs && t) (each_zero n (suc k) rs ∙ ap (λ (p : ℕ). are_zero p (21 * n) rs) f)
    ∙ sym (zero_split (70 + 21 * k) 21 (21 * n) rs) ∙ ap (λ (m : ℕ). are_zero (70 + 21 * k) m rs) (sym e)

-- ---- no bit is set that reads 0

and_again : (v m k : ℕ) → m < 2 ^ 32 → k ≡ m → bit_and (bit_and v m) k ≡ bit_and v m
and_again v m k h e =
    rw e (bits_ext 32 (bit_and (bit_and v m) m) (bit_and v m) (lt_of_le_of_lt (and_le_r (bit_and v m) m) h) (lt_of_le_of_lt (and_le_r v m) h)
    (λ i l. simp (bit_and_lem) (taut3 (λ a b c. a && b && b) (λ a b c. a && b) tt (bit_of v i) (bit_of m i) true)))

module _ (rs : List ℕ) (r : Register) (v : ℕ) (n : length rs ≡ size) where
  read_alike : (q : Register) → alike q r ≡ true → read (store rs r v) q ≡ bit_and v (row_of r).mask
  unfolding read
  read_alike q e =
      let bytes = and_left (eqb (place q) (place r) && eqb (wide q) (wide r)) _ e in
      let p = eqb-true (place q) (place r) (and_left (eqb (place q) (place r)) _ bytes) in
      let m = eqb-true (wide q) (wide r) (and_right (eqb (place q) (place r)) _ bytes) in
      ap₂ (λ (x y : ℕ). number (part x y (store rs r v))) p m ∙ read_same rs r v n

  stays_within : (q : Register) → (alike q r || apart q r) ≡ true → is_within rs q ≡ true → is_within (store rs r v) q ≡ true
  stays_within q h w = by (alike q r) refl h
    where
      by : (t : Bool) → alike q r ≡ t → (t || apart q r) ≡ true → is_within (store rs r v) q ≡ true
      by true e f =
          let k = eqb-true (row_of q).mask (row_of r).mask (and_right (eqb (place q) (place r) && eqb (wide q) (wide r)) _ e) in
          rw (read_alike q e) (eq-eqb _ _ (and_again v (row_of r).mask (row_of q).mask (lt_of_lt_of_le (mask_fits r) (few r)) k))
      by false e f = rw (read_other rs r v n q f) w

  four_within_lem : four_within rs ≡ true → four_within (store rs r v) ≡ true
  four_within_lem h =
      let crb = alike Crb r || apart Crb r in
      let crd = alike Crd r || apart Crd r in
      let id = alike ChipId r || apart ChipId r in
      let o3 = both (crb && crd && id) (alike Intenable r || apart Intenable r) (only r) in
      let o2 = both (crb && crd) id o3.0 in
      let o1 = both crb crd o2.0 in
      let h3 = both (is_within rs Crb && is_within rs Crd && is_within rs ChipId) (is_within rs Intenable) h in
      let h2 = both (is_within rs Crb && is_within rs Crd) (is_within rs ChipId) h3.0 in
      let h1 = both (is_within rs Crb) (is_within rs Crd) h2.0 in
      ap₂ ◌&&◌
      (ap₂ ◌&&◌ (ap₂ ◌&&◌ (stays_within Crb o1.0 h1.0) (stays_within Crd o1.1 h1.1)) (stays_within ChipId o2.1 h2.1))
      (stays_within Intenable o3.1 h3.1)

  or_either : {a b : Bool} → (a ≡ true) ⊎ (b ≡ true) → (a || b) ≡ true
  or_either {a} {b} (inl h) = or_first a b h
  or_either {a} {b} (inr h) = or_any a b h

  -- what is stored has no bit that reads 0
  pub store_within : within rs ≡ true → within (store rs r v) ≡ true
  store_within h =
      let w = both (four_within rs) _ h in
      ap₂ ◌&&◌ (four_within_lem w.0) (each_through 16 0 (λ i. is_within rs (master i Status)) (λ i. is_within (store rs r v) (master i Status))
      (λ i _ g. stays_within (master i Status) (or_either (status_alone i r)) g) w.1)
