-- The laws of a number in bytes: what was written is read, and bytes that are all 0 are the number 0.
use Prim.Native.Nat.{ℕ, zero, suc, ◌+◌, ◌*◌, ◌/◌, ◌%◌, ◌^◌, ◌≤◌, ◌<◌}
use mathlib.Core.Bool.{Bool, true, ◌&&◌}
use mathlib.Core.List.{List, [], ◌∷◌, ◌++◌}
use mathlib.Core.Path.{◌≡◌, refl, ap, ap₂, ◌∙◌}
use native.Mathlib.Nat.{add-zero, div-div-eq-div-mul}
use native.Mathlib.Numerals.{add-one}
use native.Mathlib.Omega.{arith}
use borrow.Author.Tests.{eqb-true}
use lib.Dec.{eqb}
use lib.ListN.{length, take, drop, get_or, set, replicate, length-append}
use lib.Seq.{get_or-drop, set_split}
use Rattle.bits.proofs.Tests.{both, and_true, and_assoc}
use Rattle.parts.specs.declared.Width.{Width}
use Rattle.parts.specs.declared.Width.TheVariants.{Byte, Half, Word}
use Rattle.parts.specs.Parts.{part, put, all_zero}
use Rattle.parts.specs.Digits.{word, number, digits, bytes_in}
use Rattle.parts.proofs.Laws.{put_put, length_put, AreBytes}

pub length_digits : (n v : ℕ) → length (digits n v) ≡ n
unfolding digits
length_digits zero v = refl
length_digits (suc n) v = ap suc (length_digits n (v / 256))

-- the low digit and the others
split : (v q m : ℕ) → q ≡ v / 256 → v / 256 < m → v % 256 + 256 * q ≡ v
split v q m e l = omega arith

below : (v m : ℕ) → v < 256 * m → v / 256 < m
below v m h = omega arith

pub number_digits : (n v : ℕ) → v < 256 ^ n → number (digits n v) ≡ v
unfolding number digits
number_digits zero v h = omega arith
number_digits (suc n) v h =
    let l : v / 256 < 256 ^ n = below v (256 ^ n) (omega arith) in
    split v (number (digits n (v / 256))) (256 ^ n) (number_digits n (v / 256) l) l

low_digit : (b q : ℕ) → b < 256 → (b + 256 * q) % 256 ≡ b
low_digit b q h = omega arith

other_digits : (b q : ℕ) → b < 256 → (b + 256 * q) / 256 ≡ q
other_digits b q h = omega arith

-- bytes are those of their number
pub digits_number : (s : List ℕ) → AreBytes s → digits (length s) (number s) ≡ s
unfolding number digits
digits_number [] b = refl
digits_number (x ∷ s) b =
    rw (low_digit x (number s) (b 0), other_digits x (number s) (b 0)) (ap (λ (t : List ℕ). x ∷ t) (digits_number s (λ i. b (suc i))))

pub digit_bytes : (n v : ℕ) → AreBytes (digits n v)
unfolding digits
digit_bytes zero v i = omega arith
digit_bytes (suc n) v zero = omega arith
digit_bytes (suc n) v (suc i) = digit_bytes n (v / 256) i

-- ---- zeros

pub zeros_number : (s : List ℕ) → all_zero s ≡ true → number s ≡ 0
unfolding number all_zero
zeros_number [] h = refl
zeros_number (b ∷ s) h =
    let halves = both (eqb b 0) (all_zero s) h in
    let e = eqb-true b 0 halves.0 in
    let f = zeros_number s halves.1 in
    omega arith

pub zeros_replicate : (n : ℕ) → all_zero (replicate n 0) ≡ true
unfolding all_zero
zeros_replicate zero = refl
zeros_replicate (suc n) = zeros_replicate n

pub zeros_take : (n : ℕ) (s : List ℕ) → all_zero s ≡ true → all_zero (take n s) ≡ true
unfolding all_zero
zeros_take zero s h = refl
zeros_take (suc n) [] h = refl
zeros_take (suc n) (b ∷ s) h =
    let halves = both (eqb b 0) (all_zero s) h in
    ap₂ ◌&&◌ halves.0 (zeros_take n s halves.1)

pub zeros_drop : (n : ℕ) (s : List ℕ) → all_zero s ≡ true → all_zero (drop n s) ≡ true
unfolding all_zero
zeros_drop zero s h = h
zeros_drop (suc n) [] h = refl
zeros_drop (suc n) (b ∷ s) h = zeros_drop n s (both (eqb b 0) (all_zero s) h).1

pub zeros_snoc : (s : List ℕ) (b : ℕ) → all_zero (s ++ (b ∷ [])) ≡ (all_zero s && eqb b 0)
unfolding all_zero
zeros_snoc [] b = and_true (eqb b 0)
zeros_snoc (x ∷ s) b = ap (λ (t : Bool). eqb x 0 && t) (zeros_snoc s b) ∙ and_assoc (eqb x 0) (all_zero s) (eqb b 0)

-- ---- what `number_at` and `store_number` do, by their widths

-- the number at the front of some bytes; what is not there counts as 0
front_byte : (d : List ℕ) → word (get_or d 0 0) 0 0 0 ≡ number (take 1 d)
unfolding number
front_byte [] = refl
front_byte (x ∷ d) = omega arith

front_half : (d : List ℕ) → word (get_or d 0 0) (get_or d 1 0) 0 0 ≡ number (take 2 d)
unfolding number
front_half [] = refl
front_half (x ∷ []) = omega arith
front_half (x ∷ y ∷ d) = omega arith

front_word : (d : List ℕ) → word (get_or d 0 0) (get_or d 1 0) (get_or d 2 0) (get_or d 3 0) ≡ number (take 4 d)
unfolding number
front_word [] = refl
front_word (x ∷ []) = omega arith
front_word (x ∷ y ∷ []) = omega arith
front_word (x ∷ y ∷ z ∷ []) = omega arith
front_word (x ∷ y ∷ z ∷ t ∷ d) = omega arith

module _ (s : List ℕ) (at v : ℕ) (w : Width) where
  pub reads_byte : w ≡ Byte → v ≡ word (get_or s at 0) 0 0 0 → v ≡ number (part at (bytes_in w) s)
  unfolding part
  reads_byte e f = rw (e, f, ← front_byte (drop at s)) (simp (get_or-drop, add-zero))

  pub reads_half : w ≡ Half → v ≡ word (get_or s at 0) (get_or s (at + 1) 0) 0 0 → v ≡ number (part at (bytes_in w) s)
  unfolding part
  reads_half e f = rw (e, f, ← front_half (drop at s)) (simp (get_or-drop, add-zero))

  pub reads_word : w ≡ Word → v ≡ word (get_or s at 0) (get_or s (at + 1) 0) (get_or s (at + 2) 0) (get_or s (at + 3) 0) → v ≡ number (part at (bytes_in w) s)
  unfolding part
  reads_word e f = rw (e, f, ← front_word (drop at s)) (simp (get_or-drop, add-zero))

-- ---- one byte after the other

pub set_put : (s : List ℕ) (p x : ℕ) → p < length s → set s p x ≡ put p (x ∷ []) s
unfolding put
set_put s p x h = rw add-one (set_split s p x h)

-- one more behind those that were put
pub set_next : (s d : List ℕ) (p q x : ℕ) → q ≡ p + length d → p + length (d ++ (x ∷ [])) ≤ length s → set (put p d s) q x ≡ put p (d ++ (x ∷ [])) s
set_next s d p q x e h =
    let n : length (d ++ (x ∷ [])) ≡ length d + 1 = length-append d (x ∷ []) in
    let l : p + length d ≤ length s = omega arith in
    let m = length_put p d s l in
    set_put (put p d s) q x (omega arith) ∙ put_put p d (x ∷ []) s q e l

pub set_two : (s : List ℕ) (p a b : ℕ) → p + 2 ≤ length s → set (set s p a) (p + 1) b ≡ put p (a ∷ b ∷ []) s
set_two s p a b h = rw (set_put s p a (omega arith)) (set_next s (a ∷ []) p (p + 1) b refl h)

-- the low bytes, as they are written
pub digits_byte : (x : ℕ) → digits 1 x ≡ x % 256 ∷ []
unfolding digits
digits_byte x = refl

pub digits_half : (x : ℕ) → digits 2 x ≡ x % 256 ∷ x / 256 % 256 ∷ []
unfolding digits
digits_half x = refl

thirds : (x : ℕ) → x / 256 / 256 ≡ x / 65536
thirds x = div-div-eq-div-mul x 256 256

fourths : (x : ℕ) → x / 65536 / 256 ≡ x / 16777216
fourths x = div-div-eq-div-mul x 65536 256

pub digits_word : (x : ℕ) → digits 4 x ≡ x % 256 ∷ x / 256 % 256 ∷ x / 65536 % 256 ∷ x / 16777216 % 256 ∷ []
unfolding digits
digits_word x = rw (thirds x, fourths x) refl

pub ruleset digits_of = (digits_byte, digits_half, digits_word)
