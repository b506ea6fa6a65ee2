-- Laws of content in bytes: the bits of bytes are those of the number that they spell.
use mathlib.Core.Path.{◌≡◌, refl, sym, ap, ap₂, ◌∙◌}
use mathlib.Core.Bool.{Bool, true, ◌&&◌}
use Rattle.std.specs.List.{list_all}
use mathlib.Core.List.{List, [], ◌∷◌, ◌++◌}
use Prim.Native.Nat.{ℕ, suc, ◌+◌, ◌*◌, ◌-◌, ◌/◌, ◌%◌, ◌^◌, ◌≤◌, ◌<◌}
use native.Mathlib.Nat.{one-mul, div-lt_iff_lt-mul, mul-suc}
use native.Mathlib.Omega.{arith}
use borrow.Author.Tests.{eqb-true}
use lib.Dec.{eqb}
use lib.Pow.{shr_lt, pow_pos, pow-add}
use lib.ListN.{length, take, drop, get_or, length-drop}
use lib.Seq.{take_all}
use Rattle.wire.specs.Bits.{low, wire, num}
use Rattle.receiver.specs.Inner.{value}
use Rattle.parts.proofs.Laws.{AreBytes, bytes_drop}
use Rattle.wire.proofs.Bits.{low_mod, low_add, num_low}
use Rattle.receiver.proofs.Bits.{take_low, drop_low, drop_wire, wire_at}
use Rattle.bits.proofs.Tests.{and_assoc}
use Rattle.std.proofs.lemmas.Bool.Decides.{nat_tests}

value_lt : (l : List ℕ) → AreBytes l → value l < 2 ^ (8 * length l)
unfolding value
value_lt [] h = omega arith
value_lt (x ∷ l) h = rw (mul-suc 8 (length l), pow-add 2 (8 * length l) 8) (omega (arith, h 0, value_lt l (λ i. h (suc i))))

pub wire_value : (l : List ℕ) → AreBytes l → wire l ≡ low (8 * length l) (value l)
unfolding wire value low
wire_value [] h = refl
wire_value (x ∷ l) h =
    let e : 8 * suc (length l) ≡ 8 + 8 * length l = omega arith in
    let m : (x + 256 * value l) % 2 ^ 8 ≡ x = omega (arith, h 0) in
    let d : (x + 256 * value l) / 2 ^ 8 ≡ value l = omega (arith, h 0) in
    ap₂ ◌++◌ (ap (low 8) (sym m) ∙ low_mod 8 (x + 256 * value l)) (wire_value l (λ i. h (suc i)) ∙ ap (low (8 * length l)) (sym d))
    ∙ sym (ap (λ (n : ℕ). low n (x + 256 * value l)) e ∙ low_add 8 (8 * length l) (x + 256 * value l))

-- the first bits of bytes
pub take_value : (l : List ℕ) (n : ℕ) → AreBytes l → n ≤ 8 * length l → take n (wire l) ≡ low n (value l)
take_value l n h k = ap (take n) (wire_value l h) ∙ take_low n (8 * length l) (value l) k

rest_value : (l : List ℕ) (n : ℕ) → AreBytes l → n ≤ 8 * length l → num (drop n (wire l)) ≡ value l / 2 ^ n
rest_value l n h k =
    let e : 8 * length l ≡ 8 * length l - n + n = omega arith in
    let lt : value l < 2 ^ (8 * length l - n) * 2 ^ n = rw (e, pow-add 2 (8 * length l - n) n) at (value_lt l h) in
    ap num (ap (drop n) (wire_value l h) ∙ drop_low n (8 * length l) (value l))
    ∙ num_low (8 * length l - n) (value l / 2 ^ n) ((div-lt_iff_lt-mul (pow_pos n)).1 lt)

-- ---- no bit from n on

shr_zero : (x r : ℕ) → x / 2 ^ r ≡ 0 → x < 2 ^ r
shr_zero x r h = omega (arith, (div-lt_iff_lt-mul {k = 2 ^ r} {x = x} {y = 1} (pow_pos r)).0 (omega arith), one-mul (2 ^ r))

sum_zero : (b m : ℕ) → eqb (b + 2 * m) 0 ≡ (eqb b 0 && eqb m 0)
sum_zero b m = grind (arith, nat_tests)

num_append : (p q : List ℕ) → eqb (num (p ++ q)) 0 ≡ (eqb (num p) 0 && eqb (num q) 0)
unfolding num
num_append [] q = refl
num_append (b ∷ p) q =
    sum_zero b (num (p ++ q)) ∙ ap (λ (t : Bool). eqb b 0 && t) (num_append p q) ∙ and_assoc (eqb b 0) (eqb (num p) 0) (eqb (num q) 0)
    ∙ ap (λ (t : Bool). t && eqb (num q) 0) (sym (sum_zero b (num p)))

num_wire : (s : List ℕ) → AreBytes s → eqb (num (wire s)) 0 ≡ list_all (λ x. eqb x 0) s
unfolding num wire
num_wire [] h = refl
num_wire (x ∷ s) h = num_append (low 8 x) (wire s) ∙ ap₂ ◌&&◌ (ap (λ (n : ℕ). eqb n 0) (num_low 8 x (h 0))) (num_wire s (λ i. h (suc i)))

-- bit n's own byte above it, and the bytes after
pub clear_at : (l : List ℕ) (n : ℕ) → n / 8 < length l → AreBytes l
    → eqb (num (drop n (wire l))) 0 ≡ (eqb (get_or l (n / 8) 0 / 2 ^ (n % 8)) 0 && list_all (λ x. eqb x 0) (drop (n / 8 + 1) l))
clear_at l n k h =
    let e : n ≡ 8 * (n / 8) + n % 8 = omega arith in
    let d : drop n (wire l) ≡ low (8 - n % 8) (get_or l (n / 8) 0 / 2 ^ (n % 8)) ++ wire (drop (n / 8 + 1) l) =
    ap (λ (m : ℕ). drop m (wire l)) e ∙ drop_wire (n / 8) (n % 8) l ∙ wire_at l (n / 8) (n % 8) k (omega arith) in
    let b : get_or l (n / 8) 0 / 2 ^ (n % 8) < 2 ^ (8 - n % 8) = let p : 8 - n % 8 + n % 8 ≡ 8 = omega arith in shr_lt (8 - n % 8) (n % 8) (rw p (h (n / 8))) in
    rw d
    (num_append (low (8 - n % 8) (get_or l (n / 8) 0 / 2 ^ (n % 8))) (wire (drop (n / 8 + 1) l))
    ∙ ap₂ ◌&&◌ (ap (λ (m : ℕ). eqb m 0) (num_low (8 - n % 8) (get_or l (n / 8) 0 / 2 ^ (n % 8)) b)) (num_wire (drop (n / 8 + 1) l) (bytes_drop (n / 8 + 1) l h)))

pub ruleset clear = (clear_at, take_all, length-drop)

pub clear_value : (l : List ℕ) (n : ℕ) → AreBytes l → n ≤ 8 * length l → eqb (num (drop n (wire l))) 0 ≡ true → value l < 2 ^ n
clear_value l n h k e = shr_zero (value l) n (sym (rest_value l n h k) ∙ eqb-true _ 0 e)
