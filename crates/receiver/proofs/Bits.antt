-- Laws of bits that only the receiver needs: a number's low bits one by one, and bytes from a bit in the middle on.
use mathlib.Core.Path.{◌≡◌, refl, sym, ap, ap₂, ◌∙◌}
use mathlib.Core.List.{List, [], ◌∷◌, ◌++◌}
use Prim.Native.Nat.{ℕ, zero, suc, ◌+◌, ◌*◌, ◌-◌, ◌/◌, ◌%◌, ◌^◌, ◌≤◌, ◌<◌}
use native.Mathlib.Nat.{pow-suc, mod-eq_of_lt, not-suc-le-zero, le_of_suc-le-suc, sub-zero, zero-sub, div-one}
use native.Mathlib.Numerals.{add-one, one-add}
use native.Mathlib.Omega.{arith}
use lib.Arith.{lt-one}
use lib.Bits.{block_half, block_odd}
use lib.Pow.{pow_mono, shl_lt, shr-shr}
use lib.ListN.{length, take, drop, get_or, length-drop}
use lib.Seq.{take_all, drop-cons, drop-append-le, drop-append-add, drop-nil}
use Rattle.wire.specs.Bits.{low, wire}
use Rattle.wire.proofs.Bits.{length_low}

-- ---- the low bits of a number

pub low_pos : (n v : ℕ) → 0 < n → low n v ≡ v % 2 ∷ low (n - 1) (v / 2)
unfolding low
low_pos zero v h = absurd (not-suc-le-zero h)
low_pos (suc n) v h = let e : n ≡ suc n - 1 = omega arith in ap (λ (k : ℕ). v % 2 ∷ low k (v / 2)) e

half_lt : (v n : ℕ) → v < 2 ^ suc n → v / 2 < 2 ^ n
half_lt v n h = omega (arith, pow-suc 2 n)

-- a bit above
pub low_snoc : (n v b : ℕ) → b < 2 → v < 2 ^ n → low (suc n) (b * 2 ^ n + v) ≡ low n v ++ (b ∷ [])
unfolding low
low_snoc zero v b hb hv = rw (lt-one hv) (ap (λ (x : ℕ). x ∷ []) (omega arith))
low_snoc (suc n) v b hb hv =
    rw (block_odd b n v, block_half b n v)
    (ap (λ (l : List ℕ). v % 2 ∷ l) (low_snoc n (v / 2) b hb (half_lt v n hv)))

pub take_low : (m n x : ℕ) → m ≤ n → take m (low n x) ≡ low m x
unfolding low
take_low zero n x h = refl
take_low (suc m) zero x h = absurd (not-suc-le-zero h)
take_low (suc m) (suc n) x h = ap (λ (l : List ℕ). x % 2 ∷ l) (take_low m n (x / 2) (le_of_suc-le-suc h))

pub drop_low : (j n v : ℕ) → drop j (low n v) ≡ low (n - j) (v / 2 ^ j)
unfolding low
drop_low zero n v = rw (sub-zero n, div-one v) refl
drop_low (suc j) zero v = rw (zero-sub (suc j)) refl
drop_low (suc j) (suc n) v =
    let e : n - j ≡ suc n - suc j = omega arith in
    drop_low j n (v / 2) ∙ ap₂ low e (shr-shr v 1 j ∙ ap (λ (k : ℕ). v / 2 ^ k) (one-add j))

pub shl_byte : (b j : ℕ) → b < 2 → j < 8 → (b * 2 ^ j) % 2 ^ 8 ≡ b * 2 ^ j
shl_byte b j hb hj = mod-eq_of_lt (omega (arith, shl_lt 1 j hb, pow_mono {i = 1 + j} {j = 8} (omega arith)))

-- ---- the bits of bytes

-- the bits of the rest of a slice, from a bit of the first byte of that rest on
pub wire_at : (s : List ℕ) (i j : ℕ) → i < length s → j < 8
    → drop j (wire (drop i s)) ≡ low (8 - j) (get_or s i 0 / 2 ^ j) ++ wire (drop (i + 1) s)
unfolding wire
wire_at s i j h hj =
    let hl : j ≤ length (low 8 (get_or s i 0)) = rw length_low (omega arith) in
    rw (add-one, drop-cons s i 0 h, drop-append-le j (low 8 (get_or s i 0)) (wire (drop (suc i) s)) hl, drop_low) refl

pub drop_wire : (k j : ℕ) (s : List ℕ) → drop (8 * k + j) (wire s) ≡ drop j (wire (drop k s))
unfolding wire
drop_wire zero j s = let e : 8 * 0 + j ≡ j = omega arith in ap (λ (x : ℕ). drop x (wire s)) e
drop_wire (suc k) j [] = drop-nil (8 * suc k + j) ∙ sym (drop-nil j)
drop_wire (suc k) j (x ∷ s) =
    let e : 8 * suc k + j ≡ length (low 8 x) + (8 * k + j) = rw length_low (omega arith) in
    ap (λ (n : ℕ). drop n (low 8 x ++ wire s)) e ∙ drop-append-add (low 8 x) (wire s) (8 * k + j) ∙ drop_wire k j s

-- a slice's bits from any on: its byte's first
pub from_own : (n : ℕ) (s : List ℕ) → drop n (wire s) ≡ drop (n % 8) (wire (drop (n / 8) s))
from_own n s = let e : n ≡ 8 * (n / 8) + n % 8 = omega arith in ap (λ (k : ℕ). drop k (wire s)) e ∙ drop_wire (n / 8) (n % 8) s

pub ruleset from_byte = (from_own, take_all, length-drop)
