-- Laws of the check register; RFC 1662: a good frame leaves 0xF0B8.
use mathlib.Core.Path.{◌≡◌, refl, sym, ap, ap₂, ◌∙◌}
use mathlib.Core.Bool.{Bool}
use mathlib.Core.List.{List, [], ◌∷◌, ◌++◌, foldl-append, append-nil}
use Prim.Native.Nat.{ℕ, zero, suc, ◌+◌, ◌*◌, ◌-◌, ◌/◌, ◌%◌, ◌^◌, ◌<◌}
use native.Mathlib.Omega.{arith}
use lib.Arith.{bin_ind, lt-one}
use lib.ListN.{replicate}
use native.Mathlib.Nat.{pow-suc, mul-one, mul_assoc}
use lib.Bits.{bit_xor, differ, xor_step, xor_lt, xor_zero_r, xor_comm, xor_shifted, xor_shr}
use lib.Pow.{split}
use lib.Dec.{eqb, eqb→eq, lit<}
use Rattle.wire.specs.Bits.{low, wire}
use Rattle.wire.specs.Fcs.{polynomial, preset, residue, register_bit, register, check_of, fcs}
use Rattle.wire.specs.Frame.{content_of}
use Rattle.wire.proofs.Bits.{low_mod, low_add, low_bytes, wire_append, wire_more}
use Rattle.wire.proofs.Tests.{at_each}

-- ---- bits after bits

pub low_nibbles : (x : ℕ) → low 8 x ≡ low 4 (x % 16) ++ low 4 (x / 16)
low_nibbles x = low_add 4 4 x ∙ ap (λ (l : List ℕ). l ++ low 4 (x / 16)) (sym (low_mod 4 x))

pub register_bit_lt : (c b : ℕ) → c < 65536 → bit_xor (c / 2) (polynomial * ((c % 2 + b) % 2)) < 65536
register_bit_lt c b h = xor_lt 16 (c / 2) (polynomial * ((c % 2 + b) % 2)) (omega arith) (omega arith)

pub register_append : (c : ℕ) (l m : List ℕ) → register c (l ++ m) ≡ register (register c l) m
unfolding register
register_append c l m = foldl-append register_bit c l m

pub register_none : (c : ℕ) → register c (wire []) ≡ c
unfolding register wire
register_none c = refl

pub ruleset bytes_in = (register_none, register_append, wire_more)

pub register_lt : (l : List ℕ) (c : ℕ) → c < 65536 → register c l < 65536
unfolding register register_bit
register_lt [] c h = h
register_lt (b ∷ l) c h = register_lt l (register_bit c b) (register_bit_lt c b h)

-- ---- the residue

differ_assoc : (a b c : ℕ) → a < 2 → b < 2 → c < 2 → differ (differ a b) c ≡ differ a (differ b c)
differ_assoc zero b c ha hb hc = refl
differ_assoc (suc zero) zero c ha hb hc = refl
differ_assoc (suc zero) (suc zero) zero ha hb hc = refl
differ_assoc (suc zero) (suc zero) (suc zero) ha hb hc = refl
differ_assoc (suc zero) (suc zero) (suc (suc c)) ha hb hc = absurd (omega arith)
differ_assoc (suc zero) (suc (suc b)) c ha hb hc = absurd (omega arith)
differ_assoc (suc (suc a)) b c ha hb hc = absurd (omega arith)

differ_lt : (a b : ℕ) → a < 2 → b < 2 → differ a b < 2
differ_lt zero b ha hb = hb
differ_lt (suc zero) zero ha hb = lit< tt
differ_lt (suc zero) (suc zero) ha hb = lit< tt
differ_lt (suc zero) (suc (suc b)) ha hb = absurd (omega arith)
differ_lt (suc (suc a)) b ha hb = absurd (omega arith)

xor_half : (a b : ℕ) → bit_xor a b / 2 ≡ bit_xor (a / 2) (b / 2)
xor_half a b = omega (arith, xor_step a b, differ_lt (a % 2) (b % 2) (omega arith) (omega arith))

xor_odd : (a b : ℕ) → bit_xor a b % 2 ≡ differ (a % 2) (b % 2)
xor_odd a b = omega (arith, xor_step a b, differ_lt (a % 2) (b % 2) (omega arith) (omega arith))

pub xor_assoc : (a b c : ℕ) → bit_xor (bit_xor a b) c ≡ bit_xor a (bit_xor b c)
xor_assoc =
    bin_ind (λ (a : ℕ). (b c : ℕ) → bit_xor (bit_xor a b) c ≡ bit_xor a (bit_xor b c)) (λ b c. refl)
    (λ a ih b c.
    xor_step (bit_xor a b) c
    ∙ ap₂ (λ (x y : ℕ). x * 2 + y)
    (ap (λ (x : ℕ). bit_xor x (c / 2)) (xor_half a b) ∙ ih (b / 2) (c / 2) ∙ ap (λ (x : ℕ). bit_xor (a / 2) x) (sym (xor_half b c)))
    (ap (λ (x : ℕ). differ x (c % 2)) (xor_odd a b)
    ∙ differ_assoc (a % 2) (b % 2) (c % 2) (omega arith) (omega arith) (omega arith)
    ∙ ap (λ (x : ℕ). differ (a % 2) x) (sym (xor_odd b c)))
    ∙ sym (xor_step a (bit_xor b c)))

-- a bit that is the complement of a's lowest takes a out of the register
feed : (a k : ℕ) → a < 2 → k < 2 → (differ a k + (1 - a)) % 2 ≡ (k + 1) % 2
feed zero k ha hk = refl
feed (suc zero) zero ha hk = refl
feed (suc zero) (suc zero) ha hk = refl
feed (suc zero) (suc (suc k)) ha hk = absurd (omega arith)
feed (suc (suc a)) k ha hk = absurd (omega arith)

complement_step : (a k : ℕ) → register_bit (bit_xor a k) (1 - a % 2) ≡ bit_xor (a / 2) (register_bit k 1)
unfolding register_bit
complement_step a k =
    rw (xor_half a k, xor_odd a k, feed (a % 2) (k % 2) (omega arith) (omega arith))
    (xor_assoc (a / 2) (k / 2) (polynomial * ((k % 2 + 1) % 2)))

complement : (n a k : ℕ) → a < 2 ^ n → register (bit_xor a k) (low n (2 ^ n - 1 - a)) ≡ register k (replicate n 1)
unfolding register low
complement zero a k h = rw (lt-one h) refl
complement (suc n) a k h =
    let e : (2 ^ suc n - 1 - a) % 2 ≡ 1 - a % 2 = omega (arith, pow-suc 2 n) in
    let d : (2 ^ suc n - 1 - a) / 2 ≡ 2 ^ n - 1 - a / 2 = omega (arith, pow-suc 2 n) in
    rw (e, d, complement_step a k) (complement n (a / 2) (register_bit k 1) (omega (arith, pow-suc 2 n)))

-- a register that takes its own complement
pub own : (c : ℕ) → c < 65536 → register c (low 16 (preset - c)) ≡ residue
unfolding register register_bit
own c h = ap (λ (x : ℕ). register x (low 16 (preset - c))) (sym (xor_zero_r c)) ∙ complement 16 c 0 h

-- the content of a frame is body and FCS, bit by bit
pub content_bits : (body : List ℕ) (v : ℕ) → v ≡ check_of body → content_of body ≡ wire body ++ low 16 v
unfolding fcs wire
content_bits body v e =
    rw (wire_append body (fcs body), append-nil (low 8 (check_of body / 256)), low_bytes (check_of body), e) refl

-- A GOOD FRAME LEAVES 0xF0B8
pub good_residue : (body : List ℕ) → register preset (content_of body) ≡ residue
good_residue body =
    rw (content_bits body (check_of body) refl, register_append preset (wire body) (low 16 (check_of body)))
    (own (register preset (wire body)) (register_lt (wire body) preset (omega arith)))

-- ---- four bits at once

parity : (a b : ℕ) → a < 2 → b < 2 → (differ a b + 0) % 2 ≡ (a + b) % 2
parity zero b ha hb = omega arith
parity (suc zero) zero ha hb = refl
parity (suc zero) (suc zero) ha hb = refl
parity (suc zero) (suc (suc b)) ha hb = absurd (omega arith)
parity (suc (suc a)) b ha hb = absurd (omega arith)

xor_swap : (a b c : ℕ) → bit_xor (bit_xor a b) c ≡ bit_xor (bit_xor a c) b
xor_swap a b c = xor_assoc a b c ∙ ap (bit_xor a) (xor_comm b c) ∙ sym (xor_assoc a c b)

-- bits that come are bits added to the register, and zeros that come
come_step : (c x : ℕ) → bit_xor (register_bit c (x % 2)) (x / 2) ≡ register_bit (bit_xor c x) 0
unfolding register_bit
come_step c x =
    rw (xor_half c x, xor_odd c x, parity (c % 2) (x % 2) (omega arith) (omega arith)) (xor_swap (c / 2) (polynomial * ((c % 2 + x % 2) % 2)) (x / 2))

pub come : (n c x : ℕ) → x < 2 ^ n → register c (low n x) ≡ register (bit_xor c x) (low n 0)
unfolding register low
come zero c x h = rw (lt-one h) (sym (xor_zero_r c))
come (suc n) c x h =
    come n (register_bit c (x % 2)) (x / 2) (omega (arith, pow-suc 2 n)) ∙ ap (λ (y : ℕ). register y (low n 0)) (come_step c x)

-- what stands above n bits only moves down while n zeros come
above_step : (a k : ℕ) → register_bit (bit_xor (a * 2) k) 0 ≡ bit_xor a (register_bit k 0)
unfolding register_bit
above_step a k =
    let e : a * 2 / 2 ≡ a = omega arith in
    let d : a * 2 % 2 ≡ 0 = omega arith in
    rw (xor_half (a * 2) k, xor_odd (a * 2) k, e, d) (xor_assoc a (k / 2) (polynomial * ((k % 2 + 0) % 2)))

above : (n a k : ℕ) → register (bit_xor (a * 2 ^ n) k) (low n 0) ≡ bit_xor a (register k (low n 0))
unfolding register low
above zero a k = ap (λ (x : ℕ). bit_xor x k) (mul-one a)
above (suc n) a k =
    let e : a * 2 ^ suc n ≡ a * 2 ^ n * 2 = ap (λ (x : ℕ). a * x) (pow-suc 2 n) ∙ sym (mul_assoc a (2 ^ n) 2) in
    ap (λ (x : ℕ). register (register_bit (bit_xor x k) 0) (low n 0)) e ∙ ap (λ (y : ℕ). register y (low n 0)) (above_step (a * 2 ^ n) k) ∙ above n a (register_bit k 0)

-- four zeros after four bits: a product, as a computed test of all sixteen says
four_test : ℕ → Bool
four_test k = eqb (register k (low 4 0)) (0x1081 * k)

four_zeros : (k : ℕ) → k < 16 → register k (low 4 0) ≡ 0x1081 * k
unfolding four_test register register_bit low
four_zeros k h = eqb→eq (register k (low 4 0)) (0x1081 * k) (at_each four_test 16 tt k h)

pub register_four_lem : (c x : ℕ) → x < 16 → register c (low 4 x) ≡ bit_xor (c / 16) (0x1081 * (bit_xor c x % 16))
register_four_lem c x h =
    let y = bit_xor c x in
    let e : y ≡ bit_xor (y / 16 * 2 ^ 4) (y % 16) = sym (xor_shifted (y / 16) 4 (y % 16) (omega arith) ∙ split y 4) in
    let z : x / 16 ≡ 0 = omega arith in
    let d : y / 16 ≡ c / 16 = xor_shr c x 4 ∙ ap (bit_xor (c / 16)) z ∙ xor_zero_r (c / 16) in
    come 4 c x h ∙ ap (λ (v : ℕ). register v (low 4 0)) e ∙ above 4 (y / 16) (y % 16) ∙ ap₂ bit_xor d (four_zeros (y % 16) (omega arith))
