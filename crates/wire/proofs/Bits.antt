-- Laws of bits in bytes: cut, joined, and packed again.
use mathlib.Core.Path.{◌≡◌, refl, sym, ap, ap₂, ◌∙◌}
use mathlib.Core.Logic.{◌⊎◌, inl, inr}
use mathlib.Core.List.{List, [], ◌∷◌, ◌++◌, append_assoc, append-nil}
use Prim.Native.Nat.{ℕ, zero, suc, ◌+◌, ◌*◌, ◌/◌, ◌%◌, ◌^◌, ◌≤◌, ◌<◌}
use native.Mathlib.Nat.{pow-suc, div-one, zero-add, suc-add}
use native.Mathlib.Numerals.{add-one, one-add}
use native.Mathlib.Omega.{arith}
use lib.Arith.{lt-one}
use lib.Bits.{block_half, block_odd}
use lib.Pow.{shr-shr, split}
use lib.ListN.{length, take, drop, get_or, replicate, length-append, length-take, length-drop, drop_of_length-le, take-append-drop}
use lib.Seq.{take-suc, drop-cons, drop-nil, take_at, drop_at}
-- given on, for what reads bits and bytes together
pub use Rattle.parts.proofs.Laws.{AreBytes}
use Rattle.wire.specs.Bits.{low, wire, num, octets, pack}

-- ---- lists of bits

abbrev pub Bit : ℕ → Type 0
Bit b = (b ≡ 0) ⊎ (b ≡ 1)

pub data AreBits : List ℕ → Type 0 where
  none : AreBits []
  more : {b : ℕ} {bs : List ℕ} → Bit b → AreBits bs → AreBits (b ∷ bs)

pub bit_of : (b : ℕ) → b < 2 → Bit b
bit_of zero h = inl refl
bit_of (suc zero) h = inr refl
bit_of (suc (suc b)) h = absurd (omega arith)

pub bits_append : {p q : List ℕ} → AreBits p → AreBits q → AreBits (p ++ q)
bits_append none k = k
bits_append (more b h) k = more b (bits_append h k)

pub bits_low : (n v : ℕ) → AreBits (low n v)
unfolding low
bits_low zero v = none
bits_low (suc n) v = more (bit_of (v % 2) (omega arith)) (bits_low n (v / 2))

pub bits_wire : (s : List ℕ) → AreBits (wire s)
unfolding wire
bits_wire [] = none
bits_wire (x ∷ s) = bits_append (bits_low 8 x) (bits_wire s)

pub bits_take : (n : ℕ) {bs : List ℕ} → AreBits bs → AreBits (take n bs)
bits_take zero h = none
bits_take (suc n) none = none
bits_take (suc n) (more b h) = more b (bits_take n h)

pub bits_drop : (n : ℕ) {bs : List ℕ} → AreBits bs → AreBits (drop n bs)
bits_drop zero h = h
bits_drop (suc n) none = none
bits_drop (suc n) (more b h) = bits_drop n h

pub bits_zeros : (n : ℕ) → AreBits (replicate n 0)
bits_zeros zero = none
bits_zeros (suc n) = more (inl refl) (bits_zeros n)

-- ---- the low bits of a number

pub length_low : (n v : ℕ) → length (low n v) ≡ n
unfolding low
length_low zero v = refl
length_low (suc n) v = ap suc (length_low n (v / 2))

-- the low bits do not see what is above them
pub low_cut : (r h x : ℕ) → low r (h * 2 ^ r + x) ≡ low r x
unfolding low
low_cut zero h x = refl
low_cut (suc r) h x = rw (block_odd h r x, block_half h r x) (ap (λ (l : List ℕ). x % 2 ∷ l) (low_cut r h (x / 2)))

pub low_mod : (r x : ℕ) → low r (x % 2 ^ r) ≡ low r x
low_mod r x = sym (ap (low r) (sym (split x r)) ∙ low_cut r (x / 2 ^ r) (x % 2 ^ r))

pub low_add : (m n v : ℕ) → low (m + n) v ≡ low m v ++ low n (v / 2 ^ m)
unfolding low
low_add zero n v = rw (zero-add n, div-one v) refl
low_add (suc m) n v =
    rw (suc-add m n)
    (ap (λ (l : List ℕ). v % 2 ∷ l)
    (low_add m n (v / 2) ∙ ap (λ (x : ℕ). low m (v / 2) ++ low n x) (shr-shr v 1 m ∙ ap (λ (x : ℕ). v / 2 ^ x) (one-add m))))

-- two bytes of a 16-bit number, low byte first
pub low_bytes : (v : ℕ) → low 8 (v % 256) ++ low 8 (v / 256) ≡ low 16 v
low_bytes v = rw (low_mod 8 v) (sym (low_add 8 8 v))

-- ---- the bits of bytes

pub wire_append : (p q : List ℕ) → wire (p ++ q) ≡ wire p ++ wire q
unfolding wire
wire_append [] q = refl
wire_append (x ∷ p) q = rw (wire_append p q) (sym (append_assoc (low 8 x) (wire p) (wire q)))

pub length_wire : (p : List ℕ) → length (wire p) ≡ 8 * length p
unfolding wire
length_wire [] = refl
length_wire (x ∷ p) = rw (length-append (low 8 x) (wire p), length_low 8 x, length_wire p) (omega arith)

pub wire_cons : (s : List ℕ) (i : ℕ) → i < length s → wire (drop i s) ≡ low 8 (get_or s i 0) ++ wire (drop (i + 1) s)
unfolding wire
wire_cons s i h = rw (add-one, drop-cons s i 0 h) refl

pub wire_more : (s : List ℕ) (i : ℕ) → i < length s → wire (take (i + 1) s) ≡ wire (take i s) ++ low 8 (get_or s i 0)
unfolding wire
wire_more s i h = rw (add-one, take-suc s i 0 h, wire_append (take i s) (get_or s i 0 ∷ []), append-nil (low 8 (get_or s i 0))) refl

pub wire_end : (s : List ℕ) (i j : ℕ) → length s ≤ i → drop j (wire (drop i s)) ≡ []
unfolding wire
wire_end s i j h = rw (drop_of_length-le s h) (drop-nil j)

pub take_wire : (k : ℕ) (s : List ℕ) → k ≤ length s → take (8 * k) (wire s) ≡ wire (take k s)
take_wire k s h =
    let lt : length (take k s) ≡ k = length-take k s ∙ omega arith in
    let lw : length (wire (take k s)) ≡ 8 * k = length_wire (take k s) ∙ ap (λ (x : ℕ). 8 * x) lt in
    ap (λ (l : List ℕ). take (8 * k) (wire l)) (sym (take-append-drop k s))
    ∙ ap (take (8 * k)) (wire_append (take k s) (drop k s))
    ∙ take_at (wire (take k s)) (wire (drop k s)) (8 * k) lw

-- ---- bits as bytes again

pub num_low : (n x : ℕ) → x < 2 ^ n → num (low n x) ≡ x
unfolding num low
num_low zero x h = sym (lt-one h)
num_low (suc n) x h = omega (arith, num_low n (x / 2) (omega (arith, pow-suc 2 n)))

pub octets_wire : (xs : List ℕ) → AreBytes xs → octets (length xs) (wire xs) ≡ xs
unfolding octets wire
octets_wire [] h = refl
octets_wire (x ∷ xs) h =
    rw (take_at (low 8 x) (wire xs) 8 (length_low 8 x), drop_at (low 8 x) (wire xs) 8 (length_low 8 x), num_low 8 x (h 0))
    (ap (λ (l : List ℕ). x ∷ l) (octets_wire xs (λ i. h (suc i))))

pub pack_wire : (xs : List ℕ) → AreBytes xs → pack (wire xs) ≡ xs
unfolding pack
pack_wire xs h =
    let e : length (wire xs) / 8 ≡ length xs = omega (arith, length_wire xs) in
    ap (λ (n : ℕ). octets n (wire xs)) e ∙ octets_wire xs h

pub length_octets : (n : ℕ) (bs : List ℕ) → length (octets n bs) ≡ n
unfolding octets
length_octets zero bs = refl
length_octets (suc n) bs = ap suc (length_octets n (drop 8 bs))

pub length_pack : (bs : List ℕ) → length (pack bs) ≡ length bs / 8
unfolding pack
length_pack bs = length_octets (length bs / 8) bs

pub num_lt : {bs : List ℕ} → AreBits bs → num bs < 2 ^ length bs
unfolding num
num_lt none = omega arith
num_lt {bs = b ∷ bs} (more (inl z) h) = omega (arith, num_lt h, pow-suc 2 (length bs))
num_lt {bs = b ∷ bs} (more (inr z) h) = omega (arith, num_lt h, pow-suc 2 (length bs))

pub low_num : {bs : List ℕ} → AreBits bs → low (length bs) (num bs) ≡ bs
unfolding num low
low_num none = refl
low_num {bs = b ∷ bs} (more z h) =
    let b2 : b < 2 = bit_lt z in
    let e : (b + 2 * num bs) % 2 ≡ b = omega arith in
    let d : (b + 2 * num bs) / 2 ≡ num bs = omega arith in
    rw (e, d) (ap (λ (l : List ℕ). b ∷ l) (low_num h))
  where
    bit_lt : {x : ℕ} → Bit x → x < 2
    bit_lt (inl q) = omega arith
    bit_lt (inr q) = omega arith

-- whole bytes of bits come back
pub wire_octets : (n : ℕ) (bs : List ℕ) → AreBits bs → length bs ≡ 8 * n → wire (octets n bs) ≡ bs
unfolding octets wire
wire_octets zero [] h e = refl
wire_octets zero (b ∷ bs) h e = absurd (omega arith)
wire_octets (suc n) bs h e =
    let l8 : length (take 8 bs) ≡ 8 = length-take 8 bs ∙ omega arith in
    let ld : length (drop 8 bs) ≡ 8 * n = length-drop 8 bs ∙ omega arith in
    ap₂ ◌++◌ (ap (λ (k : ℕ). low k (num (take 8 bs))) (sym l8) ∙ low_num (bits_take 8 h)) (wire_octets n (drop 8 bs) (bits_drop 8 h) ld)
    ∙ take-append-drop 8 bs

pub wire_pack : (bs : List ℕ) → AreBits bs → length bs % 8 ≡ 0 → wire (pack bs) ≡ bs
unfolding pack
wire_pack bs h e = wire_octets (length bs / 8) bs h (omega arith)

pub bytes_octets : (n : ℕ) (bs : List ℕ) → AreBits bs → length bs ≡ 8 * n → AreBytes (octets n bs)
unfolding octets
bytes_octets zero bs h e i = omega arith
bytes_octets (suc n) bs h e zero =
    let l8 : length (take 8 bs) ≡ 8 = length-take 8 bs ∙ omega arith in
    rw l8 at (num_lt (bits_take 8 h))
bytes_octets (suc n) bs h e (suc i) = bytes_octets n (drop 8 bs) (bits_drop 8 h) (length-drop 8 bs ∙ omega arith) i

pub bytes_pack : (bs : List ℕ) → AreBits bs → length bs % 8 ≡ 0 → AreBytes (pack bs)
unfolding pack
bytes_pack bs h e = bytes_octets (length bs / 8) bs h (omega arith)
