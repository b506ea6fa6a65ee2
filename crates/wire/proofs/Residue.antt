-- The residue's other direction: bits that leave 0xF0B8 in the register end in the FCS of the bits before them.
use mathlib.Core.Path.{◌≡◌, sym, ap, ap₂, ◌∙◌}
use mathlib.Core.List.{List, ◌++◌}
use Prim.Native.Nat.{ℕ, zero, suc, ◌+◌, ◌*◌, ◌-◌, ◌/◌, ◌%◌, ◌^◌, ◌≤◌, ◌<◌}
use native.Mathlib.Omega.{arith}
use lib.Bits.{bit_xor, xor_lt, xor_zero_r, xor_comm, xor_self, xor_shr}
use lib.ListN.{length, take, drop, length-take, length-drop, take-append-drop}
use lib.Seq.{drop_at}
use Rattle.wire.specs.Bits.{low, wire, num, pack}
use Rattle.wire.specs.Fcs.{polynomial, preset, residue, register_bit, register, fcs}
use Rattle.wire.specs.Frame.{content_of}
use Rattle.wire.proofs.Bits.{AreBits, bits_take, bits_drop, low_num, num_lt, wire_append, wire_pack}
use Rattle.wire.proofs.Check.{register_bit_lt, register_lt, register_append, xor_assoc, come, own, content_bits, good_residue}

-- ---- a register tells the one before it

xor_back : (a k : ℕ) → bit_xor (bit_xor a k) k ≡ a
xor_back a k = xor_assoc a k k ∙ ap (bit_xor a) (xor_self k) ∙ xor_zero_r a

xor_same : (a b k : ℕ) → bit_xor a k ≡ bit_xor b k → a ≡ b
xor_same a b k e = sym (xor_back a k) ∙ ap (λ (x : ℕ). bit_xor x k) e ∙ xor_back b k

-- the highest bit says whether the polynomial was added
added : (a f : ℕ) → a < 32768 → f < 2 → bit_xor a (polynomial * f) / 2 ^ 15 ≡ f
added a zero h k = ap (λ (x : ℕ). x / 2 ^ 15) (xor_zero_r a) ∙ omega arith
added a (suc zero) h k =
    let z : a / 2 ^ 15 ≡ 0 = omega arith in
    xor_shr a polynomial 15 ∙ ap (λ (x : ℕ). bit_xor x 1) z
added a (suc (suc f)) h k = absurd (omega arith)

step_back : (c d : ℕ) → c < 65536 → d < 65536 → register_bit c 0 ≡ register_bit d 0 → c ≡ d
unfolding register_bit
step_back c d hc hd e =
    let f : (c % 2 + 0) % 2 ≡ (d % 2 + 0) % 2 =
    sym (added (c / 2) ((c % 2 + 0) % 2) (omega arith) (omega arith)) ∙ ap (λ (x : ℕ). x / 2 ^ 15) e
    ∙ added (d / 2) ((d % 2 + 0) % 2) (omega arith) (omega arith) in
    let g : bit_xor (c / 2) (polynomial * ((d % 2 + 0) % 2)) ≡ bit_xor (d / 2) (polynomial * ((d % 2 + 0) % 2)) =
    ap (λ (x : ℕ). bit_xor (c / 2) (polynomial * x)) (sym f) ∙ e in
    let half : c / 2 ≡ d / 2 = xor_same (c / 2) (d / 2) (polynomial * ((d % 2 + 0) % 2)) g in
    omega arith

zeros_back : (n c d : ℕ) → c < 65536 → d < 65536 → register c (low n 0) ≡ register d (low n 0) → c ≡ d
unfolding register low register_bit
zeros_back zero c d hc hd e = e
zeros_back (suc n) c d hc hd e =
    step_back c d hc hd (zeros_back n (register_bit c 0) (register_bit d 0) (register_bit_lt c 0 hc) (register_bit_lt d 0 hd) e)

-- sixteen bits that lead from one register to one register are the same
same_sixteen : (c x y : ℕ) → c < 65536 → x < 65536 → y < 65536 → register c (low 16 x) ≡ register c (low 16 y) → x ≡ y
same_sixteen c x y hc hx hy e =
    let k : bit_xor c x ≡ bit_xor c y =
    zeros_back 16 (bit_xor c x) (bit_xor c y) (xor_lt 16 c x hc hx) (xor_lt 16 c y hc hy) (sym (come 16 c x hx) ∙ e ∙ come 16 c y hy) in
    xor_same x y c (xor_comm x c ∙ k ∙ xor_comm c y)

-- ONLY THE COMPLEMENT LEAVES THE RESIDUE.
pub only_complement : (c v : ℕ) → c < 65536 → v < 65536 → register c (low 16 v) ≡ residue → v ≡ preset - c
only_complement c v hc hv e = same_sixteen c v (preset - c) hc hv (omega arith) (e ∙ sym (own c hc))

-- ---- whole bytes of bits, the last two of them apart

module _ {bits : List ℕ} (h : AreBits bits) (least : 16 ≤ length bits) (whole : length bits % 8 ≡ 0) where
  -- the bytes before the last two
  abbrev pub ahead : List ℕ
  ahead = pack (take (length bits - 16) bits)

  ahead_bits : wire ahead ≡ take (length bits - 16) bits
  ahead_bits =
      let l : length (take (length bits - 16) bits) ≡ length bits - 16 = length-take (length bits - 16) bits ∙ omega arith in
      let z : length (take (length bits - 16) bits) % 8 ≡ 0 = rw l (omega arith) in
      wire_pack (take (length bits - 16) bits) (bits_take (length bits - 16) h) z

  last_length : length (drop (length bits - 16) bits) ≡ 16
  last_length = length-drop (length bits - 16) bits ∙ omega arith

  last_bits : low 16 (num (drop (length bits - 16) bits)) ≡ drop (length bits - 16) bits
  last_bits =
      ap (λ (n : ℕ). low n (num (drop (length bits - 16) bits))) (sym last_length) ∙ low_num (bits_drop (length bits - 16) h)

  last_lt : num (drop (length bits - 16) bits) < 65536
  last_lt = rw last_length at (num_lt (bits_drop (length bits - 16) h))

  apart : wire ahead ++ low 16 (num (drop (length bits - 16) bits)) ≡ bits
  apart = ap₂ ◌++◌ ahead_bits last_bits ∙ take-append-drop (length bits - 16) bits

  -- BITS THAT LEAVE 0xF0B8 ARE BODY AND FCS.
  pub residue_content : register preset bits ≡ residue → bits ≡ content_of ahead
  residue_content e =
      let v = num (drop (length bits - 16) bits) in
      let r : register (register preset (wire ahead)) (low 16 v) ≡ residue =
      sym (register_append preset (wire ahead) (low 16 v)) ∙ ap (register preset) apart ∙ e in
      sym apart ∙ sym (content_bits ahead v (only_complement (register preset (wire ahead)) v (register_lt (wire ahead) preset (omega arith)) last_lt r))

  -- and body and FCS are the bits whose last sixteen are the FCS of those before
  pub content_last : bits ≡ content_of ahead → drop (length bits - 16) bits ≡ wire (fcs ahead)
  content_last e =
      let l : length (wire ahead) ≡ length bits - 16 = ap length ahead_bits ∙ length-take (length bits - 16) bits ∙ omega arith in
      ap (drop (length bits - 16)) (e ∙ wire_append ahead (fcs ahead)) ∙ drop_at (wire ahead) (wire (fcs ahead)) (length bits - 16) l

  pub last_residue : drop (length bits - 16) bits ≡ wire (fcs ahead) → register preset bits ≡ residue
  last_residue e =
      ap (register preset)
      (sym (take-append-drop (length bits - 16) bits) ∙ ap₂ ◌++◌ (sym ahead_bits) e ∙ sym (wire_append ahead (fcs ahead)))
      ∙ good_residue ahead
