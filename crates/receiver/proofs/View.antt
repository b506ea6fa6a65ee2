-- A struct and what it stands for: laws of `view` and `image`, and the answer of a flag over kept bytes.
use mathlib.Core.Path.{◌≡◌, refl, sym, ap, ap₂, ◌∙◌}
use mathlib.Core.List.{List, ◌∷◌, ◌++◌}
use Prim.Native.Nat.{ℕ, zero, suc, ◌+◌, ◌*◌, ◌-◌, ◌/◌, ◌%◌, ◌≤◌, ◌<◌}
use native.Mathlib.Nat.{div-eq_of_lt}
use native.Mathlib.Omega.{arith}
use borrow.Author.Tests.{eq-eqb, ne_eqb, lt-ltb, le-ltb}
use lib.ListN.{length, take, replicate, length-take}
use lib.Seq.{take-take}
use Rattle.numbers.specs.Numbers as number
pub use Rattle.parts.proofs.Laws.{AreBytes, bytes_take, put_none}
use Rattle.wire.specs.Bits.{low, wire, pack}
use Rattle.wire.specs.Fcs.{register, preset, residue}
use Rattle.receiver.specs.Receiver.{State, runs, view, image}
use Rattle.receiver.specs.Receive.{bare, at_flag, concluded, reading}
use Rattle.receiver.specs.Inner.{value, Good, control_of, state_of, stop_of, receiver_of, Scan}
use Rattle.receiver.specs.declared.Receiver.{Receiver}
use Rattle.receiver.specs.declared.scanning.Control.{Control}
use Rattle.receiver.specs.declared.scanning.Scanned.{Scanned}
use Rattle.wire.proofs.Bits.{length_low, low_add, length_wire, take_wire, pack_wire}
use Rattle.receiver.proofs.Bits.{take_low}
use Rattle.receiver.proofs.Content.{take_value, wire_value}

-- ---- a struct in range is the image of its state

low_zero : (n : ℕ) → low n 0 ≡ replicate n 0
unfolding low
low_zero zero = refl
low_zero (suc n) = ap (λ (l : List ℕ). 0 ∷ l) (low_zero n)

module _ (c : Control) (bytes : List ℕ) (g : Good c bytes) where
  filled : low c.count (value bytes) ++ replicate (160 - c.count) 0 ≡ wire bytes
  filled =
      let e : 8 * length bytes ≡ c.count + (160 - c.count) = omega (arith, g.size, g.count) in
      sym (wire_value bytes g.small ∙ ap (λ (n : ℕ). low n (value bytes)) e ∙ low_add c.count (160 - c.count) (value bytes)
      ∙ ap (λ (l : List ℕ). low c.count (value bytes) ++ l) (ap (low (160 - c.count)) (div-eq_of_lt g.rest) ∙ low_zero (160 - c.count)))

  kept_bytes : bytes ≡ pack (low c.count (value bytes) ++ replicate (160 - length (low c.count (value bytes))) 0)
  kept_bytes = rw length_low (sym (ap pack filled ∙ pack_wire bytes g.small))

  pub image_state : receiver_of c bytes ≡ image (state_of c bytes)
  image_state = ap₂ (λ (n : ℕ) (l : List ℕ). record { mode = c.mode; ones = c.ones; lead = c.lead; count = n; bytes = l }) (sym (length_low c.count (value bytes))) kept_bytes

-- the content that a flag ends, its zero and the five ones of the run left out
pub content_kept : (c : Control) (bytes : List ℕ) → Good c bytes
    → take (length (low c.count (value bytes)) - (5 + c.lead)) (low c.count (value bytes)) ≡ take (c.count - (5 + c.lead)) (wire bytes)
content_kept c bytes g =
    rw length_low
    (take_low (c.count - (5 + c.lead)) c.count (value bytes) (omega arith)
    ∙ sym (take_value bytes (c.count - (5 + c.lead)) g.small (omega (arith, g.size, g.count))))

pub state_view : (r : Receiver) → Good (control_of r) r.bytes → state_of (control_of r) r.bytes ≡ view r
state_view r g =
    ap (λ (l : List ℕ). record { mode = r.mode; ones = r.ones; lead = r.lead; content = l })
    (sym (take_value r.bytes r.count g.small (omega (arith, g.size, g.count))))

-- ---- the answer of a flag, in document 01's order

pub length_content : (kept : List ℕ) (bits : ℕ) → length kept ≡ 20 → bits ≤ 152 → length (take bits (wire kept)) ≡ bits
length_content kept bits h k = length-take bits (wire kept) ∙ omega (arith, length_wire kept)

module _ (kept : List ℕ) (bits : ℕ) (h32 : 32 ≤ bits) (hm : bits ≤ 152) (hl : length kept ≡ 20) where
  pub flag_long : 144 < bits → at_flag (take bits (wire kept)) ≡ bare number.long_content
  unfolding at_flag
  flag_long h = rw (length_content kept bits hl hm, le-ltb bits 32 h32, lt-ltb 144 bits h) refl

  pub flag_broken : bits ≤ 144 → (bits % 8 ≡ 0 → ⊥) → at_flag (take bits (wire kept)) ≡ bare number.broken_content
  unfolding at_flag
  flag_broken h z = rw (length_content kept bits hl hm, le-ltb bits 32 h32, le-ltb 144 bits h, ne_eqb (bits % 8) 0 z) refl

  module _ (h : bits ≤ 144) (z : bits % 8 ≡ 0) where
    whole : take bits (wire kept) ≡ wire (take (bits / 8) kept)
    whole =
        let e : bits ≡ 8 * (bits / 8) = omega arith in
        ap (λ (n : ℕ). take n (wire kept)) e ∙ take_wire (bits / 8) kept (omega arith)

    pub flag_wrong : (register preset (wire (take (bits / 8) kept)) ≡ residue → ⊥) → at_flag (take bits (wire kept)) ≡ bare number.wrong_fcs
    unfolding at_flag
    flag_wrong w =
        rw (length_content kept bits hl hm, le-ltb bits 32 h32, le-ltb 144 bits h, eq-eqb (bits % 8) 0 z, whole, ne_eqb (register preset (wire (take (bits / 8) kept))) residue w) refl

    pub flag_good : AreBytes kept → register preset (wire (take (bits / 8) kept)) ≡ residue
        → at_flag (take bits (wire kept)) ≡ record { number = number.has_frame; body = take (bits / 8 - 2) kept }
    unfolding at_flag
    flag_good hb w =
        rw (length_content kept bits hl hm, le-ltb bits 32 h32, le-ltb 144 bits h, eq-eqb (bits % 8) 0 z, whole, eq-eqb (register preset (wire (take (bits / 8) kept))) residue w)
        (ap (λ (l : List ℕ). record { number = number.has_frame; body = l })
        (ap (take (bits / 8 - 2)) (pack_wire (take (bits / 8) kept) (bytes_take (bits / 8) kept hb)) ∙ take-take (bits / 8 - 2) (bits / 8) kept (omega arith)))

pub ruleset flags = (flag_long, flag_broken, flag_wrong, flag_good, put_none)

pub ruleset ends = (image_state, content_kept, put_none)

-- a scan from a receiver's own control and bytes is the reading from what it stands for
pub read_from_lem : (rx : Receiver) (bits : List ℕ) (p : Scanned) → Good (control_of rx) rx.bytes → Scan (control_of rx) rx.bytes bits p
    → concluded (stop_of p) ≡ reading (view rx) bits
unfolding reading
read_from_lem rx bits p g s = ap concluded (s.stops ∙ ap (λ (x : State). runs x 0 bits) (state_view rx g))
