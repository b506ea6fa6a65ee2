-- Laws of the pen: bits after bits, stuffed bits after stuffed bits.
use Rattle.std.proofs.Common.{◌≡◌, List, [], ◌++◌, ℕ, ◌+◌, ◌-◌, ◌*◌, ◌/◌, ◌%◌, ◌^◌, ◌<◌, ◌≤◌, length, replicate, take, get_or, refl, sym, ap, ◌∙◌, arith, append_assoc, length-take}
use Rattle.std.proofs.lemmas.List.{length-replicate}
use Rattle.wire.specs.Bits.{low, wire}
use Rattle.wire.specs.Fcs.{check_of}
use Rattle.wire.specs.Frame.{stuff, flag, content_of}
use Rattle.wire.proofs.Check.{content_bits}
use Rattle.wire.proofs.Bits.{length_low, low_bytes, length_wire, length_pack, wire_more}
use Rattle.parts.specs.Parts.{put}
use Rattle.parts.proofs.Laws.{AreBytes}
use Rattle.transmitter.specs.declared.framing.Pen.{Pen}
use Rattle.transmitter.specs.Frame.{frame, filled, framed}
use Rattle.transmitter.specs.Inner.{Inked}
use Rattle.transmitter.specs.Pen.{Inks, Writes}
use Rattle.transmitter.proofs.Written.{written_none, written_then, inked_then, lacking, fill_none, ones_are, flag_low, laid}

pub writes_none : (p : Pen) → Writes p [] p
writes_none p = record { written = written_none p.output.now p.bits p.held p.ones p.in_byte p.short; same = refl }

pub writes_then : {p q r : Pen} {l m : List ℕ} → Writes p l q → Writes q m r → Writes p (l ++ m) r
writes_then a b = record { written = written_then a.written b.written; same = b.same ∙ a.same }

pub writes_none_yet : (p : Pen) → Writes p (wire []) p
unfolding wire
writes_none_yet p = writes_none p

pub writes_more : (s : List ℕ) (i : ℕ) {p q r : Pen} → i < length s → Writes p (wire (take i s)) q → Writes q (low 8 (get_or s i 0)) r
    → Writes p (wire (take (i + 1) s)) r
writes_more s i h a b = rw (wire_more s i h) (writes_then a b)

-- ones up to the end of a byte
pub fills_none : (p : Pen) → lacking p.bits ≡ 0 → Inks p (replicate (lacking p.bits) 1) p × (p.bits ≡ 8 * (p.bits / 8))
fills_none p z = (record { raw = fill_none p.in_byte z; same = refl }, omega arith)

pub fills_some : {p q : Pen} → Inks p (low (lacking p.bits) (255 / 2 ^ (8 - lacking p.bits))) q → Inks p (replicate (lacking p.bits) 1) q × (q.bits ≡ 8 * (q.bits / 8))
fills_some {p} {q} i =
    (record { raw = rw (ones_are (lacking p.bits) (omega arith)) at i.raw; same = i.same }, omega (arith, rw length_low at i.raw.count))

-- on from a pen that stands where another does
writes_from : {p q r : Pen} {l : List ℕ} → q.output ≡ p.output → q.bits ≡ p.bits → q.held ≡ p.held → q.ones ≡ p.ones → Writes q l r → Writes p l r
writes_from o b h k w = record { written = rw (o, b, h, k) at w.written; same = w.same ∙ rw o refl }

-- A body's frame, and the ones after it. The check goes on from where the body ends: its run of ones too.
module _ (body : List ℕ) (p₀ : Pen) (n : p₀.bits ≡ 0) (h : p₀.held ≡ 0) {p₁ p₂ q₂ p₃ p₄ p₅ p₆ : Pen} (v : ℕ) (e : v ≡ check_of body) (z : p₁.ones ≡ 0)
    (a : Inks p₀ (low 8 0x7E) p₁) (w₂ : Writes p₁ (wire body) p₂) (o₂ : q₂.output ≡ p₂.output) (b₂ : q₂.bits ≡ p₂.bits) (h₂ : q₂.held ≡ p₂.held)
    (k₂ : q₂.ones ≡ p₂.ones) (w₃ : Writes q₂ (low 8 (v % 256)) p₃) (w₄ : Writes p₃ (low 8 (v / 256)) p₄)
    (d : Inks p₄ (low 8 0x7E) p₅) (f : Inks p₅ (replicate (lacking p₅.bits) 1) p₆) where
  check_begun : Writes p₂ (low 8 (v % 256)) p₃
  check_begun = writes_from o₂ b₂ h₂ k₂ w₃

  pub framed_bits : Inked p₀.output.now 0 0 (filled (frame body)) p₆.output.now p₆.bits p₆.held
  unfolding filled frame
  framed_bits =
      let c : (wire body ++ low 8 (v % 256)) ++ low 8 (v / 256) ≡ content_of body =
      append_assoc (wire body) (low 8 (v % 256)) (low 8 (v / 256)) ∙ ap (λ (x : List ℕ). wire body ++ x) (low_bytes v) ∙ sym (content_bits body v e) in
      let w = rw (z, c) at (writes_then (writes_then w₂ check_begun) w₄).written in
      let g = rw (n, h, flag_low, append_assoc flag (stuff 0 (content_of body)) flag) at (inked_then (inked_then a.raw w.raw) d.raw) in
      let m : length (flag ++ (stuff 0 (content_of body) ++ flag)) ≡ p₅.bits = omega (arith, g.count) in
      rw m (inked_then g f.raw)

  module _ (k : ℕ) (b : p₆.bits ≡ 8 * k) where
    pub frame_size : k ≡ length (framed body)
    unfolding framed
    frame_size = omega (arith, length_pack (filled (frame body)), framed_bits.count)

    pub frame_laid : {r : List ℕ} → length body ≤ 16 → r ≡ p₆.output.now → AreBytes r → r ≡ put 0 (framed body) p₀.output.now
    unfolding framed
    frame_laid m q t =
        let most : p₅.bits ≤ 192 =
        omega (arith, rw length_low at a.raw.count, rw length_wire at w₂.written.most, rw length_low at check_begun.written.most, rw length_low at w₄.written.most, rw length_low at d.raw.count) in
        let room : k ≤ length p₆.output.now = omega (arith, p₆.room, rw length-replicate at f.raw.count) in
        q ∙ laid p₀.output.now (filled (frame body)) p₆.output.now k room (rw b at framed_bits) (rw q at t)

pub ruleset lengths = (length_low, length_wire, length-take)
