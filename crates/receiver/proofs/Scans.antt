-- A scan between two bytes.
use Rattle.std.proofs.Common.{◌≡◌, List, ℕ, ◌+◌, ◌-◌, ◌*◌, ◌/◌, ◌%◌, ◌^◌, ◌<◌, ◌≤◌, drop, length, get_or, Option, Some, None, true, refl, sym, ap, ◌∙◌, arith}
use Rattle.std.proofs.lemmas.Bool.{eqb-true}
use Rattle.std.specs.Option.{option_eq}
use lib.Dec.{eqb}
use Rattle.wire.specs.Bits.{wire}
use Rattle.receiver.specs.Receiver.{runs, decides}
use Rattle.receiver.specs.Inner.{Good, Scan, hit_of, state_of}
use Rattle.receiver.specs.declared.scanning.Control.{Control}
use Rattle.receiver.specs.declared.scanning.End.{End}
use Rattle.receiver.specs.declared.scanning.End.TheVariants as end
use Rattle.wire.proofs.Bits.{wire_end}
use Rattle.receiver.proofs.Bits.{wire_at}
use Rattle.receiver.proofs.Machine.{Onward, Passes, runs_end, onward_stop, byte_taken, byte_passed, passes_again}

-- before byte i of s: what is left stops where all stops, and an idle byte is passed over
pub record AtByte (start : Control) (kept : List ℕ) (from : ℕ) (s : List ℕ) (i : ℕ) (c : Control) (bytes : List ℕ) (used : ℕ) (e : End) (skip : ℕ)
    (idle : Option ℕ) : Type 0 where
  pub good : Good c bytes
  pub out : e ≡ end.OutOfBits
  pub in_byte : skip < 8
  pub most : used ≤ 8 * i
  pub left : runs (state_of start kept) 0 (drop from (wire s)) ≡ runs (state_of c bytes) used (drop skip (wire (drop i s)))
  pub passed : (x : ℕ) → idle ≡ Some x → (skip ≡ 0) × Passes (state_of c bytes) x

pub is_some : (o : Option ℕ) (x : ℕ) → option_eq eqb o (Some x) ≡ true → o ≡ Some x
is_some None x h = cc
is_some (Some y) x h = ap (λ (n : ℕ). let o : Option ℕ = Some n in o) (eqb-true y x h)

module _ {start : Control} {kept : List ℕ} {from : ℕ} {s : List ℕ} {i : ℕ} {c : Control} {bytes : List ℕ} {used : ℕ} {e : End} {skip : ℕ} {idle : Option ℕ} where
  pub at_passed : i < length s → idle ≡ Some (get_or s i 0) → AtByte start kept from s i c bytes used e skip idle
      → AtByte start kept from s (i + 1) c bytes (used + 8) e skip idle
  at_passed h q a =
      let p = a.passed (get_or s i 0) q in
      record {
        good = a.good;
        out = a.out;
        in_byte = a.in_byte;
        most = omega (arith, a.most);
        left = rw p.0 (rw p.0 at a.left ∙ byte_passed s i h p.1 used);
        passed = a.passed;
      }

  module _ (h : i < length s) (a : AtByte start kept from s i c bytes used e skip idle) where
    pub at_taken : {c' : Control} {bytes' : List ℕ} {used' : ℕ} {e' : End} {idle' : Option ℕ} → Good c' bytes' → e' ≡ end.OutOfBits
        → Onward (state_of c bytes) (get_or s i 0) skip 8 (state_of c' bytes') → used' ≡ used + (8 - skip)
        → ((x : ℕ) → idle' ≡ Some x → (skip ≡ 0) × (x ≡ get_or s i 0) × (state_of c bytes ≡ state_of c' bytes'))
        → AtByte start kept from s (i + 1) c' bytes' used' e' 0 idle'
    at_taken g n o u f =
        record {
          good = g;
          out = n;
          in_byte = omega arith;
          most = omega (arith, a.most, a.in_byte);
          left = rw u (a.left ∙ byte_taken s i h skip a.in_byte o used);
          passed = λ x q. let t = f x q in (refl, rw t.1 (passes_again o t.0 t.2));
        }

    pub at_stop : {c' : Control} {bytes' : List ℕ} {used' place : ℕ} {e' : End} → Good c' bytes'
        → Onward (state_of c bytes) (get_or s i 0) skip place (state_of c' bytes') → skip ≤ place → place < 8 → used' ≡ used + (place - skip)
        → decides (state_of c' bytes') (get_or s i 0 / 2 ^ place % 2) ≡ true → hit_of e' ≡ get_or s i 0 / 2 ^ place % 2 + 1
        → (e' ≡ end.Flag → 37 + c'.lead ≤ c'.count)
        → Scan start kept (drop from (wire s)) (record { control = c'; bytes = bytes'; used = used' + 1; end = e' })
    at_stop g o k l u d t f =
        record {
          good = g;
          stops = rw (a.left, wire_at s i skip h a.in_byte, t, u) (sym (onward_stop k l o used (wire (drop (i + 1) s)) d));
          ends = f;
        }

  pub at_end : length s ≤ i → AtByte start kept from s i c bytes used e skip idle
      → Scan start kept (drop from (wire s)) (record { control = c; bytes = bytes; used = used; end = e })
  at_end h a =
      record {
        good = a.good;
        stops = rw (a.out, a.left, wire_end s i skip h) (sym (runs_end (state_of c bytes) used));
        ends = λ f. let g : end.OutOfBits ≡ end.Flag = sym a.out ∙ f in cc;
      }
