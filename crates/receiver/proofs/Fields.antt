-- A receiver in range, its tests as facts.
use mathlib.Core.Path.{◌≡◌}
use mathlib.Core.Bool.{true, cond, ◌&&◌}
use Prim.Native.Nat.{ℕ, ◌+◌, ◌≤◌, min}
use native.Mathlib.Omega.{arith}
use borrow.Author.Tests.{leb-true, eqb-true, eq-eqb, ne_eqb}
use lib.Dec.{eqb, leb}
use lib.ListN.{length}
use Rattle.receiver.specs.Receiver.{fields_fit, in_range}
use Rattle.receiver.specs.Inner.{Good, control_of}
use Rattle.receiver.specs.declared.Receiver.{Receiver}
use Rattle.parts.proofs.Laws.{AreBytes}
use Rattle.bits.proofs.Tests.{both}
use Rattle.receiver.proofs.Content.{clear_value}

module _ (mode ones lead count : ℕ) (h : fields_fit mode ones lead count ≡ true) where
  pub record Fields : Type 0 where
    pub mode_most : mode ≤ 1
    pub ones_most : ones ≤ 7
    pub lead_most : lead ≤ 1
    pub count_most : count ≤ 152
    pub idle : mode ≡ 0 → (count ≡ 0) × (lead ≡ 0)
    pub seven : mode ≡ 1 → ones ≤ 6
    pub run : mode ≡ 1 → lead + min ones 5 ≤ count

  pub fields : Fields
  unfolding fields_fit
  fields =
      let e = both _ _ h in
      let d = both _ _ e.0 in
      let c = both _ _ d.0 in
      let b = both _ _ c.0 in
      record {
        mode_most = leb-true mode 1 b.0;
        ones_most = leb-true ones 7 b.1;
        lead_most = leb-true lead 1 c.1;
        count_most = leb-true count 152 d.1;
        idle = λ z. let p = both (eqb count 0) (eqb lead 0) (rw (eq-eqb mode 0 z) at e.1) in (eqb-true count 0 p.0, eqb-true lead 0 p.1);
        seven = λ z. leb-true ones 6 (framed z e.1).0;
        run = λ z. leb-true (lead + min ones 5) count (framed z e.1).1;
      }
    where
      framed : mode ≡ 1 → cond (eqb mode 0) (eqb count 0 && eqb lead 0) (leb ones 6 && leb (lead + min ones 5) count) ≡ true
          → (leb ones 6 ≡ true) × (leb (lead + min ones 5) count ≡ true)
      framed z k = both (leb ones 6) (leb (lead + min ones 5) count) (rw (ne_eqb mode 0 (λ q. omega arith)) at k)

module _ (r : Receiver) (hl : length r.bytes ≡ 20) (hb : AreBytes r.bytes) where
  pub good : in_range r ≡ true → Good (control_of r) r.bytes
  unfolding in_range
  good h =
      let p = both _ _ h in
      let f = fields r.mode r.ones r.lead r.count p.0 in
      record {
        mode = f.mode_most;
        ones = f.ones_most;
        lead = f.lead_most;
        count = f.count_most;
        idle = f.idle;
        seven = f.seven;
        run = f.run;
        rest = clear_value r.bytes r.count hb (omega (arith, f.count_most)) p.1;
        size = hl;
        small = hb;
      }
