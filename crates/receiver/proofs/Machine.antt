-- Laws of the receiver's machine: a bit that goes on, a bit that decides, and the bits at an end.
use mathlib.Core.Path.{◌≡◌, refl, sym, ap, ap₂, ◌∙◌}
use mathlib.Core.Bool.{true, false}
use mathlib.Core.List.{List, [], ◌∷◌, ◌++◌}
use Prim.Native.Nat.{ℕ, ◌+◌, ◌-◌, ◌/◌, ◌%◌, ◌^◌, ◌≤◌, ◌<◌}
use native.Mathlib.Nat.{div-one}
use native.Mathlib.Omega.{arith}
use lib.ListN.{length, drop, get_or}
use lib.Pow.{shr-shr}
use Rattle.wire.specs.Bits.{low, wire}
use Rattle.receiver.specs.Receiver.{State, decides, next, runs}
use Rattle.wire.proofs.Bits.{wire_cons}
use Rattle.receiver.proofs.Bits.{low_pos, wire_at}

pub runs_go : (s : State) (n b : ℕ) (bs : List ℕ) → decides s b ≡ false → runs s n (b ∷ bs) ≡ runs (next s b) (n + 1) bs
unfolding runs
runs_go s n b bs h = rw h refl

pub runs_stop : (s : State) (n b : ℕ) (bs : List ℕ) → decides s b ≡ true
    → runs s n (b ∷ bs) ≡ record { state = s; used = n + 1; hit = b + 1 }
unfolding runs
runs_stop s n b bs h = rw h refl

pub runs_end : (s : State) (n : ℕ) → runs s n [] ≡ record { state = s; used = n; hit = 0 }
unfolding runs
runs_end s n = refl

-- the bits of a byte from a place on
low_from : (x place : ℕ) → place < 8 → low (8 - place) (x / 2 ^ place) ≡ x / 2 ^ place % 2 ∷ low (8 - (place + 1)) (x / 2 ^ (place + 1))
low_from x place h =
    let e : 8 - place - 1 ≡ 8 - (place + 1) = omega arith in
    low_pos (8 - place) (x / 2 ^ place) (omega arith) ∙ ap₂ (λ (n y : ℕ). x / 2 ^ place % 2 ∷ low n y) e (shr-shr x place 1)

-- of a byte x the bits from skip to place are taken: q₀ has become q
pub record Onward (q₀ : State) (x skip place : ℕ) (q : State) : Type 0 where
  pub same : (n : ℕ) (r : List ℕ) → runs q₀ n (low (8 - skip) (x / 2 ^ skip) ++ r) ≡ runs q (n + (place - skip)) (low (8 - place) (x / 2 ^ place) ++ r)

module _ {q₀ q : State} {x skip place : ℕ} (h : skip ≤ place) (k : place < 8) (o : Onward q₀ x skip place q) where
  pub onward_more : {q' : State} → decides q (x / 2 ^ place % 2) ≡ false → q' ≡ next q (x / 2 ^ place % 2) → Onward q₀ x skip (place + 1) q'
  onward_more d e =
      record {
        same =
            λ n r.
            let m : n + (place - skip) + 1 ≡ n + (place + 1 - skip) = omega arith in
            o.same n r
            ∙ ap (λ (l : List ℕ). runs q (n + (place - skip)) (l ++ r)) (low_from x place k)
            ∙ runs_go q (n + (place - skip)) (x / 2 ^ place % 2) (low (8 - (place + 1)) (x / 2 ^ (place + 1)) ++ r) d
            ∙ ap₂ (λ (p : State) (i : ℕ). runs p i (low (8 - (place + 1)) (x / 2 ^ (place + 1)) ++ r)) (sym e) m;
      }

  -- or the bit decides
  pub onward_stop : (n : ℕ) (r : List ℕ) → decides q (x / 2 ^ place % 2) ≡ true
      → runs q₀ n (low (8 - skip) (x / 2 ^ skip) ++ r) ≡ record { state = q; used = n + (place - skip) + 1; hit = x / 2 ^ place % 2 + 1 }
  onward_stop n r d =
      o.same n r
      ∙ ap (λ (l : List ℕ). runs q (n + (place - skip)) (l ++ r)) (low_from x place k)
      ∙ runs_stop q (n + (place - skip)) (x / 2 ^ place % 2) (low (8 - (place + 1)) (x / 2 ^ (place + 1)) ++ r) d

-- the whole rest of the byte
pub onward_all : {q₀ q : State} {x skip : ℕ} → Onward q₀ x skip 8 q → (n : ℕ) (r : List ℕ) → runs q₀ n (low (8 - skip) (x / 2 ^ skip) ++ r) ≡ runs q (n + (8 - skip)) r
unfolding low
onward_all o n r = o.same n r

-- a byte that leaves a state as it was does so as often as it comes
pub record Passes (q : State) (x : ℕ) : Type 0 where
  pub same : (n : ℕ) (r : List ℕ) → runs q n (low 8 x ++ r) ≡ runs q (n + 8) r

pub passes_again : {q₀ q : State} {x skip : ℕ} → Onward q₀ x skip 8 q → skip ≡ 0 → q₀ ≡ q → Passes q x
passes_again {q₀} {q} {x} {skip} o z e =
    record {
      same =
          λ n r.
          ap₂ (λ (p : State) (y : ℕ). runs p n (low 8 y ++ r)) (sym e) (sym (div-one x))
          ∙ (rw z at (onward_all o n r));
    }

-- the bits of a slice's bytes from a bit of byte i on: i's own, and the rest
module _ (s : List ℕ) (i : ℕ) (h : i < length s) where
  pub byte_taken : {q₀ q : State} (skip : ℕ) → skip < 8 → Onward q₀ (get_or s i 0) skip 8 q
      → (n : ℕ) → runs q₀ n (drop skip (wire (drop i s))) ≡ runs q (n + (8 - skip)) (wire (drop (i + 1) s))
  byte_taken skip k o n = rw (wire_at s i skip h k) (onward_all o n (wire (drop (i + 1) s)))

  pub byte_passed : {q : State} → Passes q (get_or s i 0) → (n : ℕ) → runs q n (wire (drop i s)) ≡ runs q (n + 8) (wire (drop (i + 1) s))
  byte_passed p n = rw (wire_cons s i h) (p.same n (wire (drop (i + 1) s)))
