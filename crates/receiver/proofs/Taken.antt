-- A bit taken into the content: the control's step and the store in the bytes are the machine's step.
use mathlib.Core.Path.{◌≡◌, refl, sym, ap, ◌∙◌}
use mathlib.Core.Logic.{◌⊎◌, ⊎_elim, inl, inr}
use mathlib.Core.List.{List, [], ◌∷◌, ◌++◌}
use mathlib.Core.Bool.{Bool, true, false, cond, ◌&&◌}
use Prim.Native.Nat.{ℕ, zero, suc, ◌+◌, ◌*◌, ◌-◌, ◌/◌, ◌%◌, ◌^◌, ◌≤◌, ◌<◌, min}
use native.Mathlib.Nat.{mul_assoc, mul-suc, mul-one, zero-mul, add-zero, mul-le-mul_right, one-mul, not-suc-le-zero, le_of_suc-le-suc, lt_of_mul-lt-mul_right, pow-suc}
use native.Mathlib.Numerals.{add-one}
use native.Mathlib.Decide.{dec_lt}
use native.Mathlib.Omega.{arith}
use borrow.Author.Tests.{eq-eqb, ne_eqb, lt-ltb, le-ltb, le-leb, lt-leb}
use lib.Dec.{ltb, eqb, lit<}
use lib.Pow.{pow-add, pow_mono}
use lib.ListN.{length, take, get_or, set, length-set, replicate}
use lib.Seq.{set-get_or}
use Rattle.wire.specs.Bits.{low}
use Rattle.receiver.specs.Receiver.{State, next, push, decides}
use Rattle.receiver.specs.Inner.{value, Good, Stepped, state_of, Idle}
use Rattle.receiver.specs.declared.scanning.Control.{Control}
use Rattle.parts.proofs.Laws.{AreBytes}
use Rattle.wire.proofs.Bits.{bit_of, length_low, low_cut}
use Rattle.receiver.proofs.Bits.{low_snoc, take_low, shl_byte}

-- ---- the number that bytes spell, with a bit more

value_set : (l : List ℕ) (i d : ℕ) → i < length l → value (set l i (get_or l i 0 + d)) ≡ value l + d * 2 ^ (8 * i)
unfolding value
value_set [] i d h = absurd (not-suc-le-zero h)
value_set (x ∷ xs) zero d h = omega (arith, mul-one d)
value_set (x ∷ xs) (suc i) d h =
    rw (mul-suc 8 i, pow-add 2 (8 * i) 8, value_set xs i d (le_of_suc-le-suc h))
    (omega (arith, mul_assoc d (2 ^ (8 * i)) 256))

pub value_at : (l : List ℕ) (i : ℕ) → get_or l i 0 * 2 ^ (8 * i) ≤ value l
unfolding value
value_at [] i = omega arith
value_at (x ∷ xs) zero = omega (arith, mul-one x)
value_at (x ∷ xs) (suc i) =
    rw (mul-suc 8 i, pow-add 2 (8 * i) 8)
    (omega (arith, mul_assoc (get_or xs i 0) (2 ^ (8 * i)) 256, value_at xs i))

-- the count's byte holds only bits below the count's place in it
byte_lt : (l : List ℕ) (n : ℕ) → value l < 2 ^ n → get_or l (n / 8) 0 < 2 ^ (n % 8)
byte_lt l n h =
    lt_of_mul-lt-mul_right (2 ^ (8 * (n / 8)))
    (omega (arith, value_at l (n / 8), sym (pow-add 2 (n % 8) (8 * (n / 8))), place, h))
  where
    place : 2 ^ (n % 8 + 8 * (n / 8)) ≡ 2 ^ n
    place = ap (λ (k : ℕ). 2 ^ k) (omega arith)

-- the byte at n / 8 with b at bit n % 8
abbrev pub stored_byte : List ℕ → ℕ → ℕ → ℕ
stored_byte l n b = get_or l (n / 8) 0 + (b * 2 ^ (n % 8)) % 2 ^ 8

abbrev pub stored : List ℕ → ℕ → ℕ → List ℕ
stored l n b = set l (n / 8) (stored_byte l n b)

pub byte_fits : (l : List ℕ) (n b : ℕ) → b < 2 → value l < 2 ^ n → stored_byte l n b < 256
byte_fits l n b hb h =
    let hb' : b ≤ 1 = omega arith in
    rw (shl_byte b (n % 8) hb (omega arith))
    (omega (arith, byte_lt l n h, mul-le-mul_right (2 ^ (n % 8)) hb', one-mul (2 ^ (n % 8)), pow_mono {i = n % 8} {j = 7} (omega arith)))

module _ (l : List ℕ) (n b : ℕ) (hb : b < 2) (hl : length l ≡ 20) (hn : n < 152) (hv : value l < 2 ^ n) where
  value_stored : value (stored l n b) ≡ b * 2 ^ n + value l
  value_stored =
      rw (shl_byte b (n % 8) hb (omega arith), value_set l (n / 8) (b * 2 ^ (n % 8)) (omega arith))
      (omega (arith, mul_assoc b (2 ^ (n % 8)) (2 ^ (8 * (n / 8))), ap (λ (k : ℕ). b * k) (sym (pow-add 2 (n % 8) (8 * (n / 8))) ∙ ap (λ (k : ℕ). 2 ^ k) place)))
    where
      place : n % 8 + 8 * (n / 8) ≡ n
      place = omega arith

  low_stored : low (n + 1) (value (stored l n b)) ≡ low n (value l) ++ (b ∷ [])
  low_stored = rw (value_stored, add-one n) (low_snoc n (value l) b hb hv)

  stored_lt : value (stored l n b) < 2 ^ (n + 1)
  stored_lt =
      let hb' : b ≤ 1 = omega arith in
      rw (value_stored, add-one n) (omega (arith, pow-suc 2 n, mul-le-mul_right (2 ^ n) hb', one-mul (2 ^ n)))

-- ---- orders

pub lt_or : (a b : ℕ) → (a < b) ⊎ (b ≤ a)
lt_or a b = by (dec_lt a b)
  where
    by : Dec (a < b) → (a < b) ⊎ (b ≤ a)
    by (yes h) = inl h
    by (no h) = inr (omega arith)

set_bytes : (l : List ℕ) (i v : ℕ) → v < 256 → AreBytes l → AreBytes (set l i v)
set_bytes [] i v hv h k = h k
set_bytes (x ∷ l) zero v hv h zero = hv
set_bytes (x ∷ l) zero v hv h (suc k) = h (suc k)
set_bytes (x ∷ l) (suc i) v hv h zero = h 0
set_bytes (x ∷ l) (suc i) v hv h (suc k) = set_bytes l i v hv (λ j. h (suc j)) k

-- ---- the store

stored_none : (l : List ℕ) (n : ℕ) → stored l n 0 ≡ l
stored_none l n =
    let e : get_or l (n / 8) 0 + (0 * 2 ^ (n % 8)) % 2 ^ 8 ≡ get_or l (n / 8) 0 = rw (zero-mul (2 ^ (n % 8))) (add-zero (get_or l (n / 8) 0)) in
    rw e (set-get_or l (n / 8) 0)

no_room : (t : Bool) (p l : List ℕ) → cond (t && false) p l ≡ l
no_room true p l = refl
no_room false p l = refl

-- the content after a bit of which up to five in a run are pushed
abbrev taken : Control → List ℕ → ℕ → List ℕ
taken c l b = cond (ltb c.ones 5) (push c.mode (low c.count (value l)) b) (low c.count (value l))

-- what the store leaves, whichever way the control went
pub record Kept (c : Control) (l : List ℕ) (b : ℕ) (d : Control) (m : List ℕ) : Type 0 where
  pub content : low d.count (value m) ≡ taken c l b
  pub rest : value m < 2 ^ d.count
  pub size : length m ≡ 20
  pub small : AreBytes m
  pub most : d.count ≤ 152
  pub grows : c.count ≤ d.count
  pub more : c.mode ≡ 1 → c.ones < 5 → min (c.count + 1) 152 ≤ d.count

-- v is the bit where it was pushed, else 0
module _ (c : Control) (l : List ℕ) (b v : ℕ) (d : Control) (hb : b < 2) (g : Good c l) (s : Stepped c b d)
    (v0 : d.count - c.count ≡ 0 → v ≡ 0) (v1 : 0 < d.count - c.count → v ≡ b) where
  stays : d.count ≡ c.count → taken c l b ≡ low c.count (value l) → (c.mode ≡ 1 → c.ones < 5 → 152 ≤ c.count)
      → Kept c l b d (stored l c.count v)
  stays e f h =
      let z : v ≡ 0 = v0 (omega arith) in
      rw (z, stored_none l c.count)
      record {
        content = rw (e, f) refl;
        rest = rw e g.rest;
        size = g.size;
        small = g.small;
        most = omega (arith, g.count);
        grows = omega arith;
        more = λ p q. omega (arith, h p q);
      }

  pub kept : Kept c l b d (stored l c.count v)
  kept =
      ⊎_elim
      (λ (h : c.ones < 5).
      ⊎_elim
      (λ (r : c.count < 152).
      ⊎_elim
      (λ (m : c.mode < 1). stays (s.idle (omega arith)) (rw (lt-ltb c.ones 5 h, ne_eqb c.mode 1 (λ q. omega arith)) refl) (λ p q. omega arith))
      (λ (m : 1 ≤ c.mode).
      let o : c.mode ≡ 1 = omega (arith, g.mode) in
      let e : d.count ≡ c.count + 1 = s.pushed h o r in
      let z : v ≡ b = v1 (omega arith) in
      rw z
      record {
        content = rw (e, lt-ltb c.ones 5 h, eq-eqb c.mode 1 o, length_low c.count (value l), lt-ltb c.count 152 r) (low_stored l c.count b hb g.size r g.rest);
        rest = rw e (stored_lt l c.count b hb g.size r g.rest);
        size = length-set l _ _ ∙ g.size;
        small = set_bytes l (c.count / 8) _ (byte_fits l c.count b hb g.rest) g.small;
        most = omega arith;
        grows = omega arith;
        more = λ p q. omega arith;
      })
      (lt_or c.mode 1))
      (λ (r : 152 ≤ c.count).
      stays (s.full r) (rw (lt-ltb c.ones 5 h, length_low c.count (value l), le-ltb c.count 152 r) (no_room (eqb c.mode 1) _ _)) (λ p q. r))
      (lt_or c.count 152))
      (λ (h : 5 ≤ c.ones). stays (s.five h) (rw (le-ltb c.ones 5 h) refl) (λ p q. omega arith))
      (lt_or c.ones 5)

-- ---- the step

low_nil : (x : ℕ) → low 0 x ≡ []
unfolding low
low_nil x = refl

state_eq : {m m' o o' l l' : ℕ} {c c' : List ℕ} → m ≡ m' → o ≡ o' → l ≡ l' → c ≡ c'
    → ◌≡◌ {A = State} (record { mode = m; ones = o; lead = l; content = c }) (record { mode = m'; ones = o'; lead = l'; content = c' })
state_eq p q r s = cc

module _ (c : Control) (l : List ℕ) (b : ℕ) (d : Control) (m : List ℕ) (hb : b < 2) (n6 : c.ones ≡ 6 → ⊥)
    (g : Good c l) (s : Stepped c b d) (k : Kept c l b d m) where
  run_one : b ≡ 1 → c.ones < 7 → d.mode ≡ 1 → d.lead + min d.ones 5 ≤ d.count
  run_one z h i =
      let m1 : c.mode ≡ 1 = omega (arith, s.mode) in
      ⊎_elim
      (λ (f : c.ones < 5). omega (arith, s.one z h, s.lead1 z, k.more m1 f, g.run m1, g.lead))
      (λ (f : 5 ≤ c.ones). omega (arith, s.one z h, s.lead1 z, k.grows, g.run m1))
      (lt_or c.ones 5)

  pub good_after : Good d m
  good_after =
      ⊎_elim
      (λ (z : b ≡ 0).
      ⊎_elim
      (λ (h : c.ones < 5).
      record {
        mode = omega (arith, s.mode, g.mode);
        ones = omega (arith, s.zero z);
        lead = omega (arith, s.lead0 z h, g.mode);
        count = k.most;
        idle = λ i. (omega (arith, s.idle (omega (arith, s.mode)), (g.idle (omega (arith, s.mode))).0), omega (arith, s.lead0 z h, s.mode));
        seven = λ i. omega (arith, s.zero z);
        run = λ i. omega (arith, s.zero z, s.lead0 z h, k.more (omega (arith, s.mode)) h, g.mode);
        rest = k.rest;
        size = k.size;
        small = k.small;
      })
      (λ (h : 5 ≤ c.ones).
      record {
        mode = omega (arith, s.mode, g.mode);
        ones = omega (arith, s.zero z);
        lead = omega (arith, s.lead5 z h);
        count = k.most;
        idle = λ i. (omega (arith, s.idle (omega (arith, s.mode)), (g.idle (omega (arith, s.mode))).0), s.lead5 z h);
        seven = λ i. omega (arith, s.zero z);
        run = λ i. omega (arith, s.zero z, s.lead5 z h);
        rest = k.rest;
        size = k.size;
        small = k.small;
      })
      (lt_or c.ones 5))
      (λ (z : b ≡ 1).
      ⊎_elim
      (λ (h : c.ones < 7).
      record {
        mode = omega (arith, s.mode, g.mode);
        ones = omega (arith, s.one z h);
        lead = omega (arith, s.lead1 z, g.lead);
        count = k.most;
        idle = λ i. (omega (arith, s.idle (omega (arith, s.mode)), (g.idle (omega (arith, s.mode))).0), omega (arith, s.lead1 z, (g.idle (omega (arith, s.mode))).1));
        seven = λ i. omega (arith, s.one z h, n6);
        run = λ i. run_one z h i;
        rest = k.rest;
        size = k.size;
        small = k.small;
      })
      (λ (h : 7 ≤ c.ones).
      let e : c.ones ≡ 7 = omega (arith, g.ones) in
      record {
        mode = omega (arith, s.mode, g.mode);
        ones = omega (arith, s.seven z e);
        lead = omega (arith, s.lead1 z, g.lead);
        count = k.most;
        idle = λ i. (omega (arith, s.idle (omega (arith, s.mode)), (g.idle (omega (arith, s.mode))).0), omega (arith, s.lead1 z, (g.idle (omega (arith, s.mode))).1));
        seven = λ i. absurd (omega (arith, g.seven (omega (arith, s.mode, i))));
        run = λ i. absurd (omega (arith, g.seven (omega (arith, s.mode, i))));
        rest = k.rest;
        size = k.size;
        small = k.small;
      })
      (lt_or c.ones 7))
      (bit_of b hb)

  seventh : 6 ≤ c.ones → c.ones ≡ 7
  seventh f = ⊎_elim (λ (h : c.ones < 7). absurd (n6 (omega arith))) (λ (h : 7 ≤ c.ones). omega (arith, g.ones)) (lt_or c.ones 7)

  -- more ones while hunting
  at_seven : b ≡ 1 → c.ones ≡ 7 → state_of d m ≡ next (state_of c l) b
  at_seven z e =
      let nz : b ≡ 0 → ⊥ = λ q. omega arith in
      let h : 5 ≤ c.ones = omega arith in
      let m0 : c.mode ≡ 0 = ⊎_elim (λ (q : c.mode < 1). omega arith) (λ (q : 1 ≤ c.mode). absurd (omega (arith, g.seven (omega (arith, g.mode))))) (lt_or c.mode 1) in
      let n5 : c.ones ≡ 5 → ⊥ = λ q. omega arith in
      rw (ne_eqb b 0 nz, le-ltb c.ones 5 h, ne_eqb c.ones 5 n5)
      (state_eq (s.mode ∙ m0) (s.seven z e) (s.lead1 z ∙ (g.idle m0).1) ((rw (le-ltb c.ones 5 h) at k.content) ∙ ap (λ (x : ℕ). low x (value l)) (g.idle m0).0 ∙ low_nil (value l)))

  pub state_after_lem : state_of d m ≡ next (state_of c l) b
  state_after_lem =
      ⊎_elim
      (λ (z : b ≡ 0).
      ⊎_elim
      (λ (h : c.ones < 5).
      rw (eq-eqb b 0 z, lt-ltb c.ones 5 h) (state_eq s.mode (s.zero z) (s.lead0 z h) ((rw (lt-ltb c.ones 5 h) at k.content) ∙ ap (push c.mode (low c.count (value l))) z)))
      (λ (h : 5 ≤ c.ones).
      rw (eq-eqb b 0 z, le-ltb c.ones 5 h, ne_eqb c.ones 6 n6) (state_eq s.mode (s.zero z) (s.lead5 z h) (rw (le-ltb c.ones 5 h) at k.content)))
      (lt_or c.ones 5))
      (λ (z : b ≡ 1).
      let nz : b ≡ 0 → ⊥ = λ q. omega arith in
      ⊎_elim
      (λ (h : c.ones < 5).
      rw (ne_eqb b 0 nz, lt-ltb c.ones 5 h) (state_eq s.mode (s.one z (omega arith)) (s.lead1 z) ((rw (lt-ltb c.ones 5 h) at k.content) ∙ ap (push c.mode (low c.count (value l))) z)))
      (λ (h : 5 ≤ c.ones).
      ⊎_elim
      (λ (f : c.ones < 6).
      let e : c.ones ≡ 5 = omega arith in
      rw (ne_eqb b 0 nz, le-ltb c.ones 5 h, eq-eqb c.ones 5 e)
      (state_eq s.mode (omega (arith, s.one z (omega arith))) (s.lead1 z) (rw (le-ltb c.ones 5 h) at k.content)))
      (λ (f : 6 ≤ c.ones). at_seven z (seventh f))
      (lt_or c.ones 6))
      (lt_or c.ones 5))
      (bit_of b hb)

-- ---- the end of a flag, and a seventh one

abbrev pub zeros : List ℕ
zeros = replicate 20 0

zeros_bytes : (n : ℕ) → AreBytes (replicate n 0)
zeros_bytes zero i = omega arith
zeros_bytes (suc n) zero = omega arith
zeros_bytes (suc n) (suc i) = zeros_bytes n i

-- after a flag (b is 0) or a seventh one (1)
abbrev pub cleared : ℕ → Control
cleared b = record { mode = 1 - b; ones = 7 * b; lead = 0; count = 0 }

pub good_cleared : (b : ℕ) → b < 2 → Good (cleared b) zeros
unfolding value
good_cleared b hb =
    record {
      mode = omega arith;
      ones = omega arith;
      lead = omega arith;
      count = omega arith;
      idle = λ i. (refl, refl);
      seven = λ i. omega arith;
      run = λ i. omega arith;
      rest = lit< tt;
      size = refl;
      small = zeros_bytes 20;
    }

pub state_cleared : (c : Control) (l : List ℕ) (b : ℕ) → b < 2 → c.ones ≡ 6 → state_of (cleared b) zeros ≡ next (state_of c l) b
unfolding low value
state_cleared c l b hb e = ⊎_elim (λ (z : b ≡ 0). rw (z, e) refl) (λ (z : b ≡ 1). rw (z, e) refl) (bit_of b hb)

module _ (c : Control) (l : List ℕ) (b : ℕ) (hb : b < 2) where
  pub decides_not : (c.ones ≡ 6 → ⊥) → decides (state_of c l) b ≡ false
  decides_not h = rw (ne_eqb c.ones 6 h) refl

  -- r is what the content has to have, the run's five ones and a flag's zero with it
  module _ (e : c.ones ≡ 6) (r : ℕ) (r0 : b ≡ 0 → r ≡ 37 + c.lead) (r1 : 0 < b → r ≡ 37) where
    pub decides_yes : r ≤ c.count → decides (state_of c l) b ≡ true
    decides_yes h =
        ⊎_elim
        (λ (z : b ≡ 0).
        rw (eq-eqb c.ones 6 e, eq-eqb b 0 z, length_low c.count (value l)) (le-leb 32 (c.count - (5 + c.lead)) (omega (arith, r0 z))))
        (λ (z : b ≡ 1).
        rw (eq-eqb c.ones 6 e, ne_eqb b 0 (λ q. omega arith), length_low c.count (value l)) (le-leb 32 (c.count - 5) (omega (arith, r1 (omega arith)))))
        (bit_of b hb)

    pub decides_no : c.count < r → decides (state_of c l) b ≡ false
    decides_no h =
        ⊎_elim
        (λ (z : b ≡ 0).
        rw (eq-eqb c.ones 6 e, eq-eqb b 0 z, length_low c.count (value l)) (lt-leb 32 (c.count - (5 + c.lead)) (omega (arith, r0 z))))
        (λ (z : b ≡ 1).
        rw (eq-eqb c.ones 6 e, ne_eqb b 0 (λ q. omega arith), length_low c.count (value l)) (lt-leb 32 (c.count - 5) (omega (arith, r1 (omega arith)))))
        (bit_of b hb)

pub small : (x b v : ℕ) → b < 2 → (x ≡ 0 → v ≡ 0) → (0 < x → v ≡ b) → v < 2
small zero b v hb h k = omega (arith, h refl)
small (suc x) b v hb h k = omega (arith, k (omega arith))

-- ---- bytes that leave the receiver as it was

-- up to 8 bits of content stand in the first byte
low_first : (l : List ℕ) (n : ℕ) → n ≤ 8 → low n (value l) ≡ low n (get_or l 0 0)
unfolding value
low_first [] n h = refl
low_first (x ∷ l) n h =
    let e : x + 256 * value l ≡ value l * 2 ^ 8 + x = omega arith in
    sym (take_low n 8 (x + 256 * value l) h) ∙ ap (take n) (ap (low 8) e ∙ low_cut 8 (value l) x) ∙ take_low n 8 x h

-- the state is the same again
pub idle_state : {before : Control} {first : ℕ} {after : Control} {held : ℕ} (l m : List ℕ)
    → first ≡ get_or l 0 0 → held ≡ get_or m 0 0 → Idle before first after held → state_of before l ≡ state_of after m
idle_state {before = b} {after = a} l m e f i =
    rw i.control
    (ap (λ (x : List ℕ). record { mode = a.mode; ones = a.ones; lead = a.lead; content = x })
    (low_first l a.count i.short ∙ ap (low a.count) (sym e ∙ i.content ∙ f) ∙ sym (low_first m a.count i.short)))
