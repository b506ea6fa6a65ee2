-- The laws of the ring, for every format of the table: a record pushed is the newest, the others are each one older; one given up, each is one newer.
-- Assumes nothing.
use Prim.Native.Nat.{ℕ, suc, ◌+◌, ◌*◌, ◌-◌, ◌/◌, ◌%◌, min, ◌≤◌, ◌<◌}
use mathlib.Core.Path.{◌≡◌, refl, sym, ap, ◌∙◌}
use mathlib.Core.List.{List, ◌++◌}
use mathlib.Core.Bool.{true, false, cond}
use mathlib.Core.Logic.{◌⊎◌, inl, inr, ⊎_elim}
use native.Mathlib.Decide.{dec_lt}
use native.Mathlib.Nat.{eq-or-lt_of_le, mod-lt, mod-eq_of_lt, mod-eq-sub-mod, mod-add-mod}
use native.Mathlib.Omega.{arith}
use lib.ListN.{length, take, drop, get_or, set, length-set}
use lib.Seq.{get_or-set_same, get_or-set_other}
use lib.Dec.{eqb}
use borrow.Author.Tests.{eq-eqb, ne_eqb, eqb-true, le-leb, leb-true, lt-ltb, ltb-true, not-true}
use Rattle.bits.proofs.Tests.{both, cond_cases}
use Rattle.parts.specs.Parts.{part, put}
use Rattle.parts.proofs.Laws.{length_put, length_part, part_put_front, part_put_before, part_put_after, get_d_put_before, part_set}
use Rattle.journal.specs.Layout.{header, headed, format_of, slots_of, wrong_length, first_of, kept_of, well_formed, place_of, past, emptied, first_after, kept_up, pushed, lowered}
use Rattle.journal.proofs.Formats.{its_size, some_slots, slots_small, same_length}

-- ---- a well-formed journal, as facts

pub record Well (j : List ℕ) : Type 0 where
  pub size : wrong_length j ≡ false
  pub m0 : get_or j 0 0 ≡ 0x53
  pub m1 : get_or j 1 0 ≡ 0x43
  pub m2 : get_or j 2 0 ≡ 0x4A
  pub v0 : get_or j 3 0 ≡ (format_of (length j)).version % 256
  pub v1 : get_or j 4 0 ≡ (format_of (length j)).version / 256
  pub first : first_of j < slots_of j
  pub few : kept_of j ≤ slots_of j

pub well_of : {j : List ℕ} → Well j → well_formed j ≡ true
unfolding well_formed
well_of w =
    simp (
      w.size,
      eq-eqb _ _ w.m0,
      eq-eqb _ _ w.m1,
      eq-eqb _ _ w.m2,
      eq-eqb _ _ w.v0,
      eq-eqb _ _ w.v1,
      lt-ltb _ _ w.first,
      le-leb _ _ w.few,
    )

pub of_well : (j : List ℕ) → well_formed j ≡ true → Well j
unfolding well_formed
of_well j h =
    let p = both _ _ h in
    let q6 = both _ _ p.1 in
    let q5 = both _ _ q6.0 in
    let q4 = both _ _ q5.0 in
    let q3 = both _ _ q4.0 in
    let q2 = both _ _ q3.0 in
    let q1 = both _ _ q2.0 in
    record {
      size = not-true _ p.0;
      m0 = eqb-true _ _ q1.0;
      m1 = eqb-true _ _ q1.1;
      m2 = eqb-true _ _ q2.1;
      v0 = eqb-true _ _ q3.1;
      v1 = eqb-true _ _ q4.1;
      first = ltb-true _ _ q5.1;
      few = leb-true _ _ q6.1;
    }

-- ---- a header of its own format

module _ (kept : ℕ) (j : List ℕ) (s : wrong_length j ≡ false) where
  pub headed_size : length (headed kept j) ≡ length j
  headed_size = length_put 0 (header (format_of (length j)) 0 kept) j (omega (arith, its_size j s))

  pub headed_slots : slots_of (headed kept j) ≡ slots_of j
  headed_slots = ap (λ (n : ℕ). (format_of n).slots) headed_size

  pub headed_well : kept ≤ slots_of j → Well (headed kept j)
  unfolding put
  headed_well few =
      let l = headed_size in
      record {
        size = same_length (headed kept j) j l s;
        m0 = refl;
        m1 = refl;
        m2 = refl;
        v0 = ap (λ (n : ℕ). (format_of n).version % 256) (sym l);
        v1 = ap (λ (n : ℕ). (format_of n).version / 256) (sym l);
        first = rw headed_slots (some_slots j s);
        few = rw headed_slots few;
      }

-- an emptied journal
pub emptied_slots : (j : List ℕ) → wrong_length j ≡ false → slots_of (emptied j) ≡ slots_of j
unfolding emptied
emptied_slots j s = headed_slots 0 j s

pub emptied_well : (j : List ℕ) → wrong_length j ≡ false → Well (emptied j)
unfolding emptied
emptied_well j s = headed_well 0 j s (omega arith)

pub emptied_kept : (j : List ℕ) → kept_of (emptied j) ≡ 0
unfolding emptied put
emptied_kept j = refl

-- ---- the ring's arithmetic

-- a slot's number: the sum, or what it is over the number of slots
wraps : (n x : ℕ) → x < n + n → ((x < n) × (x % n ≡ x)) ⊎ ((n ≤ x) × (x % n ≡ x - n))
wraps n x h = go (dec_lt x n)
  where
    go : Dec (x < n) → ((x < n) × (x % n ≡ x)) ⊎ ((n ≤ x) × (x % n ≡ x - n))
    go (yes l) = inl (l, mod-eq_of_lt l)
    go (no g) =
        let l : n ≤ x = omega arith in
        let m : x - n < n = omega arith in
        inr (l, mod-eq-sub-mod l ∙ mod-eq_of_lt m)

-- so the code goes round it
pub not_round : (n first k : ℕ) → k < n - first → first + k ≡ (first + k) % n
not_round n first k h = sym (mod-eq_of_lt (omega arith))

pub once_round : (n first k : ℕ) → first < n → k ≤ n → n - first ≤ k → k - (n - first) ≡ (first + k) % n
once_round n first k l m h =
    let over : n ≤ first + k = omega arith in
    let rest : first + k - n < n = omega arith in
    let same : k - (n - first) ≡ first + k - n = omega arith in
    same ∙ sym (mod-eq-sub-mod over ∙ mod-eq_of_lt rest)

-- two slots less than the whole ring apart are not one
ring_apart : (n first k m : ℕ) → first < n → k < m → m ≤ n → m < k + n → (first + k) % n ≡ (first + m) % n → ⊥
ring_apart n first k m lf lk lm d e = ⊎_elim below above (wraps n (first + m) (omega arith))
  where
    below : (first + m < n) × ((first + m) % n ≡ first + m) → ⊥
    below b = ⊎_elim (λ c. omega arith) (λ c. omega arith) (wraps n (first + k) (omega arith))

    above : (n ≤ first + m) × ((first + m) % n ≡ first + m - n) → ⊥
    above b = ⊎_elim (λ c. omega arith) (λ c. omega arith) (wraps n (first + k) (omega arith))

apart : (x y : ℕ) → (x ≡ y → ⊥) → (1024 + 256 * x + 256 ≤ 1024 + 256 * y) ⊎ (1024 + 256 * y + 256 ≤ 1024 + 256 * x)
apart x y h = go (dec_lt x y)
  where
    go : Dec (x < y) → (1024 + 256 * x + 256 ≤ 1024 + 256 * y) ⊎ (1024 + 256 * y + 256 ≤ 1024 + 256 * x)
    go (yes l) = inl (omega arith)
    go (no g) = inr (omega arith)

slot_small : (n x : ℕ) → 0 < n → 1024 + 256 * (x % n) + 256 ≤ 1024 + 256 * n
slot_small n x h = let l = mod-lt x h in omega arith

-- the slot of the i-th newest of a ring that has one record more, counted from the ring's start before
counted : (n first k i : ℕ) → k ≤ n → i < min n (k + 1) → (cond (eqb k n) ((first + 1) % n) first + (min n (k + 1) - 1 - i)) % n ≡ (first + (k - i)) % n
counted n first k i h l = ⊎_elim full more (eq-or-lt_of_le h)
  where
    full : k ≡ n → (cond (eqb k n) ((first + 1) % n) first + (min n (k + 1) - 1 - i)) % n ≡ (first + (k - i)) % n
    full e =
        let q : first + 1 + (min n (k + 1) - 1 - i) ≡ first + (k - i) = omega arith in
        simp (eq-eqb k n e) (mod-add-mod (first + 1) n (min n (k + 1) - 1 - i) ∙ ap (λ (x : ℕ). x % n) q)

    more : k < n → (cond (eqb k n) ((first + 1) % n) first + (min n (k + 1) - 1 - i)) % n ≡ (first + (k - i)) % n
    more m =
        let q : first + (min n (k + 1) - 1 - i) ≡ first + (k - i) = omega arith in
        simp (ne_eqb k n (λ e. omega arith)) (ap (λ (x : ℕ). x % n) q)

-- ---- a record more

module _ (r j : List ℕ) (w : Well j) (small : length r ≤ 256) where
  place : ℕ
  place = place_of (slots_of j) (first_of j) (kept_of j)

  some : 0 < slots_of j
  some = some_slots j w.size

  room : place + 256 ≤ length j
  unfolding place
  room = rw (its_size j w.size) (slot_small (slots_of j) (first_of j + kept_of j) some)

  first : ℕ
  first = first_after (slots_of j) (first_of j) (kept_of j)

  kept : ℕ
  kept = kept_up (slots_of j) (kept_of j)

  -- the journal with the record written, its header not yet
  held : List ℕ
  held = put place r j

  held_size : length held ≡ length j
  unfolding held
  held_size = let h = room in length_put place r j (omega arith)

  pushed_size : length (pushed r j) ≡ length j
  unfolding pushed held place
  pushed_size = simp length-set held_size

  -- so the format stays
  pub pushed_slots : slots_of (pushed r j) ≡ slots_of j
  pushed_slots = ap (λ (n : ℕ). (format_of n).slots) pushed_size

  pushed_byte : (i : ℕ) → i < 5 → get_or (pushed r j) i 0 ≡ get_or j i 0
  unfolding pushed held place first kept
  pushed_byte i h =
      get_or-set_other (set held 5 first) 6 i kept 0 (λ e. omega arith)
      ∙ get_or-set_other held 5 i first 0 (λ e. omega arith)
      ∙ (let q = room in get_d_put_before place r j i (omega arith) (omega arith))

  pub pushed_first : first_of (pushed r j) ≡ first_after (slots_of j) (first_of j) (kept_of j)
  unfolding pushed held place first kept
  pushed_first =
      get_or-set_other (set held 5 first) 6 5 kept 0 (λ e. omega arith)
      ∙ get_or-set_same held 5 first 0 (let h = room in let l = held_size in omega arith)

  pub pushed_kept : kept_of (pushed r j) ≡ min (slots_of j) (kept_of j + 1)
  unfolding pushed held place first kept
  pushed_kept = get_or-set_same (set held 5 first) 6 kept 0 (rw length-set (let h = room in let l = held_size in omega arith))

  first_small : first_after (slots_of j) (first_of j) (kept_of j) < slots_of j
  first_small = cond_cases (λ (x : ℕ). x < slots_of j) (eqb (kept_of j) (slots_of j)) (λ _. mod-lt (first_of j + 1) some) (λ _. w.first)

  pub pushed_well : Well (pushed r j)
  pushed_well =
      record {
        size = same_length (pushed r j) j pushed_size w.size;
        m0 = pushed_byte 0 (omega arith) ∙ w.m0;
        m1 = pushed_byte 1 (omega arith) ∙ w.m1;
        m2 = pushed_byte 2 (omega arith) ∙ w.m2;
        v0 = pushed_byte 3 (omega arith) ∙ rw pushed_size w.v0;
        v1 = pushed_byte 4 (omega arith) ∙ rw pushed_size w.v1;
        first = rw (pushed_first, pushed_slots) first_small;
        few = rw (pushed_kept, pushed_slots) (omega arith);
      }

  -- what stands in the slots
  pushed_part : (at n : ℕ) → 1024 ≤ at → part at n (pushed r j) ≡ part at n held
  unfolding pushed held place first kept
  pushed_part at n h = part_set (set held 5 first) 6 kept at n (omega arith) ∙ part_set held 5 first at n (omega arith)

  -- the bytes of the record's slot behind the record
  abbrev pub behind : List ℕ
  behind = part (place_of (slots_of j) (first_of j) (kept_of j) + length r) (256 - length r) j

  -- the slot of the i-th newest after the push
  slot_after : (i : ℕ) → i < min (slots_of j) (kept_of j + 1)
      → place_of (slots_of (pushed r j)) (first_of (pushed r j)) (kept_of (pushed r j) - 1 - i) ≡ place_of (slots_of j) (first_of j) (kept_of j - i)
  slot_after i h =
      rw (pushed_first, pushed_kept, pushed_slots)
      (ap (λ (x : ℕ). 1024 + 256 * x) (counted (slots_of j) (first_of j) (kept_of j) i w.few h))

  pub pushed_newest : past (pushed r j) 0 ≡ r ++ behind
  unfolding past held place
  pushed_newest =
      let k : kept_of j - 0 ≡ kept_of j = omega arith in
      ap (λ (p : ℕ). part p 256 (pushed r j)) (slot_after 0 (let s = some in omega arith) ∙ ap (place_of (slots_of j) (first_of j)) k)
      ∙ pushed_part place 256 (omega arith)
      ∙ part_put_front place r j 256 (let q = room in omega arith) small

  pub pushed_older : (i : ℕ) → suc i < min (slots_of j) (kept_of j + 1) → past (pushed r j) (suc i) ≡ past j i
  unfolding past held place
  pushed_older i h =
      let k : kept_of j - suc i ≡ kept_of j - 1 - i = omega arith in
      let d : (first_of j + (kept_of j - 1 - i)) % slots_of j ≡ (first_of j + kept_of j) % slots_of j → ⊥ =
      λ e. ring_apart (slots_of j) (first_of j) (kept_of j - 1 - i) (kept_of j) w.first (omega arith) w.few (omega (arith, w.few)) e in
      let old : ℕ = place_of (slots_of j) (first_of j) (kept_of j - 1 - i) in
      ap (λ (p : ℕ). part p 256 (pushed r j)) (slot_after (suc i) h ∙ ap (place_of (slots_of j) (first_of j)) k)
      ∙ pushed_part old 256 (omega arith)
      ∙ ⊎_elim
      (λ (l : old + 256 ≤ place). let q = room in part_put_before place r j old 256 (omega arith) l)
      (λ (l : place + 256 ≤ old). let q = room in part_put_after place r j old 256 (omega arith) (omega arith))
      (apart _ _ d)

-- ---- the newest record given up

module _ (j : List ℕ) (w : Well j) where
  lowered_byte : (i : ℕ) → (i ≡ 6 → ⊥) → get_or (lowered j) i 0 ≡ get_or j i 0
  unfolding lowered
  lowered_byte i h = get_or-set_other j 6 i (kept_of j - 1) 0 h

  lowered_size : length (lowered j) ≡ length j
  unfolding lowered
  lowered_size = length-set j 6 (kept_of j - 1)

  -- the format stays
  pub lowered_slots : slots_of (lowered j) ≡ slots_of j
  lowered_slots = ap (λ (n : ℕ). (format_of n).slots) lowered_size

  pub lowered_kept : kept_of (lowered j) ≡ kept_of j - 1
  unfolding lowered
  lowered_kept = get_or-set_same j 6 (kept_of j - 1) 0 (omega (arith, its_size j w.size))

  pub lowered_well : Well (lowered j)
  lowered_well =
      record {
        size = same_length (lowered j) j lowered_size w.size;
        m0 = lowered_byte 0 (λ e. omega arith) ∙ w.m0;
        m1 = lowered_byte 1 (λ e. omega arith) ∙ w.m1;
        m2 = lowered_byte 2 (λ e. omega arith) ∙ w.m2;
        v0 = lowered_byte 3 (λ e. omega arith) ∙ rw lowered_size w.v0;
        v1 = lowered_byte 4 (λ e. omega arith) ∙ rw lowered_size w.v1;
        first = rw (lowered_byte 5 (λ e. omega arith), lowered_slots) w.first;
        few = rw (lowered_kept, lowered_slots) (let h = w.few in omega arith);
      }

  pub lowered_past : (i : ℕ) → past (lowered j) i ≡ past j (suc i)
  unfolding past lowered
  lowered_past i =
      let k : kept_of j - 1 - 1 - i ≡ kept_of j - 1 - suc i = omega arith in
      part_set j 6 (kept_of j - 1) (place_of (slots_of (lowered j)) (first_of (lowered j)) (kept_of (lowered j) - 1 - i)) 256 (omega arith)
      ∙ ap (λ (p : ℕ). part p 256 j) (rw (lowered_byte 5 (λ e. omega arith), lowered_kept, lowered_slots) (ap (place_of (slots_of j) (first_of j)) k))

-- ---- what a well-formed journal is to the code

pub size_in : (j : List ℕ) → well_formed j ≡ true → wrong_length j ≡ false
size_in j h = (of_well j h).size

in_header : (j : List ℕ) (i : ℕ) → wrong_length j ≡ false → i < 1024 → i < length j
in_header j i h l = omega (arith, its_size j h)

pub in_journal : (j : List ℕ) (i : ℕ) → well_formed j ≡ true → i < 1024 → i < length j
in_journal j i h l = in_header j i (size_in j h) l

-- the header is there, and says slots of the ring
pub long_enough : (j : List ℕ) → wrong_length j ≡ false → 1024 ≤ length j
long_enough j h = omega (arith, its_size j h)

pub header_long : (j : List ℕ) → well_formed j ≡ true → 1024 ≤ length j
header_long j h = long_enough j (size_in j h)

pub starts_in : (j : List ℕ) → well_formed j ≡ true → first_of j < slots_of j
starts_in j h = (of_well j h).first

pub keeps_few : (j : List ℕ) → well_formed j ≡ true → kept_of j ≤ slots_of j
keeps_few j h = (of_well j h).few

pub stands_in : (j : List ℕ) (k : ℕ) → well_formed j ≡ true → place_of (slots_of j) (first_of j) k + 256 ≤ length j
stands_in j k h =
    let l = slot_small (slots_of j) (first_of j + k) (some_slots j (size_in j h)) in
    omega (arith, its_size j (size_in j h))

pub ruleset formed = (size_in, header_long, starts_in, keeps_few, stands_in, slots_small)

-- where the newest stands
module _ (j : List ℕ) (at : ℕ) (h : well_formed j ≡ true) (e : at ≡ place_of (slots_of j) (first_of j) (kept_of j - 1)) where
  pub newest_slot : take (at + 256 - at) (drop at j) ≡ past j 0
  unfolding past part
  newest_slot =
      let k : kept_of j - 1 - 0 ≡ kept_of j - 1 = omega arith in
      let m : at + 256 - at ≡ 256 = omega arith in
      rw (m, k, ← e) refl

-- the newest slot has all its bytes
pub length_past : (j : List ℕ) → well_formed j ≡ true → length (past j 0) ≡ 256
unfolding past
length_past j h = length_part _ 256 j (stands_in j (kept_of j - 1 - 0) h)
