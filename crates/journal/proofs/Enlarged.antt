-- The laws of an enlarged journal, for any two formats of which the second has room for what the first keeps: it is well formed, it keeps as
-- many, and each of its records is the first's. Assumes nothing.
use Prim.Native.Nat.{ℕ, zero, suc, ◌+◌, ◌*◌, ◌-◌, ◌≤◌, ◌<◌}
use mathlib.Core.Path.{◌≡◌, refl, sym, ap, ◌∙◌}
use mathlib.Core.List.{List}
use mathlib.Core.Bool.{true, false}
use mathlib.Core.Logic.{⊎_elim}
use native.Mathlib.Nat.{eq-or-lt_of_le, mod-eq_of_lt}
use native.Mathlib.Numerals.{add-one}
use native.Mathlib.Omega.{arith}
use lib.Dec.{eqb}
use borrow.Author.Tests.{eqb-true, eq-eqb, ne_eqb}
use lib.ListN.{length, take, drop, length-append, length-take}
use Rattle.bits.proofs.Tests.{and_left, and_right}
use Rattle.parts.specs.Parts.{part, put}
use Rattle.parts.proofs.Laws.{length_put, length_part, part_put_same, part_put_before, part_put_after, put_put}
use Rattle.journal.specs.Layout.{header, headed, format_of, slots_of, wrong_length, first_of, kept_of, well_formed, is_small, place_of, slot_at, past, oldest, enlarged}
use Rattle.journal.proofs.Formats.{its_size, only_lengths, of_small, of_large, same_length}
use Rattle.journal.proofs.Ring.{Well, well_of, of_well, headed_size, headed_slots, headed_well, stands_in}

-- ---- the kept records, one behind the other

module _ (j : List ℕ) (w : Well j) where
  slot_length : (k : ℕ) → length (slot_at j k) ≡ 256
  slot_length k = length_part _ 256 j (stands_in j k (well_of w))

  oldest_length : (k : ℕ) → length (oldest k j) ≡ 256 * k
  unfolding oldest
  oldest_length zero = refl
  oldest_length (suc k) = simp length-append (omega (arith, oldest_length k, slot_length k))

  module _ (second : List ℕ) where
    -- the second buffer with the k oldest in its slots
    abbrev filled : ℕ → List ℕ
    filled k = put 1024 (oldest k j) second

    filled_length : (k : ℕ) → 1024 + 256 * k ≤ length second → length (filled k) ≡ length second
    filled_length k h = length_put 1024 (oldest k j) second (omega (arith, oldest_length k))

    one_more : (k : ℕ) → 1024 + 256 * k ≤ length second → put (1024 + 256 * k) (slot_at j k) (filled k) ≡ filled (suc k)
    unfolding oldest
    one_more k h = let l = oldest_length k in put_put 1024 (oldest k j) (slot_at j k) second (1024 + 256 * k) (omega arith) (omega arith)

    -- each slot has its record
    in_its_slot : (n k : ℕ) → k < n → 1024 + 256 * n ≤ length second → part (1024 + 256 * k) 256 (filled n) ≡ slot_at j k
    in_its_slot zero k l h = elim l [ ]
    in_its_slot (suc n) k l h =
        let room : 1024 + 256 * n ≤ length second = omega arith in
        let q = slot_length n in
        let f = filled_length n room in
        ap (part (1024 + 256 * k) 256) (sym (one_more n room))
        ∙ ⊎_elim
        (λ (e : k ≡ n).
        rw e (ap (λ (m : ℕ). part (1024 + 256 * n) m (put (1024 + 256 * n) (slot_at j n) (filled n))) (sym q)
        ∙ part_put_same (1024 + 256 * n) (slot_at j n) (filled n) (omega arith)))
        (λ (less : k < n).
        part_put_before (1024 + 256 * n) (slot_at j n) (filled n) (1024 + 256 * k) 256 (omega arith) (omega arith)
        ∙ in_its_slot n k less room)
        (eq-or-lt_of_le (omega arith))

-- what the code writes of a record more
module _ (j second : List ℕ) (h : well_formed j ≡ true) (s : wrong_length second ≡ false) (room : kept_of j ≤ slots_of second) where
  w : Well j
  w = of_well j h

  slot_room : (k : ℕ) → k < kept_of j → 1024 + 256 * k + 256 ≤ length second
  slot_room k l = omega (arith, its_size second s)

  pub as_long : (k : ℕ) (after : List ℕ) → k ≤ kept_of j → after ≡ put 1024 (oldest k j) second → length after ≡ length second
  as_long k after l e = ap length e ∙ filled_length j w second k (omega (arith, its_size second s))

  pub store_room : (from k n kept : ℕ) (after : List ℕ) → kept ≡ kept_of j → k < kept → n ≡ k → after ≡ put 1024 (oldest k j) second
      → 1024 + 256 * n + length (take (from + 256 - from) (drop from j)) ≤ length after
  store_room from k n kept after g l i e = let r = slot_room k (omega arith) in let m = as_long k after (omega arith) e in simp length-take (omega arith)

  pub copied_one : (slots first kept from k n : ℕ) (after next : List ℕ) → slots ≡ slots_of j → first ≡ first_of j → kept ≡ kept_of j
      → from ≡ place_of slots first k → k < kept → n ≡ k → after ≡ put 1024 (oldest k j) second → next ≡ put (1024 + 256 * n) (take (from + 256 - from) (drop from j)) after
      → next ≡ put 1024 (oldest (k + 1) j) second
  unfolding part
  copied_one slots first kept from k n after next c d g p l i a o =
      let m : from + 256 - from ≡ 256 = omega arith in
      let q : from ≡ place_of (slots_of j) (first_of j) k = rw (c, d) at p in
      let r = slot_room k (omega arith) in
      o ∙ rw (i, a, m, q, add-one k) (one_more j w second k (omega arith))

module _ (j second after : List ℕ) (e : after ≡ put 1024 (oldest (kept_of j) j) second) where
  pub still_long : well_formed j ≡ true → wrong_length second ≡ false → kept_of j ≤ slots_of second → wrong_length after ≡ false
  still_long h s room = same_length after second (as_long j second h s room (kept_of j) after (omega arith) e) s

  pub headed_then : (last : List ℕ) → last ≡ headed (kept_of j) after → last ≡ enlarged j second
  unfolding enlarged
  headed_then last l = l ∙ ap (headed (kept_of j)) e

-- ---- the enlarged journal

module _ (j second : List ℕ) (w : Well j) (s : wrong_length second ≡ false) (room : kept_of j ≤ slots_of second) where
  its_room : 1024 + 256 * kept_of j ≤ length second
  its_room = omega (arith, its_size second s)

  copied : List ℕ
  copied = filled j w second (kept_of j)

  copied_length : length copied ≡ length second
  unfolding copied
  copied_length = filled_length j w second (kept_of j) its_room

  copied_size : wrong_length copied ≡ false
  copied_size = same_length copied second copied_length s

  copied_slots : slots_of copied ≡ slots_of second
  copied_slots = ap (λ (n : ℕ). (format_of n).slots) copied_length

  pub enlarged_length : length (enlarged j second) ≡ length second
  unfolding enlarged copied
  enlarged_length = headed_size (kept_of j) copied copied_size ∙ copied_length

  pub enlarged_slots : slots_of (enlarged j second) ≡ slots_of second
  unfolding enlarged copied
  enlarged_slots = headed_slots (kept_of j) copied copied_size ∙ copied_slots

  pub enlarged_well : Well (enlarged j second)
  unfolding enlarged copied
  enlarged_well = headed_well (kept_of j) copied copied_size (rw copied_slots room)

  pub enlarged_kept : kept_of (enlarged j second) ≡ kept_of j
  unfolding enlarged put
  enlarged_kept = refl

  enlarged_first : first_of (enlarged j second) ≡ 0
  unfolding enlarged put
  enlarged_first = refl

  -- THE SAME RECORDS, in their order
  pub enlarged_past : (i : ℕ) → i < kept_of j → past (enlarged j second) i ≡ past j i
  unfolding past enlarged copied
  enlarged_past i l =
      let k : ℕ = kept_of j - 1 - i in
      let few : 0 + k < slots_of second = omega arith in
      let z : 0 + k ≡ k = omega arith in
      let at : place_of (slots_of (enlarged j second)) (first_of (enlarged j second)) (kept_of (enlarged j second) - 1 - i) ≡ 1024 + 256 * k =
      rw (enlarged_slots, enlarged_first, enlarged_kept) (ap (λ (n : ℕ). 1024 + 256 * n) (mod-eq_of_lt few ∙ z)) in
      ap (λ (p : ℕ). part p 256 (enlarged j second)) at
      ∙ part_put_after 0 (header (format_of (length copied)) 0 (kept_of j)) copied (1024 + 256 * k) 256
      (omega (arith, copied_length, its_size second s)) (omega arith)
      ∙ in_its_slot j w second (kept_of j) k (omega arith) its_room

-- ---- what the enlarging call is handed

pub small_well : (j : List ℕ) → is_small j ≡ true → well_formed j ≡ true
unfolding is_small
small_well j h = and_right (eqb (length j) 17408) (well_formed j) h

pub small_length : (j : List ℕ) → is_small j ≡ true → length j ≡ 17408
unfolding is_small
small_length j h = eqb-true (length j) 17408 (and_left (eqb (length j) 17408) (well_formed j) h)

pub large_size : (second : List ℕ) → length second ≡ 52224 → wrong_length second ≡ false
unfolding wrong_length
large_size second n = ap (λ (k : ℕ). eqb k 0) (of_large second n)

pub large_room : (j second : List ℕ) → is_small j ≡ true → length second ≡ 52224 → kept_of j ≤ slots_of second
large_room j second h n =
    let few = (of_well j (small_well j h)).few in
    omega (arith, of_small j (small_length j h), of_large second n)

-- of a well-formed journal the slots tell whether it is small
pub small_by_slots : (j : List ℕ) → Well j → is_small j ≡ eqb (slots_of j) 64
unfolding is_small
small_by_slots j w =
    ⊎_elim
    (λ (e : length j ≡ 17408). simp (eq-eqb (length j) 17408 e, well_of w, of_small j e))
    (λ (e : length j ≡ 52224). simp (ne_eqb (length j) 17408 (λ q. omega arith), of_large j e))
    (only_lengths j w.size)
