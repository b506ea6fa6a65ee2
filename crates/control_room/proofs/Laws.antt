-- The laws of the record: what is read after a store, the walks over all TRNs, what a record is.
use Prim.Native.Nat.{ℕ, zero, suc, ◌+◌, ◌*◌, ◌≤◌, ◌<◌}
use mathlib.Core.Bool.{Bool, true, false, ◌&&◌, true≢false}
use mathlib.Core.List.{List, [], ◌∷◌, ◌++◌, append_assoc}
use mathlib.Core.Logic.{inl, inr}
use mathlib.Core.Path.{◌≡◌, refl, sym, ap, ap₂, subst, ◌∙◌}
use native.Mathlib.Numerals.{add-one}
use native.Mathlib.Omega.{arith}
use borrow.Author.Tests.{eq-eqb, eqb-true, eqb-false, leb-true, le-leb, ltb-true, ltb-false}
use lib.Dec.{eqb, leb, ltb, lit<}
use lib.ListN.{length, take, drop, length-append, length-drop, take-append-drop}
use lib.Seq.{take_at, drop_at, drop-drop, length-take-le}
use Rattle.std.specs.Prelude.{Option, None, Some}
use Rattle.std.specs.Option.{option_map}
use Rattle.std.specs.List.{list_all, find, range_with_len}
use Rattle.bits.proofs.Tests.{and_left, and_right, both, cond_cases}
use Rattle.parts.specs.Parts.{part, put}
use Rattle.parts.specs.Digits.{number, digits}
use Rattle.parts.proofs.Laws.{Apart, length_put, length_part, part_put_apart, part_put_same}
use Rattle.parts.proofs.Digits.{length_digits, number_digits}
use Rattle.control_room.specs.Given.{trn_after}
use Rattle.control_room.specs.Record.{record_size, number_at, with_number, frame_number, is_open, lowest_free, is_sound, are_sound, is_record}

-- ---- a number stored

module _ (r : List ℕ) (k v : ℕ) (n : length r ≡ record_size) (l : k < 255) where
  room : 2 * k + length (digits 2 v) ≤ length r
  room = rw (length_digits 2 v, n) (omega arith)

  pub length_with : length (with_number r k v) ≡ record_size
  unfolding with_number
  length_with = length_put (2 * k) (digits 2 v) r room ∙ n

  pub number_same : v < 256 * 256 → number_at (with_number r k v) k ≡ v
  unfolding number_at with_number
  number_same h =
      let b : 2 * k ≤ length r = rw n (omega arith) in
      ap (λ (m : ℕ). number (part (2 * k) m (put (2 * k) (digits 2 v) r))) (sym (length_digits 2 v))
      ∙ ap number (part_put_same (2 * k) (digits 2 v) r b) ∙ number_digits 2 v h

  pub number_other : (j : ℕ) → (j ≡ k → ⊥) → number_at (with_number r k v) j ≡ number_at r j
  unfolding number_at with_number
  number_other j d =
      ap number
      (part_put_apart (2 * k) (digits 2 v) r (2 * j) 2 room
      (subst (λ (m : ℕ). Apart (2 * j) 2 (2 * k) m) (sym (length_digits 2 v)) (by (ltb j k) refl)))
    where
      by : (t : Bool) → ltb j k ≡ t → Apart (2 * j) 2 (2 * k) 2
      by true e = let h = ltb-true j k e in inl (omega arith)
      by false e = let h = ltb-false j k e in inr (omega arith)

-- ---- a number that was 0, stored and 0 again

put_again : (a : ℕ) (s t d : List ℕ) → length t ≡ length s → a + length s ≤ length d → put a t (put a s d) ≡ put a t d
unfolding put
put_again a s t d e h =
    let x : List ℕ = take a d in
    let rest : List ℕ = drop (a + length s) d in
    let n : length x ≡ a = length-take-le a d (omega arith) in
    let m : length (x ++ s) ≡ a + length t = length-append x s ∙ ap (λ (k : ℕ). k + length s) n ∙ ap (λ (k : ℕ). a + k) (sym e) in
    ap (λ (l : List ℕ). l ++ (t ++ drop (a + length t) (x ++ (s ++ rest)))) (take_at x (s ++ rest) a n)
    ∙ ap (λ (l : List ℕ). x ++ (t ++ l))
    (ap (drop (a + length t)) (sym (append_assoc x s rest)) ∙ drop_at (x ++ s) rest (a + length t) m ∙ ap (λ (k : ℕ). drop (a + k) d) (sym e))

put_own : (a n : ℕ) (d : List ℕ) → a + n ≤ length d → put a (part a n d) d ≡ d
unfolding put part
put_own a n d h =
    let m : length (take n (drop a d)) ≡ n = length-take-le n (drop a d) (simp length-drop (omega arith)) in
    ap (λ (k : ℕ). take a d ++ (take n (drop a d) ++ drop (a + k) d)) m
    ∙ ap (λ (l : List ℕ). take a d ++ l) (ap (λ (l : List ℕ). take n (drop a d) ++ l) (sym (drop-drop n a d)) ∙ take-append-drop n (drop a d))
    ∙ take-append-drop a d

-- two bytes that make 0
both_zero : (s : List ℕ) → length s ≡ 2 → number s ≡ 0 → digits 2 0 ≡ s
unfolding number digits
both_zero [] n z = absurd (omega arith)
both_zero (x ∷ []) n z = absurd (omega arith)
both_zero (x ∷ y ∷ []) n z =
    let e : 0 ≡ x = omega arith in
    let f : 0 ≡ y = omega arith in
    ap (λ (k : ℕ). k ∷ 0 ∷ []) e ∙ ap (λ (k : ℕ). x ∷ k ∷ []) f
both_zero (x ∷ y ∷ w ∷ s) n z = absurd (omega arith)

pub stored_and_back : (r : List ℕ) (k v : ℕ) → length r ≡ record_size → k < 255 → number_at r k ≡ 0 → with_number (with_number r k v) k 0 ≡ r
unfolding with_number number_at
stored_and_back r k v n l z =
    let i : 2 * k + 2 ≤ length r = rw n (omega arith) in
    put_again (2 * k) (digits 2 v) (digits 2 0) r (length_digits 2 0 ∙ sym (length_digits 2 v)) (room r k v n l)
    ∙ ap (λ (s : List ℕ). put (2 * k) s r) (both_zero (part (2 * k) 2 r) (length_part (2 * k) 2 r i) z) ∙ put_own (2 * k) 2 r i

-- ---- the walks: n TRNs from t on, in their order

pub sound_walk : (r : List ℕ) (t n : ℕ) → list_all (λ trn. is_sound (number_at r trn)) (range_with_len t n) ≡ are_sound r t n
unfolding are_sound
sound_walk r t zero = refl
sound_walk r t (suc n) = rw add-one (ap (λ (b : Bool). is_sound (number_at r t) && b) (sound_walk r (suc t) n))

pub free_walk : (r : List ℕ) (t n : ℕ) → trn_after (find (λ trn. eqb (number_at r trn) 0) (range_with_len t n)) ≡ lowest_free r t n
unfolding lowest_free
free_walk r t zero = refl
free_walk r t (suc n) = rw add-one (let h = free_walk r (suc t) n in grind arith)

pub same_trn : (o : Option ℕ) → trn_after o ≡ trn_after (option_map (λ x. x) o)
same_trn None = refl
same_trn (Some trn) = refl

-- ---- what a record is

module _ (r : List ℕ) (h : is_record r ≡ true) where
  first_two : ((eqb (length r) record_size && leb (frame_number r) 7) ≡ true) × (are_sound r 1 254 ≡ true)
  unfolding is_record
  first_two = both (eqb (length r) record_size && leb (frame_number r) 7) (are_sound r 1 254) h

  pub its_length : length r ≡ record_size
  its_length = eqb-true (length r) record_size (and_left (eqb (length r) record_size) (leb (frame_number r) 7) first_two.0)

  pub its_frame : frame_number r ≤ 7
  its_frame = leb-true (frame_number r) 7 (and_right (eqb (length r) record_size) (leb (frame_number r) 7) first_two.0)

  pub its_entries : are_sound r 1 254 ≡ true
  its_entries = first_two.1

pub a_record : (r : List ℕ) → length r ≡ record_size → leb (frame_number r) 7 ≡ true → are_sound r 1 254 ≡ true → is_record r ≡ true
unfolding is_record
a_record r n f s = simp (eq-eqb (length r) record_size n, f, s)

-- ---- each entry, and the lowest free one

-- n TRNs from t on
abbrev pub Among : ℕ → ℕ → ℕ → Type 0
Among t n k = (t ≤ k) × (k < t + n)

whether : {A : Type 0} (t : Bool) → (t ≡ true → A) → (t ≡ false → A) → A
whether true f g = f refl
whether false f g = g refl

same_or_not : {A : Type 0} (k j : ℕ) → (k ≡ j → A) → ((k ≡ j → ⊥) → A) → A
same_or_not k j f g = whether (eqb k j) (λ e. f (eqb-true k j e)) (λ e. g (eqb-false k j e))

pub sound_at : (r : List ℕ) (t n : ℕ) → are_sound r t n ≡ true → (k : ℕ) → Among t n k → is_sound (number_at r k) ≡ true
unfolding are_sound
sound_at r t zero h k l = absurd (omega arith)
sound_at r t (suc n) h k l =
    let e = both (is_sound (number_at r t)) (are_sound r (suc t) n) h in
    same_or_not t k (λ f. subst (λ (j : ℕ). is_sound (number_at r j) ≡ true) f e.0) (λ f. sound_at r (suc t) n e.1 k (omega arith, omega arith))

pub sound_all : (r : List ℕ) (t n : ℕ) → ((k : ℕ) → Among t n k → is_sound (number_at r k) ≡ true) → are_sound r t n ≡ true
unfolding are_sound
sound_all r t zero h = refl
sound_all r t (suc n) h = ap₂ ◌&&◌ (h t (omega arith, omega arith)) (sound_all r (suc t) n (λ k l. h k (omega arith, omega arith)))

-- what the walk for a free TRN gives
pub data Lowest (r : List ℕ) (t n : ℕ) : ℕ → Type 0 where
  none : ((k : ℕ) → Among t n k → is_open r k ≡ true) → Lowest r t n 0xFF
  one : (x : ℕ) → Among t n x → is_open r x ≡ false → ((k : ℕ) → t ≤ k → k < x → is_open r k ≡ true) → Lowest r t n x

pub lowest : (r : List ℕ) (t n : ℕ) → Lowest r t n (lowest_free r t n)
unfolding lowest_free
lowest r t zero = none (λ k l. absurd (omega arith))
lowest r t (suc n) = cond_cases (Lowest r t (suc n)) (is_open r t) (λ h. on h (lowest r (suc t) n)) (λ h. one t (omega arith, omega arith) h (λ k l u. absurd (omega arith)))
  where
    first : is_open r t ≡ true → (k : ℕ) → t ≤ k → ((t ≡ k → ⊥) → is_open r k ≡ true) → is_open r k ≡ true
    first h k l f = same_or_not t k (λ e. subst (λ (j : ℕ). is_open r j ≡ true) e h) f

    on : is_open r t ≡ true → {x : ℕ} → Lowest r (suc t) n x → Lowest r t (suc n) x
    on h (none f) = none (λ k l. first h k l.0 (λ d. f k (omega arith, omega arith)))
    on h (one x a c f) = one x (omega arith, omega arith) c (λ k l u. first h k l (λ d. f k (omega arith) u))

-- a free TRN below which all are open is the lowest
pub lowest_is : (r : List ℕ) (t n x : ℕ) → Among t n x → is_open r x ≡ false → ((k : ℕ) → t ≤ k → k < x → is_open r k ≡ true) → lowest_free r t n ≡ x
lowest_is r t n x a c f = by (lowest r t n)
  where
    by : {y : ℕ} → Lowest r t n y → y ≡ x
    by (none g) = absurd (true≢false (sym (g x a) ∙ c))
    by (one y b d g) =
        whether (ltb y x) (λ e. absurd (true≢false (sym (f y b.0 (ltb-true y x e)) ∙ d)))
        (λ e. whether (ltb x y) (λ h. absurd (true≢false (sym (g x a.0 (ltb-true x y h)) ∙ c)))
        (λ h. let l = ltb-false y x e in let m = ltb-false x y h in omega arith))

-- ---- a record with a number stored is one

module _ (r : List ℕ) (h : is_record r ≡ true) (k v : ℕ) (l : k < 255) (u : v < 256 * 256) where
  entry_stored : is_sound v ≡ true → leb (frame_number (with_number r k v)) 7 ≡ true → is_record (with_number r k v) ≡ true
  entry_stored s f =
      a_record (with_number r k v) (length_with r k v (its_length r h) l) f
      (sound_all (with_number r k v) 1 254
      (λ j a. same_or_not j k
      (λ e. subst (λ (i : ℕ). is_sound (number_at (with_number r k v) i) ≡ true) (sym e)
      (subst (λ (x : ℕ). is_sound x ≡ true) (sym (number_same r k v (its_length r h) l u)) s))
      (λ d. subst (λ (x : ℕ). is_sound x ≡ true) (sym (number_other r k v (its_length r h) l j d)) (sound_at r 1 254 (its_entries r h) j a))))

  -- an entry that is sound
  pub stored_entry : 0 < k → is_sound v ≡ true → is_record (with_number r k v) ≡ true
  stored_entry p s =
      entry_stored s
      (subst (λ (x : ℕ). leb x 7 ≡ true) (sym (number_other r k v (its_length r h) l 0 (λ e. omega arith))) (le-leb (frame_number r) 7 (its_frame r h)))

-- a frame number
pub stored_frame : (r : List ℕ) → is_record r ≡ true → (v : ℕ) → v ≤ 7 → is_record (with_number r 0 v) ≡ true
stored_frame r h v m =
    let n = its_length r h in
    let l : 0 < 255 = lit< tt in
    a_record (with_number r 0 v) (length_with r 0 v n l)
    (subst (λ (x : ℕ). leb x 7 ≡ true) (sym (number_same r 0 v n l (omega arith))) (le-leb v 7 m))
    (sound_all (with_number r 0 v) 1 254
    (λ j a. subst (λ (x : ℕ). is_sound x ≡ true) (sym (number_other r 0 v n l j (λ e. omega arith))) (sound_at r 1 254 (its_entries r h) j a)))
