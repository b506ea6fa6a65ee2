-- The receiver's machine over many bits: cut in two, shifted, through a frame, and where a reading ends.
use mathlib.Core.Path.{◌≡◌, refl, sym, ap, ◌∙◌}
use mathlib.Core.Bool.{Bool, true, false, not, cond}
use mathlib.Core.Logic.{⊎_elim, inl, inr}
use mathlib.Core.List.{List, [], ◌∷◌, ◌++◌, append_assoc, append-nil, foldl}
use Prim.Native.Nat.{ℕ, zero, suc, ◌+◌, ◌-◌, ◌/◌, ◌%◌, ◌≤◌, ◌<◌, min}
use native.Mathlib.Nat.{add_assoc, add-zero, suc-add, eq-or-lt_of_le}
use native.Mathlib.Omega.{arith}
use borrow.Author.Tests.{ne_eqb, eqb-true, lt-ltb, le-ltb, le-leb, lt-leb, ltb-true, ltb-false}
use Rattle.bits.proofs.Tests.{cond_cases}
use lib.Dec.{eqb, ltb, lit<, lit≤}
use lib.ListN.{length, take, drop, replicate, length-append, length-take}
use lib.Seq.{drop-append_seam, take_all, take-append-le, take-take, take_at, drop-drop}
use Rattle.numbers.specs.Numbers as number
use Rattle.wire.specs.Bits.{pack}
use Rattle.wire.specs.Fcs.{register, preset, residue}
use Rattle.wire.specs.Frame.{flag}
use Rattle.receiver.specs.Receiver.{State, Stop, hunting, opened, push, next, ended, decides, runs}
use Rattle.receiver.specs.Receive.{Answer, bare, at_flag, Reading, concluded, reading}
use Rattle.wire.proofs.Bits.{AreBits, none, more}
use Rattle.receiver.proofs.Machine.{runs_go, runs_stop}
use Rattle.promises.specs.Wire.{absent, six_ones, seven_ones, unstuff, at_abort, after}

-- a test is true or false
pub split : (t : Bool) {A : Type 0} → (t ≡ true → A) → (t ≡ false → A) → A
split true f g = f refl
split false f g = g refl

-- every number below n, one by one
abbrev pub EachBelow : ℕ → (ℕ → Type 0) → Type 0
EachBelow zero P = Unit
EachBelow (suc n) P = P 0 × EachBelow n (λ k. P (suc k))

pub each_below : (n : ℕ) (P : ℕ → Type 0) → EachBelow n P → (k : ℕ) → k < n → P k
each_below zero P each k h = absurd (omega arith)
each_below (suc n) P each zero h = each.0
each_below (suc n) P each (suc k) h = each_below n (λ k. P (suc k)) each.1 k (omega arith)

-- ---- the answers, case by case

-- of a flag
pub at_flag_cases : (P : Answer → Type 0) (c : List ℕ) → (length c < 32 → P (bare number.no_frame)) → (144 < length c → P (bare number.long_content))
    → (32 ≤ length c → length c ≤ 144 → length c % 8 ≡ 0 → register preset c ≡ residue
    → P (record { number = number.has_frame; body = take (length c / 8 - 2) (pack c) }))
    → P (bare number.wrong_fcs) → P (bare number.broken_content) → P (at_flag c)
unfolding at_flag
at_flag_cases P c short long body wrong broken =
    cond_cases P (ltb (length c) 32) (λ e. short (ltb-true (length c) 32 e))
    (λ e. cond_cases P (ltb 144 (length c)) (λ f. long (ltb-true 144 (length c) f))
    (λ f. cond_cases P (eqb (length c % 8) 0)
    (λ g. cond_cases P (eqb (register preset c) residue)
    (λ r. body (ltb-false (length c) 32 e) (ltb-false 144 (length c) f) (eqb-true (length c % 8) 0 g) (eqb-true (register preset c) residue r)) (λ r. wrong))
    (λ g. broken)))

-- of a reading
pub concluded_cases : (P : Reading → Type 0) (p : Stop)
    → (eqb p.hit 0 ≡ true → P (record { answer = bare number.no_frame; state = p.state; consumed = p.used }))
    → (eqb p.hit 0 ≡ false → eqb p.hit 1 ≡ true
    → P (record { answer = at_flag (take (ended p.state 0) p.state.content); state = opened; consumed = p.used }))
    → (eqb p.hit 0 ≡ false → P (record { answer = bare number.aborted; state = hunting; consumed = p.used })) → P (concluded p)
concluded_cases P p out flagged aborted =
    cond_cases P (eqb p.hit 0) out (λ e. cond_cases P (eqb p.hit 1) (flagged e) (λ f. aborted e))

-- parts of bits are bits
pub bits_front : (p q : List ℕ) → AreBits (p ++ q) → AreBits p
bits_front [] q h = none
bits_front (b ∷ p) q (more z h) = more z (bits_front p q h)

pub bits_back : (p : List ℕ) {q : List ℕ} → AreBits (p ++ q) → AreBits q
bits_back [] h = h
bits_back (b ∷ p) (more z h) = bits_back p h

-- ---- cut in two, and shifted

pub runs_append : (s : State) (n : ℕ) (p q : List ℕ)
    → runs s n (p ++ q) ≡ cond (eqb (runs s n p).hit 0) (runs (runs s n p).state (runs s n p).used q) (runs s n p)
unfolding runs
runs_append s n [] q = refl
runs_append s n (b ∷ p) q =
    split (decides s b) (λ e. let z : eqb (b + 1) 0 ≡ false = ne_eqb (b + 1) 0 (λ h. omega arith) in rw (e, z) refl)
    (λ e. rw e (runs_append (next s b) (n + 1) p q))

pub runs_shift : (s : State) (m n : ℕ) (p : List ℕ)
    → runs s (m + n) p ≡ record { state = (runs s n p).state; used = m + (runs s n p).used; hit = (runs s n p).hit }
unfolding runs
runs_shift s m n [] = refl
runs_shift s m n (b ∷ p) =
    split (decides s b) (λ e. rw (e, add_assoc m n 1) refl)
    (λ e. rw (e, add_assoc m n 1) (runs_shift (next s b) m (n + 1) p))

-- ---- in a frame

-- k ones since the last zero, content c, of which 152 bits are kept
abbrev pub within : ℕ → ℕ → List ℕ → State
within k l c = record { mode = 1; ones = k; lead = l; content = take 152 c }

pub pushed : (c : List ℕ) (b : ℕ) → push 1 (take 152 c) b ≡ take 152 (c ++ (b ∷ []))
pushed c b =
    split (ltb (length c) 152)
    (λ e.
    let h : length c < 152 = ltb-true (length c) 152 e in
    let l : length (c ++ (b ∷ [])) ≤ 152 = simp length-append (omega arith) in
    rw (take_all 152 c (omega arith), e, take_all 152 (c ++ (b ∷ [])) l) refl)
    (λ e.
    let h : 152 ≤ length c = ltb-false (length c) 152 e in
    let l : 152 ≤ length (take 152 c) = rw length-take (omega arith) in
    rw (le-ltb (length (take 152 c)) 152 l, take-append-le 152 c (b ∷ []) h) refl)

module _ (k l n : ℕ) (c r : List ℕ) (h : k < 5) where
  zero_bit : runs (within k l c) n (0 ∷ r) ≡ runs (within 0 1 (c ++ (0 ∷ []))) (n + 1) r
  zero_bit =
      let e : eqb k 6 ≡ false = ne_eqb k 6 (λ q. omega arith) in
      runs_go (within k l c) n 0 r (rw e refl) ∙ rw (lt-ltb k 5 h, pushed c 0) refl

  one_bit : runs (within k l c) n (1 ∷ r) ≡ runs (within (k + 1) l (c ++ (1 ∷ []))) (n + 1) r
  one_bit =
      let e : eqb k 6 ≡ false = ne_eqb k 6 (λ q. omega arith) in
      runs_go (within k l c) n 1 r (rw e refl) ∙ rw (lt-ltb k 5 h, pushed c 1) refl

stuffed_zero : (l n : ℕ) (c r : List ℕ) → runs (within 5 l c) n (0 ∷ r) ≡ runs (within 0 0 c) (n + 1) r
stuffed_zero l n c r = runs_go (within 5 l c) n 0 r refl

sixth_one : (l n : ℕ) (c r : List ℕ) → runs (within 5 l c) n (1 ∷ r) ≡ runs (within 6 l c) (n + 1) r
sixth_one l n c r = runs_go (within 5 l c) n 1 r refl

pub absent_drop : (p l : List ℕ) (n : ℕ) → absent p l → absent p (drop n l)
absent_drop p l n h i e = h (n + i) (ap (take (length p)) (sym (drop-drop i n l)) ∙ e)

pub absent_after : (p a b : List ℕ) → absent p (a ++ b) → absent p b
absent_after p a b h = rw (drop-append_seam a b) at (absent_drop p (a ++ b) (length a) h)

pub ones_on : (k : ℕ) (r : List ℕ) → replicate k 1 ++ 1 ∷ r ≡ replicate (k + 1) 1 ++ r
ones_on zero r = refl
ones_on (suc k) r = rw (suc-add k 1) (ap (λ (l : List ℕ). 1 ∷ l) (ones_on k r))

absent_zero : (k : ℕ) (r : List ℕ) → absent six_ones (replicate k 1 ++ 0 ∷ r) → absent six_ones r
absent_zero k r h = absent_drop six_ones (0 ∷ r) 1 (absent_after six_ones (replicate k 1) (0 ∷ r) h)

-- the ones since the last zero
abbrev pub run : ℕ → ℕ → ℕ
run k b = cond (eqb b 0) 0 (k + 1)

-- raw bits without six ones in a row: the stuffed zeros are out, and nothing is answered
pub record Ran (k l n : ℕ) (c raw r : List ℕ) : Type 0 where
  pub lead : ℕ
  pub short : foldl run k raw ≤ 5
  pub bits : runs (within k l c) n (raw ++ r) ≡ runs (within (foldl run k raw) lead (c ++ unstuff k raw)) (n + length raw) r

-- one bit of it more in front
module _ (k l n : ℕ) (c bs r : List ℕ) where
  ran_on : (b l' : ℕ) (c' : List ℕ) → runs (within k l c) n (b ∷ (bs ++ r)) ≡ runs (within (run k b) l' c') (n + 1) (bs ++ r)
      → c' ++ unstuff (run k b) bs ≡ c ++ unstuff k (b ∷ bs) → Ran (run k b) l' (n + 1) c' bs r → Ran k l n c (b ∷ bs) r
  ran_on b l' c' bit content m =
      let f : n + 1 + length bs ≡ n + suc (length bs) = omega arith in
      record { lead = m.lead; short = m.short; bits = bit ∙ m.bits ∙ rw (content, f) refl }

  ran_zero : (b : ℕ) → b ≡ 0 → k ≤ 5 → Ran 0 0 (n + 1) c bs r → Ran 0 1 (n + 1) (c ++ (0 ∷ [])) bs r → Ran k l n c (b ∷ bs) r
  unfolding unstuff
  ran_zero b z hk stuffed pushed =
      rw z
      (⊎_elim (λ (e : k ≡ 5). ran_on 0 0 c (rw e (stuffed_zero l n c (bs ++ r))) (rw e refl) stuffed)
      (λ (e : k < 5).
      let other : eqb k 5 ≡ false = ne_eqb k 5 (λ q. omega arith) in
      ran_on 0 1 (c ++ (0 ∷ [])) (zero_bit k l n c (bs ++ r) e) (rw (other, append_assoc c (0 ∷ []) (unstuff 0 bs)) refl) pushed)
      (eq-or-lt_of_le hk))

  ran_one : (b : ℕ) → b ≡ 1 → k ≤ 5 → absent six_ones (replicate k 1 ++ b ∷ bs)
      → (k + 1 ≤ 5 → absent six_ones (replicate (k + 1) 1 ++ bs) → Ran (k + 1) l (n + 1) (c ++ (1 ∷ [])) bs r) → Ran k l n c (b ∷ bs) r
  unfolding unstuff
  ran_one b z hk h m =
      let h₁ : absent six_ones (replicate k 1 ++ 1 ∷ bs) = rw z at h in
      rw z
      (⊎_elim (λ (e : k ≡ 5). absurd ((rw e at h₁) 0 refl))
      (λ (e : k < 5).
      ran_on 1 l (c ++ (1 ∷ [])) (one_bit k l n c (bs ++ r) e) (append_assoc c (1 ∷ []) (unstuff (k + 1) bs)) (m (omega arith) (rw (ones_on k bs) at h₁)))
      (eq-or-lt_of_le hk))

pub ran : {raw : List ℕ} → AreBits raw → (k l n : ℕ) (c r : List ℕ) → k ≤ 5 → absent six_ones (replicate k 1 ++ raw) → Ran k l n c raw r
unfolding unstuff
ran none k l n c r hk h = record { lead = l; short = hk; bits = rw (append-nil c, add-zero n) refl }
ran {raw = b ∷ bs} (more (inl z) hb) k l n c r hk h =
    let h' : absent six_ones bs = absent_zero k bs (rw z at h) in
    ran_zero k l n c bs r b z hk (ran hb 0 0 (n + 1) c r (lit≤ tt) h') (ran hb 0 1 (n + 1) (c ++ (0 ∷ [])) r (lit≤ tt) h')
ran {raw = b ∷ bs} (more (inr z) hb) k l n c r hk h = ran_one k l n c bs r b z hk h (λ e h'. ran hb (k + 1) l (n + 1) (c ++ (1 ∷ [])) r e h')

-- ---- where a reading ends

abbrev pub five : List ℕ
five = 1 ∷ 1 ∷ 1 ∷ 1 ∷ 1 ∷ []

-- six ones after a zero: five are kept
pub six_ones_lem : (l n : ℕ) (c r : List ℕ) → runs (within 0 l c) n (six_ones ++ r) ≡ runs (within 6 l (c ++ five)) (n + 6) r
six_ones_lem l n c r =
    let e : n + 1 + 1 + 1 + 1 + 1 + 1 ≡ n + 6 = omega arith in
    one_bit 0 l n c _ (lit< tt)
    ∙ one_bit 1 l (n + 1) (c ++ (1 ∷ [])) _ (lit< tt)
    ∙ one_bit 2 l (n + 1 + 1) ((c ++ (1 ∷ [])) ++ (1 ∷ [])) _ (lit< tt)
    ∙ one_bit 3 l (n + 1 + 1 + 1) (((c ++ (1 ∷ [])) ++ (1 ∷ [])) ++ (1 ∷ [])) _ (lit< tt)
    ∙ one_bit 4 l (n + 1 + 1 + 1 + 1) ((((c ++ (1 ∷ [])) ++ (1 ∷ [])) ++ (1 ∷ [])) ++ (1 ∷ [])) _ (lit< tt)
    ∙ sixth_one l (n + 1 + 1 + 1 + 1 + 1) (((((c ++ (1 ∷ [])) ++ (1 ∷ [])) ++ (1 ∷ [])) ++ (1 ∷ [])) ++ (1 ∷ [])) r
    ∙ simp append_assoc (rw e refl)

concluded_on : (p : Stop) (m : ℕ)
    → concluded (record { state = p.state; used = m + p.used; hit = p.hit })
    ≡ record { answer = (concluded p).answer; state = (concluded p).state; consumed = m + (concluded p).consumed }
concluded_on p m = split (eqb p.hit 0) (λ e. rw e refl) (λ e. split (eqb p.hit 1) (λ f. rw (e, f) refl) (λ f. rw (e, f) refl))

-- a reading that goes on after n bits
pub goes_on : (s : State) (n : ℕ) (r : List ℕ)
    → concluded (runs s n r) ≡ record { answer = (reading s r).answer; state = (reading s r).state; consumed = n + (reading s r).consumed }
unfolding reading
goes_on s n r =
    ap concluded (ap (λ (k : ℕ). runs s k r) (sym (add-zero n)) ∙ runs_shift s n 0 r) ∙ concluded_on (runs s 0 r) n

-- what is left of the content when the flag's bits are taken off again
kept : (c z : List ℕ) (m : ℕ) → length z ≡ m → m ≤ 6 → length (take 152 (c ++ z)) - m ≡ min (152 - m) (length c)
kept c z m e h = rw (length-take, length-append) (omega arith)

at_flag_long : (c : List ℕ) → 144 < length c → at_flag c ≡ bare number.long_content
unfolding at_flag
at_flag_long c h = rw (le-ltb (length c) 32 (omega arith), lt-ltb 144 (length c) h) refl

at_flag_short : (c : List ℕ) → length c < 32 → at_flag c ≡ bare number.no_frame
unfolding at_flag
at_flag_short c h = rw (lt-ltb (length c) 32 h) refl

pub at_flag_answers : (c : List ℕ) → 32 ≤ length c → eqb (at_flag c).number number.no_frame ≡ false
at_flag_answers c h =
    at_flag_cases (λ a. eqb a.number number.no_frame ≡ false) c (λ l. absurd (omega arith)) (λ _. refl) (λ _ _ _ _. refl) refl refl

at_flag_cut : (c z : List ℕ) (m : ℕ) → length z ≡ m → m ≤ 6
    → at_flag (take (length (take 152 (c ++ z)) - m) (take 152 (c ++ z))) ≡ at_flag c
at_flag_cut c z m e h =
    split (ltb 144 (length c))
    (λ t.
    let g : 144 < length c = ltb-true 144 (length c) t in
    let k : 144 < length (take (length (take 152 (c ++ z)) - m) (take 152 (c ++ z))) = rw (kept c z m e h) (simp (length-take, length-append) (omega arith)) in
    at_flag_long _ k ∙ sym (at_flag_long c g))
    (λ t.
    let g : length c ≤ 144 = ltb-false 144 (length c) t in
    let k : min (152 - m) (length c) ≡ length c = omega arith in
    ap at_flag (rw (kept c z m e h, k, take-take (length c) 152 (c ++ z) (omega arith)) (take_at c z (length c) refl)))

module _ (l n : ℕ) (c z r : List ℕ) where
  -- the bit after six ones decides where 32 bits of content stand before the flag's bits, z
  by_content : (b : ℕ) → length z ≡ 5 + cond (eqb b 0) l 0 → length z ≤ 6 → decides (within 6 l (c ++ z)) b ≡ not (ltb (length c) 32)
  by_content b e h =
      let m : ℕ = min (152 - (5 + cond (eqb b 0) l 0)) (length c) in
      rw (kept c z (5 + cond (eqb b 0) l 0) e (rw e at h))
      (split (ltb (length c) 32) (λ t. rw (t, lt-leb 32 m (omega (arith, ltb-true (length c) 32 t))) refl)
      (λ t. rw (t, le-leb 32 m (omega (arith, ltb-false (length c) 32 t))) refl))

  -- a flag's last zero
  flag_end : length z ≡ 5 + l → l ≤ 1 → concluded (runs (within 6 l (c ++ z)) n (0 ∷ r)) ≡ after (at_flag c) opened (n + 1) r
  flag_end e h =
      split (ltb (length c) 32)
      (λ t.
      rw (at_flag_short c (ltb-true (length c) 32 t))
      (ap concluded (runs_go (within 6 l (c ++ z)) n 0 r (by_content 0 e (omega arith) ∙ rw t refl)) ∙ goes_on opened (n + 1) r))
      (λ t.
      rw (at_flag_answers c (ltb-false (length c) 32 t))
      (ap concluded (runs_stop (within 6 l (c ++ z)) n 0 r (by_content 0 e (omega arith) ∙ rw t refl)) ∙ rw (at_flag_cut c z (5 + l) e (omega arith)) refl))

  -- a seventh one
  abort_end : length z ≡ 5 → concluded (runs (within 6 l (c ++ z)) n (1 ∷ r)) ≡ after (at_abort c) hunting (n + 1) r
  abort_end e =
      split (ltb (length c) 32)
      (λ t. rw t (ap concluded (runs_go (within 6 l (c ++ z)) n 1 r (by_content 1 e (omega arith) ∙ rw t refl)) ∙ goes_on hunting (n + 1) r))
      (λ t. rw t (ap concluded (runs_stop (within 6 l (c ++ z)) n 1 r (by_content 1 e (omega arith) ∙ rw t refl))))

-- a whole flag in a frame
pub closing : (k l n : ℕ) (c r : List ℕ) → k ≤ 5 → concluded (runs (within k l c) n (flag ++ r)) ≡ after (at_flag c) opened (n + 8) r
closing k l n c r h =
    let f : n + 1 + 6 + 1 ≡ n + 8 = omega arith in
    ⊎_elim
    (λ (e : k ≡ 5). rw e
    (ap concluded (stuffed_zero l n c (six_ones ++ 0 ∷ r) ∙ six_ones_lem 0 (n + 1) c (0 ∷ r)) ∙ flag_end 0 (n + 1 + 6) c five r refl (lit≤ tt) ∙ rw f refl))
    (λ (e : k < 5).
    ap concluded (zero_bit k l n c (six_ones ++ 0 ∷ r) e ∙ six_ones_lem 1 (n + 1) (c ++ (0 ∷ [])) (0 ∷ r))
    ∙ rw (append_assoc c (0 ∷ []) five) (flag_end 1 (n + 1 + 6) c (0 ∷ five) r refl (lit≤ tt) ∙ rw f refl))
    (eq-or-lt_of_le h)

-- seven ones in a frame, after a zero
pub aborting : (l n : ℕ) (c r : List ℕ) → concluded (runs (within 0 l c) n (seven_ones ++ r)) ≡ after (at_abort c) hunting (n + 7) r
aborting l n c r =
    let f : n + 6 + 1 ≡ n + 7 = omega arith in
    ap concluded (six_ones_lem l n c (1 ∷ r)) ∙ abort_end l (n + 6) c five r refl ∙ rw f refl
