-- What the receiver makes of bits, from a state on. `Wire` has the same over the call.
use mathlib.Core.Path.{◌≡◌, refl, sym, ap, ◌∙◌}
use mathlib.Core.Bool.{true, false, true≢false}
use mathlib.Core.Logic.{⊎_elim, inl, inr}
use mathlib.Core.List.{List, [], ◌∷◌, ◌++◌, append-nil, foldl, foldl-append}
use Prim.Native.Nat.{ℕ, suc, ◌+◌, ◌-◌, ◌/◌, ◌≤◌, ◌<◌}
use native.Mathlib.Nat.{add-zero, zero-add, eq-or-lt_of_le}
use native.Mathlib.Omega.{arith}
use borrow.Author.Tests.{ne_eqb, eqb-true, eqb-false, lt-ltb, le-ltb, lt-leb, leb-true, ltb-true, ltb-false}
use lib.Dec.{eqb, ltb, leb, lit≤}
use lib.ListN.{length, take, drop, get_or, replicate, length-take}
use lib.Seq.{take-length, take-suc}
use Rattle.numbers.specs.Numbers as number
use Rattle.wire.specs.Bits.{pack}
use Rattle.wire.specs.Frame.{flag}
use Rattle.receiver.specs.Receiver.{State, Stop, hunting, opened, next, decides, ended, runs}
use Rattle.receiver.specs.Receive.{bare, at_flag, concluded, reading}
use Rattle.wire.proofs.Bits.{length_pack, AreBits, none, more}
use Rattle.receiver.proofs.Machine.{runs_go, runs_end}
use Rattle.promises.specs.Wire.{absent, six_ones, seven_ones, destuff, at_abort, after, hunter, seen}
use Rattle.promises.specs.Calls.{Sized}
use Rattle.bits.proofs.Tests.{and_right}
use Rattle.promises.proofs.Steps.{split, each_below, at_flag_cases, concluded_cases, absent_drop, absent_after, ones_on, runs_append, run, within, Ran, ran, at_flag_answers, five, six_ones_lem, goes_on, closing, aborting}

-- ---- in a frame

-- A FRAME. After a flag, any bits without six ones in a row and then a flag: the content is those bits destuffed, the answer is the
-- one of document 01's list for that content, the bits are consumed through the flag's last, and this flag has opened the next frame.
pub frame_read : {raw : List ℕ} → AreBits raw → (rest : List ℕ) → absent six_ones raw
    → reading opened (raw ++ (flag ++ rest)) ≡ after (at_flag (destuff raw)) opened (length raw + 8) rest
unfolding reading
frame_read {raw = raw} hb rest h =
    let m : Ran 0 0 0 [] raw (flag ++ rest) = ran hb 0 0 0 [] (flag ++ rest) (lit≤ tt) h in
    ap concluded m.bits ∙ closing (foldl run 0 raw) m.lead (0 + length raw) (destuff raw) rest m.short ∙ rw zero-add refl

-- TWO FLAGS THAT SHARE A ZERO enclose nothing: no answer, and the frame is open.
pub shared_zero : (rest : List ℕ) → reading opened (drop 1 flag ++ rest) ≡ after (bare number.no_frame) opened 7 rest
unfolding reading runs
shared_zero rest = goes_on opened 7 rest

-- after a last bit that is no one no run of ones is open
run_ended : (raw : List ℕ) → get_or raw (length raw - 1) 0 ≡ 0 → foldl run 0 raw ≡ 0
run_ended [] e = refl
run_ended (b ∷ bs) e =
    let i : length bs ≡ suc (length bs) - 1 = omega arith in
    let z : get_or (b ∷ bs) (length bs) 0 ≡ 0 = ap (λ (j : ℕ). get_or (b ∷ bs) j 0) i ∙ e in
    let l : length bs < length (b ∷ bs) = omega arith in
    ap (foldl run 0) (sym (take-length (b ∷ bs)) ∙ take-suc (b ∷ bs) (length bs) 0 l)
    ∙ foldl-append run 0 (take (length bs) (b ∷ bs)) (get_or (b ∷ bs) (length bs) 0 ∷ [])
    ∙ rw z refl

-- AN ABORT. After a flag, any bits without six ones in a row, the last of them no one, and then seven ones: 24 where at least 32
-- content bits stand before the run of ones, else no answer; the receiver then hunts.
pub abort_read : {raw : List ℕ} → AreBits raw → (rest : List ℕ) → absent six_ones raw → get_or raw (length raw - 1) 0 ≡ 0
    → reading opened (raw ++ (seven_ones ++ rest)) ≡ after (at_abort (destuff raw)) hunting (length raw + 7) rest
unfolding reading
abort_read {raw = raw} hb rest h last =
    let m : Ran 0 0 0 [] raw (seven_ones ++ rest) = ran hb 0 0 0 [] (seven_ones ++ rest) (lit≤ tt) h in
    ap concluded (m.bits ∙ ap (λ (k : ℕ). runs (within k m.lead (destuff raw)) (0 + length raw) (seven_ones ++ rest)) (run_ended raw last))
    ∙ aborting m.lead (0 + length raw) (destuff raw) rest
    ∙ rw zero-add refl

-- ---- a reading cut in two

-- what stops at a flag has 32 bits of content
flag_decided : (s : State) (n : ℕ) (p : List ℕ) → eqb (runs s n p).hit 1 ≡ true → 32 ≤ ended (runs s n p).state 0
unfolding runs
flag_decided s n [] e = absurd (eqb-false 0 1 refl (eqb-true 0 1 e))
flag_decided s n (b ∷ p) e =
    split (decides s b)
    (λ d.
    let z : b ≡ 0 = omega (arith, eqb-true (b + 1) 1 (rw d at e)) in
    let t : leb 32 (ended s 0) ≡ true = and_right (eqb s.ones 6) (leb 32 (ended s 0)) (rw z at d) in
    rw d (leb-true 32 (ended s 0) t))
    (λ d. rw d (flag_decided (next s b) (n + 1) p (rw d at e)))

stop_answers : (p : Stop) → (eqb p.hit 1 ≡ true → 32 ≤ ended p.state 0) → eqb p.hit 0 ≡ false
    → eqb (concluded p).answer.number number.no_frame ≡ false
stop_answers p f e =
    concluded_cases (λ r. eqb r.answer.number number.no_frame ≡ false) p (λ z. absurd (true≢false (sym z ∙ e)))
    (λ _ t. let h : 32 ≤ ended p.state 0 = f t in at_flag_answers _ (rw length-take (omega arith))) (λ _. refl)

-- A BUFFER READ IN TWO CALLS, split at any bit: where the first call answers, the whole reading is that answer; where it gives 17,
-- the second call goes on from the receiver left, with the same answer, body and receiver in the end, and the bits consumed add up.
pub read_split : (s : State) (p q : List ℕ)
    → reading s (p ++ q) ≡ after (reading s p).answer (reading s p).state (reading s p).consumed q
unfolding reading
read_split s p q =
    split (eqb (runs s 0 p).hit 0)
    (λ e. rw (runs_append s 0 p q, e) (goes_on (runs s 0 p).state (runs s 0 p).used q))
    (λ e.
    let stopped : runs s 0 (p ++ q) ≡ runs s 0 p = runs_append s 0 p q ∙ rw e refl in
    ap concluded stopped ∙ rw (stop_answers (runs s 0 p) (flag_decided s 0 p) e) refl)

-- 17 comes where the bits run out,
ran_out : (s : State) (p : List ℕ) → (reading s p).answer.number ≡ number.no_frame → eqb (runs s 0 p).hit 0 ≡ true
unfolding reading
ran_out s p h = split (eqb (runs s 0 p).hit 0) (λ e. e) (λ e. absurd (eqb-false _ number.no_frame (stop_answers (runs s 0 p) (flag_decided s 0 p) e) h))

-- with no body
pub silent : (s : State) (p : List ℕ) → (reading s p).answer.number ≡ number.no_frame → (reading s p).answer ≡ bare number.no_frame
unfolding reading
silent s p h = rw (ran_out s p h) refl

-- and all bits are consumed
runs_out : (s : State) (n : ℕ) (p : List ℕ) → eqb (runs s n p).hit 0 ≡ true → (runs s n p).used ≡ n + length p
unfolding runs
runs_out s n [] e = sym (add-zero n)
runs_out s n (b ∷ p) e =
    split (decides s b) (λ d. let z : b + 1 ≡ 0 = eqb-true (b + 1) 0 (rw d at e) in absurd (omega arith))
    (λ d.
    let f : n + 1 + length p ≡ n + suc (length p) = omega arith in
    rw d (runs_out (next s b) (n + 1) p (rw d at e) ∙ f))

pub silent_consumed : (s : State) (p : List ℕ) → (reading s p).answer.number ≡ number.no_frame → (reading s p).consumed ≡ length p
unfolding reading
silent_consumed s p h = rw (ran_out s p h) (runs_out s 0 p (ran_out s p h) ∙ zero-add (length p))

-- THE BITS RUN OUT in a frame, no six ones in a row: 17.
pub frame_unended : {raw : List ℕ} → AreBits raw → absent six_ones raw → (reading opened raw).answer ≡ bare number.no_frame
unfolding reading
frame_unended {raw = raw} hb h =
    let m : Ran 0 0 0 [] raw [] = ran hb 0 0 0 [] [] (lit≤ tt) h in
    ap (λ (p : Stop). (concluded p).answer)
    (ap (runs opened 0) (sym (append-nil raw)) ∙ m.bits ∙ runs_end (within (foldl run 0 raw) m.lead (destuff raw)) (0 + length raw))

-- and in six ones, too
pub six_unended : {raw : List ℕ} → AreBits raw → absent six_ones raw → get_or raw (length raw - 1) 0 ≡ 0
    → (reading opened (raw ++ six_ones)).answer ≡ bare number.no_frame
unfolding reading
six_unended {raw = raw} hb h last =
    let m : Ran 0 0 0 [] raw six_ones = ran hb 0 0 0 [] six_ones (lit≤ tt) h in
    ap (λ (p : Stop). (concluded p).answer)
    (m.bits ∙ ap (λ (k : ℕ). runs (within k m.lead (destuff raw)) (0 + length raw) six_ones) (run_ended raw last)
    ∙ six_ones_lem m.lead (0 + length raw) (destuff raw) [] ∙ runs_end (within 6 m.lead (destuff raw ++ five)) (0 + length raw + 6))

-- bodies
bare_sized : (n : ℕ) → (n ≡ number.has_frame → ⊥) → Sized (bare n)
bare_sized n h = record { most = lit≤ tt; least = λ e. absurd (h e); other = λ g. refl }

flag_sized : (c : List ℕ) → Sized (at_flag c)
flag_sized c =
    at_flag_cases Sized c (λ _. bare_sized number.no_frame (λ h. omega arith)) (λ _. bare_sized number.long_content (λ h. omega arith))
    (λ least most _ _.
    let l : length (take (length c / 8 - 2) (pack c)) ≡ length c / 8 - 2 = rw (length-take, length_pack) (omega arith) in
    record { most = rw l (omega arith); least = λ z. rw l (omega arith); other = λ z. absurd (z refl) })
    (bare_sized number.wrong_fcs (λ h. omega arith)) (bare_sized number.broken_content (λ h. omega arith))

pub reading_sized : (s : State) (p : List ℕ) → Sized (reading s p).answer
unfolding reading
reading_sized s p =
    concluded_cases (λ r. Sized r.answer) (runs s 0 p) (λ _. bare_sized number.no_frame (λ h. omega arith)) (λ _ _. flag_sized _)
    (λ _. bare_sized number.aborted (λ h. omega arith))

-- ---- hunting

undecided : (j b : ℕ) → decides (hunter j) b ≡ false
undecided j b = split (eqb j 6) (λ e. rw e (lt-leb 32 (ended (hunter j) b) (omega arith))) (λ e. rw e refl)

zero_hunted : (j : ℕ) → (j ≡ 6 → ⊥) → next (hunter j) 0 ≡ hunter 0
zero_hunted j h = split (ltb j 5) (λ e. rw e refl) (λ e. rw (e, ne_eqb j 6 h) refl)

one_hunted : (j : ℕ) → j < 6 → next (hunter j) 1 ≡ hunter (j + 1)
one_hunted j h =
    ⊎_elim (λ (e : suc j ≡ 6). let f : j ≡ 5 = omega arith in rw f refl)
    (λ (e : suc j < 6). let f : j < 5 = omega arith in rw (lt-ltb j 5 f) refl) (eq-or-lt_of_le h)

one_lost : (j : ℕ) → 6 ≤ j → next (hunter j) 1 ≡ hunter 7
one_lost j h = let e : eqb j 5 ≡ false = ne_eqb j 5 (λ q. omega arith) in rw (le-ltb j 5 (omega arith), e) refl

seen_more : (j : ℕ) (r : List ℕ) → j < 6 → seen j ++ (1 ∷ r) ≡ seen (j + 1) ++ r
unfolding seen
seen_more j r h =
    let e : eqb j 7 ≡ false = ne_eqb j 7 (λ q. omega arith) in
    let f : eqb (j + 1) 7 ≡ false = ne_eqb (j + 1) 7 (λ q. omega arith) in
    rw (e, f) (ap (λ (l : List ℕ). 0 ∷ l) (ones_on j r))

-- bits in which no flag ends: the receiver goes on hunting
record Hunted (j n : ℕ) (p q r : List ℕ) : Type 0 where
  ones : ℕ
  few : ones ≤ 7
  none_yet : absent flag (seen ones ++ q)
  bits : runs (hunter j) n (p ++ r) ≡ runs (hunter ones) (n + length p) r

module _ (j n : ℕ) (p q r : List ℕ) where
  hunted_on : (b i : ℕ) → next (hunter j) b ≡ hunter i → Hunted i (n + 1) p q r → Hunted j n (b ∷ p) q r
  hunted_on b i e m =
      let f : n + 1 + length p ≡ n + suc (length p) = omega arith in
      record {
        ones = m.ones;
        few = m.few;
        none_yet = m.none_yet;
        bits = runs_go (hunter j) n b (p ++ r) (undecided j b) ∙ ap (λ (s : State). runs s (n + 1) (p ++ r)) e ∙ m.bits ∙ rw f refl;
      }

  hunted_zero : (b : ℕ) → b ≡ 0 → absent flag (seen j ++ (b ∷ (p ++ q)))
      → (absent flag (seen 0 ++ (p ++ q)) → Hunted 0 (n + 1) p q r) → Hunted j n (b ∷ p) q r
  unfolding seen
  hunted_zero b z h m =
      let h₁ : absent flag (seen j ++ (0 ∷ (p ++ q))) = rw z at h in
      let no : j ≡ 6 → ⊥ = λ e. (rw e at h₁) 0 refl in
      let h₂ : absent flag (0 ∷ (p ++ q)) = absent_after flag (seen j) (0 ∷ (p ++ q)) h₁ in
      rw z (hunted_on 0 0 (zero_hunted j no) (m h₂))

  hunted_one : (b : ℕ) → b ≡ 1 → j ≤ 7 → absent flag (seen j ++ (b ∷ (p ++ q)))
      → ((i : ℕ) → i ≤ 7 → absent flag (seen i ++ (p ++ q)) → Hunted i (n + 1) p q r) → Hunted j n (b ∷ p) q r
  unfolding seen
  hunted_one b z hj h m =
      let h₁ : absent flag (seen j ++ (1 ∷ (p ++ q))) = rw z at h in
      rw z
      (split (ltb j 6)
      (λ t.
      let l : j < 6 = ltb-true j 6 t in
      hunted_on 1 (j + 1) (one_hunted j l) (m (j + 1) (omega arith) (rw (seen_more j (p ++ q) l) at h₁)))
      (λ t.
      let l : 6 ≤ j = ltb-false j 6 t in
      let h₂ : absent flag (p ++ q) = absent_drop flag (1 ∷ (p ++ q)) 1 (absent_after flag (seen j) (1 ∷ (p ++ q)) h₁) in
      hunted_on 1 7 (one_lost j l) (m 7 (lit≤ tt) h₂)))

hunted : {p : List ℕ} → AreBits p → (j n : ℕ) (q r : List ℕ) → j ≤ 7 → absent flag (seen j ++ (p ++ q)) → Hunted j n p q r
hunted none j n q r hj h = record { ones = j; few = hj; none_yet = h; bits = rw (add-zero n) refl }
hunted {p = b ∷ p} (more (inl z) hb) j n q r hj h = hunted_zero j n p q r b z h (λ h'. hunted hb 0 (n + 1) q r (lit≤ tt) h')
hunted {p = b ∷ p} (more (inr z) hb) j n q r hj h = hunted_one j n p q r b z hj h (λ i hi h'. hunted hb i (n + 1) q r hi h')

-- what a reading that finds no flag leaves
pub record StillHunting (j : ℕ) (bits : List ℕ) : Type 0 where
  pub ones : ℕ
  pub few : ones ≤ 7
  pub result : reading (hunter j) bits ≡ record { answer = bare number.no_frame; state = hunter ones; consumed = length bits }

-- HUNTING. Bits that hold no flag, nor end one that the bits before them began: 17, all are consumed, and the receiver still hunts.
pub hunts : {bits : List ℕ} → AreBits bits → (j : ℕ) → j ≤ 7 → absent flag (seen j ++ bits) → StillHunting j bits
unfolding reading runs
hunts {bits = bits} hb j hj h =
    let h' : absent flag (seen j ++ (bits ++ [])) = rw (append-nil bits) h in
    let m : Hunted j 0 bits [] [] = hunted hb j 0 [] [] hj h' in
    record {
      ones = m.ones;
      few = m.few;
      result = ap (λ (l : List ℕ). concluded (runs (hunter j) 0 l)) (sym (append-nil bits)) ∙ ap concluded m.bits ∙ rw zero-add refl;
    }

-- THE FIRST FLAG opens a frame, without an answer.
pub first_flag : {p : List ℕ} → AreBits p → (j : ℕ) (rest : List ℕ) → j ≤ 7 → absent flag (seen j ++ (p ++ take 7 flag))
    → reading (hunter j) (p ++ (flag ++ rest)) ≡ after (bare number.no_frame) opened (length p + 8) rest
unfolding reading runs seen
first_flag {p = p} hb j rest hj h =
    let m : Hunted j 0 p (take 7 flag) (flag ++ rest) = hunted hb j 0 (take 7 flag) (flag ++ rest) hj h in
    let no : m.ones ≡ 6 → ⊥ = λ e. (rw e at m.none_yet) 0 refl in
    let f : 0 + length p + 1 + 1 + 1 + 1 + 1 + 1 + 1 + 1 ≡ length p + 8 = omega arith in
    ap concluded
    (m.bits
    ∙ runs_go (hunter m.ones) (0 + length p) 0 (drop 1 flag ++ rest) (undecided m.ones 0)
    ∙ ap (λ (s : State). runs s (0 + length p + 1) (drop 1 flag ++ rest)) (zero_hunted m.ones no))
    ∙ rw f (goes_on opened (length p + 8) rest)

-- A FLAG BEGUN BEFORE THE CALL opens a frame where it ends.
pub begun_flag : (j : ℕ) (rest : List ℕ) → j ≤ 6
    → reading (hunter j) (replicate (6 - j) 1 ++ (0 ∷ rest)) ≡ after (bare number.no_frame) opened (7 - j) rest
unfolding reading runs
begun_flag j rest h =
    let on : (n : ℕ) → concluded (runs opened n rest) ≡ after (bare number.no_frame) opened n rest = λ n. goes_on opened n rest in
    each_below 7 (λ j. reading (hunter j) (replicate (6 - j) 1 ++ (0 ∷ rest)) ≡ after (bare number.no_frame) opened (7 - j) rest)
    (on 7, (on 6, (on 5, (on 4, (on 3, (on 2, (on 1, tt))))))) j (omega arith)
