-- Reading after reading: what each takes of the bits, and the state that it leaves, whatever it answered.
use mathlib.Core.Path.{◌≡◌, refl, sym, ap, ap₂, ◌∙◌}
use mathlib.Core.Bool.{true, cond}
use mathlib.Core.List.{List, [], ◌∷◌, ◌++◌, foldl, foldl-append, append_assoc}
use Prim.Native.Nat.{ℕ, zero, suc, ◌+◌, ◌-◌, ◌≤◌, ◌<◌}
use native.Mathlib.Nat.{add-zero, zero-add}
use native.Mathlib.Omega.{arith}
use borrow.Author.Tests.{eqb-true, ltb-false}
use native.Mathlib.Numerals.{add-one}
use lib.Dec.{eqb, ltb, eqb-suc-zero, eqb-suc-suc, lit<, lit≤}
use lib.ListN.{length, take, drop, replicate, length-drop, length-append}
use lib.Seq.{drop-nil, drop-drop, take-add, take_all, take-append-add}
use Rattle.wire.specs.Frame.{flag}
use Rattle.receiver.specs.Receiver.{State, Stop, hunting, opened, next, decides, runs}
use Rattle.receiver.specs.Receive.{Answer, Reading, concluded, reading}
use Rattle.receiver.proofs.Machine.{runs_go, runs_stop, runs_end}
use Rattle.promises.specs.Wire.{after}
use Rattle.promises.specs.Calls.{verdict}
use Rattle.bits.proofs.Tests.{and_left}
use Rattle.promises.proofs.Steps.{split}
use Rattle.promises.proofs.Readings.{read_split}

-- ---- readings, each going on where the last one stopped

pub record Calls : Type 0 where
  pub answers : List Answer
  pub state : State
  pub rest : List ℕ

-- the answers of n readings, the state left, and the bits not yet consumed
unfoldable pub calls : ℕ → State → List ℕ → Calls
calls zero s bits = record { answers = []; state = s; rest = bits }
calls (suc n) s bits = onwards (reading s bits).answer (calls n (reading s bits).state (drop (reading s bits).consumed bits))
  where
    onwards : Answer → Calls → Calls
    onwards a c = record { answers = a ∷ c.answers; state = c.state; rest = c.rest }

-- ---- what a reading takes

-- a bit that decides gives its verdict,
pub concluded_at : (s : State) (b n : ℕ) → concluded (record { state = s; used = n; hit = b + 1 })
    ≡ record { answer = verdict s b; state = cond (eqb b 0) opened hunting; consumed = n }
concluded_at s b n = rw (add-one b, eqb-suc-zero b, eqb-suc-suc b 0) (split (eqb b 0) (λ e. rw e refl) (λ e. rw e refl))

-- and leaves what the step leaves
pub decided : (s : State) (b n : ℕ) → decides s b ≡ true → (concluded (record { state = s; used = n; hit = b + 1 })).state ≡ next s b
decided s b n d =
    let six : s.ones ≡ 6 = eqb-true s.ones 6 (and_left (eqb s.ones 6) _ d) in
    ap (λ (r : Reading). r.state) (concluded_at s b n) ∙ rw six refl

-- what a reading took
pub record Took (s : State) (n : ℕ) (bits : List ℕ) : Type 0 where
  pub count : ℕ
  pub used : (concluded (runs s n bits)).consumed ≡ n + count
  pub most : count ≤ length bits
  pub least : 0 < length bits → 0 < count
  pub state : (concluded (runs s n bits)).state ≡ foldl next s (take count bits)

pub concluded_consumed : (p : Stop) → (concluded p).consumed ≡ p.used
concluded_consumed p = split (eqb p.hit 0) (λ e. rw e refl) (λ e. split (eqb p.hit 1) (λ f. rw (e, f) refl) (λ f. rw (e, f) refl))

pub took : (s : State) (n : ℕ) (bits : List ℕ) → Took s n bits
took s n [] =
    let e : runs s n [] ≡ record { state = s; used = n; hit = 0 } = runs_end s n in
    record {
      count = 0;
      used = ap (λ (p : Stop). (concluded p).consumed) e ∙ sym (add-zero n);
      most = lit≤ tt;
      least = λ h. h;
      state = ap (λ (p : Stop). (concluded p).state) e;
    }
took s n (b ∷ bits) =
    split (decides s b)
    (λ d.
    let stop : Stop = record { state = s; used = n + 1; hit = b + 1 } in
    let e : runs s n (b ∷ bits) ≡ stop = runs_stop s n b bits d in
    record {
      count = 1;
      used = ap (λ (p : Stop). (concluded p).consumed) e ∙ concluded_consumed stop;
      most = omega arith;
      least = λ h. lit< tt;
      state = ap (λ (p : Stop). (concluded p).state) e ∙ decided s b (n + 1) d;
    })
    (λ d.
    let m : Took (next s b) (n + 1) bits = took (next s b) (n + 1) bits in
    let e : runs s n (b ∷ bits) ≡ runs (next s b) (n + 1) bits = runs_go s n b bits d in
    record {
      count = suc m.count;
      used = ap (λ (p : Stop). (concluded p).consumed) e ∙ omega (arith, m.used);
      most = omega (arith, m.most);
      least = λ h. omega arith;
      state = ap (λ (p : Stop). (concluded p).state) e ∙ m.state;
    })

-- ONE CALL consumes at most the bits given, and at least one of them if there is one; the receiver it leaves is the one after the
-- bits that it consumed, whatever it answered.
pub call_state : (s : State) (bits : List ℕ) → (reading s bits).state ≡ foldl next s (take (reading s bits).consumed bits)
unfolding reading
call_state s bits =
    let m : Took s 0 bits = took s 0 bits in
    let e : (concluded (runs s 0 bits)).consumed ≡ m.count = m.used ∙ zero-add m.count in
    rw e m.state

pub call_most : (s : State) (bits : List ℕ) → (reading s bits).consumed ≤ length bits
unfolding reading
call_most s bits = let m : Took s 0 bits = took s 0 bits in omega (arith, m.used, m.most)

pub call_least : (s : State) (bits : List ℕ) → 0 < length bits → 0 < (reading s bits).consumed
unfolding reading
call_least s bits h = let m : Took s 0 bits = took s 0 bits in omega (arith, m.used, m.least h)

-- SEVERAL CALLS consume bits from the front, and the receiver they leave is the one after those bits.
pub record Consumed (n : ℕ) (s : State) (bits : List ℕ) : Type 0 where
  pub count : ℕ
  pub most : count ≤ length bits
  pub state : (calls n s bits).state ≡ foldl next s (take count bits)
  pub rest : (calls n s bits).rest ≡ drop count bits

pub calls_consumed : (n : ℕ) (s : State) (bits : List ℕ) → Consumed n s bits
unfolding calls
calls_consumed zero s bits = record { count = 0; most = omega arith; state = refl; rest = refl }
calls_consumed (suc n) s bits =
    let k = (reading s bits).consumed in
    let m : Consumed n (reading s bits).state (drop k bits) = calls_consumed n (reading s bits).state (drop k bits) in
    let l : m.count ≤ length bits - k = rw (length-drop k bits) at m.most in
    record {
      count = k + m.count;
      most = omega (arith, call_most s bits);
      state =
          m.state ∙ ap (λ (t : State). foldl next t (take m.count (drop k bits))) (call_state s bits)
          ∙ sym (foldl-append next s (take k bits) (take m.count (drop k bits)))
          ∙ ap (foldl next s) (sym (take-add k m.count bits));
      rest = m.rest ∙ drop-drop m.count k bits;
    }

-- as many calls as there are bits consume them all
pub calls_consume : (n : ℕ) (s : State) (bits : List ℕ) → length bits ≤ n → (calls n s bits).rest ≡ []
unfolding calls
calls_consume zero s [] h = refl
calls_consume zero s (b ∷ bits) h = absurd (omega arith)
calls_consume (suc n) s [] h = calls_consume n (reading s []).state (drop (reading s []).consumed []) (rw (drop-nil (reading s []).consumed) (omega arith))
calls_consume (suc n) s (b ∷ bits) h =
    let l : 0 < (reading s (b ∷ bits)).consumed = call_least s (b ∷ bits) (omega arith) in
    calls_consume n (reading s (b ∷ bits)).state (drop (reading s (b ∷ bits)).consumed (b ∷ bits)) (rw length-drop (omega arith))

zero_next : (s : State) → (next s 0).ones ≡ 0
zero_next s = split (ltb s.ones 5) (λ e. rw e refl) (λ e. split (eqb s.ones 6) (λ f. rw (e, f) refl) (λ f. rw (e, f) refl))

one_next : (s : State) (k : ℕ) → s.ones ≡ k → k < 6 → (next s 1).ones ≡ k + 1
one_next s k e h =
    split (ltb k 5) (λ f. rw (e, f) refl)
    (λ f. let five : k ≡ 5 = omega (arith, ltb-false k 5 f) in rw (e, five) refl)

ones_next : (n : ℕ) (s : State) (k : ℕ) → s.ones ≡ k → k + n ≤ 6 → (foldl next s (replicate n 1)).ones ≡ k + n
ones_next zero s k e h = e ∙ sym (add-zero k)
ones_next (suc n) s k e h =
    let f : k + 1 + n ≡ k + suc n = omega arith in
    ones_next n (next s 1) (k + 1) (one_next s k e (omega arith)) (omega arith) ∙ f

last_next : (s : State) → s.ones ≡ 6 → next s 0 ≡ opened
last_next s e = rw e refl

flag_next : (s : State) → foldl next s flag ≡ opened
flag_next s = last_next (foldl next (next s 0) (replicate 6 1)) (ones_next 6 (next s 0) 0 (zero_next s) (lit≤ tt))

-- bits that end in a flag
pub flag_last : (s : State) (bits : List ℕ) → foldl next s (bits ++ flag) ≡ opened
flag_last s bits = foldl-append next s bits flag ∙ flag_next (foldl next s bits)

through : (bits rest : List ℕ) → take (length bits + 8) (bits ++ (flag ++ rest)) ≡ bits ++ flag
through bits rest = take-append-add bits (flag ++ rest) 8

-- A FLAG LEAVES EVERY RECEIVER WITH A FRAME JUST OPENED, whatever came before it and whatever was answered on the way:
-- when calls have consumed the bits through a flag, the receiver is the one in which a frame was just opened.
pub flag_opens : (n : ℕ) (s : State) (bits rest : List ℕ) → (calls n s (bits ++ (flag ++ rest))).rest ≡ rest
    → (calls n s (bits ++ (flag ++ rest))).state ≡ opened
flag_opens n s bits rest e =
    let m : Consumed n s (bits ++ (flag ++ rest)) = calls_consumed n s (bits ++ (flag ++ rest)) in
    let l : length (bits ++ (flag ++ rest)) ≡ length bits + (8 + length rest) = simp length-append in
    let left : length (bits ++ (flag ++ rest)) - m.count ≡ length rest = sym (length-drop m.count (bits ++ (flag ++ rest))) ∙ ap length (sym m.rest ∙ e) in
    let c : m.count ≡ length bits + 8 = omega arith in
    m.state ∙ ap (λ (k : ℕ). foldl next s (take k (bits ++ (flag ++ rest)))) c ∙ ap (foldl next s) (through bits rest) ∙ flag_last s bits

-- and a call that comes through a flag goes on from there, answered or not
pub flag_read : (s : State) (bits rest : List ℕ) → (reading s (bits ++ flag)).consumed ≡ length bits + 8
    → reading s (bits ++ (flag ++ rest)) ≡ after (reading s (bits ++ flag)).answer opened (length bits + 8) rest
flag_read s bits rest e =
    let l : length (bits ++ flag) ≤ length bits + 8 = rw (length-append bits flag) (omega arith) in
    let t : take (reading s (bits ++ flag)).consumed (bits ++ flag) ≡ bits ++ flag =
    ap (λ (k : ℕ). take k (bits ++ flag)) e ∙ take_all (length bits + 8) (bits ++ flag) l in
    let o : (reading s (bits ++ flag)).state ≡ opened = call_state s (bits ++ flag) ∙ ap (foldl next s) t ∙ flag_last s bits in
    ap (reading s) (sym (append_assoc bits flag rest)) ∙ read_split s (bits ++ flag) rest
    ∙ ap₂ (λ (st : State) (k : ℕ). after (reading s (bits ++ flag)).answer st k rest) o e
