-- The answers along bits, which are the same however the bits are cut.
use mathlib.Core.Path.{◌≡◌, refl, sym, ap, ap₂, ◌∙◌}
use mathlib.Core.Bool.{true, false}
use mathlib.Core.List.{List, [], ◌∷◌, ◌++◌, foldl, foldl-append, append_assoc, append-nil}
use Prim.Native.Nat.{ℕ, zero, suc, ◌+◌, ◌-◌, ◌≤◌}
use native.Mathlib.Nat.{zero-add}
use native.Mathlib.Omega.{arith}
use borrow.Author.Tests.{eqb-true, leb-true}
use lib.Dec.{eqb, leb}
use lib.ListN.{length, take, drop, length-take, length-drop}
use lib.Seq.{drop-drop, drop-nil, take_all}
use Rattle.numbers.specs.Numbers as number
use Rattle.receiver.specs.Receiver.{State, Stop, next, ended, decides, runs}
use Rattle.receiver.specs.Receive.{Answer, Reading, concluded, reading}
use Rattle.receiver.proofs.Machine.{runs_go, runs_stop, runs_end}
use Rattle.promises.specs.Wire.{after}
use Rattle.promises.specs.Calls.{spoken, verdict, heard}
use Rattle.bits.proofs.Tests.{and_right}
use Rattle.promises.proofs.Steps.{split, at_flag_answers}
use Rattle.promises.proofs.Calls.{calls, concluded_at, decided, concluded_consumed, Took, took, Consumed, calls_consumed}

-- ---- a bit at a time

pub heard_append : (s : State) (p q : List ℕ) → heard s (p ++ q) ≡ heard s p ++ heard (foldl next s p) q
unfolding heard
heard_append s [] q = refl
heard_append s (b ∷ p) q =
    split (decides s b) (λ d. rw d (ap (λ (l : List Answer). verdict s b ∷ l) (heard_append (next s b) p q)))
    (λ d. rw d (heard_append (next s b) p q))

-- ---- a reading gives the first of them

verdict_speaks : (s : State) (b : ℕ) → decides s b ≡ true → eqb (verdict s b).number number.no_frame ≡ false
verdict_speaks s b d =
    split (eqb b 0)
    (λ e.
    let t : leb 32 (ended s 0) ≡ true = and_right (eqb s.ones 6) (leb 32 (ended s 0)) (rw (eqb-true b 0 e) at d) in
    let h : 32 ≤ ended s 0 = leb-true 32 (ended s 0) t in
    let l : 32 ≤ length (take (ended s 0) s.content) = rw length-take (omega arith) in
    rw e (at_flag_answers (take (ended s 0) s.content) l))
    (λ e. rw e refl)

-- what a stop has heard, k bits on
abbrev Heard : State → List ℕ → Stop → ℕ → Type 0
Heard s bits p k = heard s bits ≡ spoken ((concluded p).answer ∷ []) ++ heard (concluded p).state (drop k bits)

heard_last : (s : State) (n b : ℕ) (bits : List ℕ) → decides s b ≡ true
    → Heard s (b ∷ bits) (record { state = s; used = n; hit = b + 1 }) 1
unfolding heard spoken
heard_last s n b bits d = rw (ap (λ (r : Reading). r.answer) (concluded_at s b n), decided s b n d, verdict_speaks s b d, d) refl

heard_go : (s : State) (b : ℕ) (bits : List ℕ) → decides s b ≡ false → heard s (b ∷ bits) ≡ heard (next s b) bits
unfolding heard
heard_go s b bits d = rw d refl

heard_first : (bits : List ℕ) (s : State) (n k : ℕ) → (concluded (runs s n bits)).consumed ≡ n + k → Heard s bits (runs s n bits) k
unfolding heard spoken
heard_first [] s n k e = rw (runs_end s n, drop-nil k) refl
heard_first (b ∷ bits) s n zero e =
    let m : Took s n (b ∷ bits) = took s n (b ∷ bits) in
    absurd (omega (arith, m.used, m.least (omega arith)))
heard_first (b ∷ bits) s n (suc k) e =
    split (decides s b)
    (λ d.
    let r : runs s n (b ∷ bits) ≡ record { state = s; used = n + 1; hit = b + 1 } = runs_stop s n b bits d in
    let u : n + 1 ≡ n + suc k =
    sym (concluded_consumed (record { state = s; used = n + 1; hit = b + 1 })) ∙ ap (λ (p : Stop). (concluded p).consumed) (sym r) ∙ e in
    let k0 : k ≡ 0 = omega arith in
    rw (r, k0) (heard_last s (n + 1) b bits d))
    (λ d.
    let r : runs s n (b ∷ bits) ≡ runs (next s b) (n + 1) bits = runs_go s n b bits d in
    let f : n + suc k ≡ n + 1 + k = omega arith in
    rw r (heard_go s b bits d ∙ heard_first bits (next s b) (n + 1) k (ap (λ (p : Stop). (concluded p).consumed) (sym r) ∙ e ∙ f)))

-- a reading gives the first, and the rest follow
read_heard : (s : State) (bits : List ℕ)
    → heard s bits ≡ spoken ((reading s bits).answer ∷ []) ++ heard (reading s bits).state (drop (reading s bits).consumed bits)
unfolding reading
read_heard s bits = heard_first bits s 0 (reading s bits).consumed (sym (zero-add (reading s bits).consumed))

-- what a reading says by `after`, the answers along the bits say, too
pub heard_after : (s : State) (bits : List ℕ) (a : Answer) (t : State) (n : ℕ) (rest : List ℕ) → reading s bits ≡ after a t n rest
    → drop n bits ≡ rest → heard s bits ≡ spoken (a ∷ []) ++ heard t rest
unfolding spoken
heard_after s bits a t n rest e d =
    let on : Reading → List Answer = λ r. spoken (r.answer ∷ []) ++ heard r.state (drop r.consumed bits) in
    split (eqb a.number number.no_frame)
    (λ f.
    let more : reading s bits ≡ record { answer = (reading t rest).answer; state = (reading t rest).state; consumed = n + (reading t rest).consumed } =
    e ∙ rw f refl in
    let k : drop (n + (reading t rest).consumed) bits ≡ drop (reading t rest).consumed rest =
    sym (drop-drop (reading t rest).consumed n bits) ∙ ap (drop (reading t rest).consumed) d in
    rw f
    (read_heard s bits ∙ ap on more
    ∙ ap (λ (l : List ℕ). spoken ((reading t rest).answer ∷ []) ++ heard (reading t rest).state l) k
    ∙ sym (read_heard t rest)))
    (λ f.
    let last : reading s bits ≡ record { answer = a; state = t; consumed = n } = e ∙ rw f refl in
    read_heard s bits ∙ ap on last ∙ ap (λ (l : List ℕ). spoken (a ∷ []) ++ heard t l) d)

spoken_append : (a b : List Answer) → spoken (a ++ b) ≡ spoken a ++ spoken b
unfolding spoken
spoken_append [] b = refl
spoken_append (x ∷ a) b =
    split (eqb x.number number.no_frame) (λ e. rw e (spoken_append a b))
    (λ e. rw e (ap (λ (l : List Answer). x ∷ l) (spoken_append a b)))

-- ---- calls give them all

calls_heard : (n : ℕ) (s : State) (bits : List ℕ)
    → heard s bits ≡ spoken (calls n s bits).answers ++ heard (calls n s bits).state (calls n s bits).rest
unfolding calls spoken
calls_heard zero s bits = refl
calls_heard (suc n) s bits =
    let a = (reading s bits).answer in
    let on = calls n (reading s bits).state (drop (reading s bits).consumed bits) in
    let left : List Answer = heard on.state on.rest in
    read_heard s bits ∙ ap (λ (l : List Answer). spoken (a ∷ []) ++ l) (calls_heard n (reading s bits).state (drop (reading s bits).consumed bits))
    ∙ sym (ap (λ (l : List Answer). l ++ left) (spoken_append (a ∷ []) on.answers) ∙ append_assoc (spoken (a ∷ [])) (spoken on.answers) left)

-- calls that have consumed all the bits
module _ (n : ℕ) (s : State) (bits : List ℕ) (all : (calls n s bits).rest ≡ []) where
  pub all_heard : spoken (calls n s bits).answers ≡ heard s bits
  unfolding heard
  all_heard =
      sym (append-nil (spoken (calls n s bits).answers))
      ∙ ap (λ (l : List ℕ). spoken (calls n s bits).answers ++ heard (calls n s bits).state l) (sym all)
      ∙ sym (calls_heard n s bits)

  pub all_state : (calls n s bits).state ≡ foldl next s bits
  all_state =
      let m : Consumed n s bits = calls_consumed n s bits in
      let left : length bits - m.count ≡ 0 = sym (length-drop m.count bits) ∙ ap length (sym m.rest ∙ all) in
      m.state ∙ ap (foldl next s) (take_all m.count bits (omega arith))

-- BITS CUT IN TWO: calls over the one part and then over the other give the answers and bodies of calls over the whole, in the same
-- order, and leave the same state.
module _ (n i j : ℕ) (s : State) (p q : List ℕ) (whole : (calls n s (p ++ q)).rest ≡ []) (first : (calls i s p).rest ≡ [])
    (second : (calls j (calls i s p).state q).rest ≡ []) where
  pub same_answers : spoken (calls n s (p ++ q)).answers
      ≡ spoken (calls i s p).answers ++ spoken (calls j (calls i s p).state q).answers
  same_answers =
      all_heard n s (p ++ q) whole ∙ heard_append s p q
      ∙ ap (λ (t : State). heard s p ++ heard t q) (sym (all_state i s p first))
      ∙ sym (ap₂ ◌++◌ (all_heard i s p first) (all_heard j (calls i s p).state q second))

  pub same_state : (calls n s (p ++ q)).state ≡ (calls j (calls i s p).state q).state
  same_state =
      all_state n s (p ++ q) whole ∙ foldl-append next s p q
      ∙ ap (λ (t : State). foldl next t q) (sym (all_state i s p first))
      ∙ sym (all_state j (calls i s p).state q second)
