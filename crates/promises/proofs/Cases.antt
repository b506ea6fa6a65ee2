-- EVERY CALL CASE BY CASE: it is refused by a number that says so, which leaves what was lent, or it is done. A law a call, for whatever is said of what
-- it gives and leaves. Assumes nothing.
use Prim.Native.Nat.{ℕ, ◌*◌, ◌≤◌}
use mathlib.Core.Path.{◌≡◌, refl}
use mathlib.Core.List.{List}
use mathlib.Core.Bool.{Bool, true, false, not, ◌&&◌, ◌||◌, true≢false, false≢true}
use mathlib.Core.Logic.{◌⊎◌, inl, inr}
use native.Mathlib.Omega.{arith}
use lib.ListN.{length}
use lib.Dec.{eqb, ltb, leb}
use borrow.Author.Tests.{eqb-true, leb-true, ltb-false, not-false}
use Rattle.numbers.specs.Numbers as number
use Rattle.bits.proofs.Tests.{and_left, and_right, or_second, cond_cases, either}
use Rattle.parts.specs.Parts.{put}
use Rattle.transmitter.specs.Transmit.{Sent}
use Rattle.transmitter.specs.Frame.{framed}
use Rattle.transmitter.specs.Transmit as transmit
use Rattle.receiver.specs.declared.Receiver.{Receiver}
use Rattle.receiver.specs.Received.{Received}
use Rattle.receiver.specs.Receiver.{in_range}
use Rattle.receiver.specs.Receive as receive
use Rattle.state.specs.State.{power_on}
use Rattle.state.specs.Bytes.{state_size, state_bytes, is_state}
use Rattle.chip.specs.Event.{Event}
use Rattle.journal.specs.Layout.{wrong_length, well_formed, is_small, kept_of, past, emptied, lowered, enlarged}
use Rattle.journal.specs.Record.{restored, sound}
use Rattle.adapter.specs.Answers.{Verdict}
use Rattle.adapter.specs.Answers.{Refused, Passed}
use Rattle.adapter.specs.Refusals.{wrong_argument, wrong_body, in_order, verdict, back_verdict}
use Rattle.adapter.specs.Calls.{Made, made, created, made_empty, Copied, copied, made_large, Outcome, outcome, done, judged, called, Stepped, stepped, judged_back, stepped_back}
use Rattle.adapter.specs.Answers.{plain}
use Rattle.adapter.proofs.Cases.{unrefused}
use Rattle.batch.specs.declared.Sample.{Sample}
use Rattle.batch.specs.Batch as batches
use Rattle.state.specs.Bytes.{link_of}
use Rattle.promises.specs.Runs.{is_refusal}
use Rattle.promises.proofs.Steps.{split}

-- the numbers of refusals are small, and none of the chip's
refusal_range : (n : ℕ) → is_refusal n ≡ true → (n ≤ 10) ⊎ ((31 ≤ n) × (n ≤ 35))
refusal_range n h =
    split (leb 1 n && leb n 10) (λ e. inl (leb-true n 10 (and_right (leb 1 n) (leb n 10) e)))
    (λ e. let k = above (or_second _ _ h e) in inr (omega arith, omega arith))
  where
    above : {a b : ℕ} → (leb a n && leb n b) ≡ true → (a ≤ n) × (n ≤ b)
    above {a} {b} f = (leb-true a n (and_left (leb a n) (leb n b) f), leb-true n b (and_right (leb a n) (leb n b) f))

pub refusal_most : (n : ℕ) → is_refusal n ≡ true → n ≤ 35
refusal_most n h = by (refusal_range n h)
  where
    by : (n ≤ 10) ⊎ ((31 ≤ n) × (n ≤ 35)) → n ≤ 35
    by (inl l) = omega arith
    by (inr l) = l.1

-- none of 11 to 30 is one
pub between_refusals : (n : ℕ) → 11 ≤ n → n ≤ 30 → is_refusal n ≡ true → ⊥
between_refusals n l u h = by (refusal_range n h)
  where
    by : (n ≤ 10) ⊎ ((31 ≤ n) × (n ≤ 35)) → ⊥
    by (inl m) = omega arith
    by (inr m) = omega arith

pub no_refusal : (n : ℕ) → (n ≡ 0) ⊎ ((11 ≤ n) × (n ≤ 17)) → is_refusal n ≡ true → ⊥
no_refusal n (inl z) h = false≢true (rw z at h)
no_refusal n (inr l) h = between_refusals n l.0 (omega arith) h

-- ---- the adapter

abbrev Refusing : Verdict → Type 0
Refusing (Refused n) = is_refusal n ≡ true
Refusing Passed = Unit

pub neither : (a b : Bool) → (a || b) ≡ false → (a ≡ false) × (b ≡ false)
neither true b h = absurd (true≢false h)
neither false b h = (refl, h)

-- what a batch has that is not refused
pub record BatchPassing (s j : List ℕ) (list : List Sample) (o : List ℕ) : Type 0 where
  pub state : is_state s ≡ true
  pub formed : well_formed j ≡ true
  pub room : 2560 ≤ length o
  pub few : length list ≤ 256
  pub kinds : batches.some_wrong list ≡ false

pub batch_passing : (s j : List ℕ) (list : List Sample) (o : List ℕ) → batches.verdict s j list o ≡ Passed → BatchPassing s j list o
batch_passing s j list o q =
    let p = unrefused (batches.verdict s j list o) (not (is_state s)) (not (well_formed j)) (ltb (length o) 2560) (batches.wrong_list list) false q refl in
    let n = neither (ltb 256 (length list)) (batches.some_wrong list) p.3 in
    record { state = not-false _ p.0; formed = not-false _ p.1; room = ltb-false _ _ p.2; few = ltb-false _ _ n.0; kinds = n.1 }

module _ (s j : List ℕ) where
  refusing : (e : Event) (o : List ℕ) → Refusing (verdict s j e o)
  unfolding verdict in_order
  refusing e o =
      either Refusing (not (is_state s)) _ _ refl
      (either Refusing (not (well_formed j)) _ _ refl
      (either Refusing (ltb (length o) 16) _ _ refl (either Refusing (wrong_argument e) _ _ refl (either Refusing (wrong_body e) _ _ refl tt))))

  pub event_cases : (e : Event) (o : List ℕ) (P : Outcome → Type 0) → ((n : ℕ) → is_refusal n ≡ true → P (outcome (plain n) s j o))
      → (verdict s j e o ≡ Passed → P (done s j e o)) → P (called s j e o)
  unfolding called
  event_cases e o P refused passed = by (verdict s j e o) refl (refusing e o)
    where
      by : (v : Verdict) → verdict s j e o ≡ v → Refusing v → P (judged v s j e o)
      by (Refused n) q r = refused n r
      by Passed q r = passed q

  batch_refusing : (list : List Sample) (o : List ℕ) → Refusing (batches.verdict s j list o)
  unfolding in_order
  batch_refusing list o =
      either Refusing (not (is_state s)) _ _ refl
      (either Refusing (not (well_formed j)) _ _ refl
      (either Refusing (ltb (length o) 2560) _ _ refl (either Refusing (batches.wrong_list list) _ _ refl tt)))

  pub batch_cases : (list : List Sample) (o : List ℕ) (P : batches.Outcome → Type 0)
      → ((n : ℕ) → is_refusal n ≡ true → P (batches.outcome (batches.bare n) s j o))
      → (batches.verdict s j list o ≡ Passed → P (batches.done (link_of s).port (batches.one_by_one s j list) o)) → P (batches.called s j list o)
  unfolding batches.called
  batch_cases list o P refused passed = by (batches.verdict s j list o) refl (batch_refusing list o)
    where
      by : (v : Verdict) → batches.verdict s j list o ≡ v → Refusing v → P (batches.judged v s j list o)
      by (Refused n) q r = refused n r
      by Passed q r = passed q

  pub back_cases : (P : Stepped → Type 0) → ((n : ℕ) → is_refusal n ≡ true → P (stepped n s j))
      → (is_state s ≡ true → well_formed j ≡ true → sound s (past j 0) ≡ true → P (stepped 17 (restored s (past j 0)) (lowered j))) → P (stepped_back s j)
  unfolding stepped_back back_verdict
  back_cases P refused granted =
      let Q : Verdict → Type 0 = λ v. P (judged_back v s j) in
      cond_cases Q (not (is_state s)) (λ _. refused 6 refl)
      (λ state. cond_cases Q (not (well_formed j)) (λ _. refused 4 refl)
      (λ formed. either Q (eqb (kept_of j) 0) _ _ (refused 5 refl)
      (cond_cases Q (not (sound s (past j 0))) (λ _. refused 4 refl) (λ t. granted (not-false _ state) (not-false _ formed) (not-false _ t)))))

pub empty_cases : (j : List ℕ) (P : Made → Type 0) → ((n : ℕ) → is_refusal n ≡ true → P (made n j)) → P (made 17 (emptied j)) → P (made_empty j)
unfolding made_empty
empty_cases j P refused done = either P (wrong_length j) _ _ (refused 4 refl) done

pub enlarge_cases : (j second : List ℕ) (P : Copied → Type 0) → ((n : ℕ) → is_refusal n ≡ true → P (copied n j second))
    → (is_small j ≡ true → length second ≡ 52224 → P (copied 17 j (enlarged j second))) → P (made_large j second)
unfolding made_large
enlarge_cases j second P refused done =
    cond_cases P (not (is_small j)) (λ _. refused 4 refl)
    (λ small. cond_cases P (not (eqb (length second) 52224)) (λ _. refused 1 refl)
    (λ size. done (not-false _ small) (eqb-true (length second) 52224 (not-false _ size))))

pub create_cases : (s : List ℕ) (id : ℕ) (P : Made → Type 0) → ((n : ℕ) → is_refusal n ≡ true → P (made n s))
    → (id ≤ 0xFFFFFF → P (made 17 (state_bytes (power_on id)))) → P (created s id)
unfolding created
create_cases s id P refused done =
    either P (not (eqb (length s) state_size)) _ _ (refused 6 refl)
    (cond_cases P (ltb 0xFFFFFF id) (λ _. refused 7 refl) (λ t. done (ltb-false 0xFFFFFF id t)))

-- ---- the link: the result, and the output's bytes

pub transmit_cases : (body output : List ℕ) (P : Sent → List ℕ → Type 0)
    → ((n : ℕ) → is_refusal n ≡ true → P (record { number = n; count = 0 }) output)
    → P (record { number = number.has_frame; count = length (framed body) }) (put 0 (framed body) output)
    → P (transmit.transmitted body output) (transmit.output_after body output)
unfolding transmit.transmitted transmit.output_after
transmit_cases body output P refused done =
    split (leb 2 (length body) && leb (length body) 16)
    (λ b. split (leb 24 (length output)) (λ o. rw (b, o) done) (λ o. rw (b, o) (refused 1 refl)))
    (λ b. rw b (refused 2 refl))

pub receive_cases : (rx : Receiver) (input : List ℕ) (start : ℕ) (output : List ℕ) (P : Received → List ℕ → Type 0)
    → ((n : ℕ) → is_refusal n ≡ true → P (record { rx = rx; number = n; consumed = 0; length = 0 }) output)
    → (in_range rx ≡ true → length input ≤ 65536 → start ≤ 8 * length input → 16 ≤ length output
    → P (receive.received_as (receive.read_from rx input start)) (put 0 (receive.read_from rx input start).answer.body output))
    → P (receive.received rx input start output) (receive.output_after rx input start output)
unfolding receive.received receive.output_after
receive_cases rx input start output P refused done =
    split (in_range rx)
    (λ r. split (leb (length input) 65536)
    (λ i. split (leb start (8 * length input))
    (λ s. split (leb 16 (length output))
    (λ o. rw (r, i, s, o) (done r (leb-true (length input) 65536 i) (leb-true start (8 * length input) s) (leb-true 16 (length output) o)))
    (λ o. rw (r, i, s, o) (refused 1 refl)))
    (λ s. rw (r, i, s) (refused 9 refl)))
    (λ i. rw (r, i) (refused 8 refl)))
    (λ r. rw r (refused 6 refl))
