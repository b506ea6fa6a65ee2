-- A BATCH OF PIN SAMPLES: document 02's sentences of request 2026-03, a theorem each. That a refused one changes nothing is `batch_unchanged`
-- (`Refused`) and `batch_keeps` (`ExportsRefused`). Assumes nothing.
use Prim.Native.Nat.{ℕ, suc, ◌+◌, ◌*◌, ◌≤◌, ◌<◌, suc-le-suc}
use mathlib.Core.Path.{◌≡◌, refl, sym, ap, subst, ◌∙◌}
use mathlib.Core.Bool.{Bool, true, false, ◌||◌, cond, true≢false}
use mathlib.Core.List.{List, [], ◌∷◌, ◌++◌, foldl, flatten, map}
use native.Mathlib.Omega.{arith}
use lib.Dec.{eqb, ltb}
use lib.ListN.{length, drop, get_or, replicate, length-append}
use lib.Seq.{take_at, drop_at}
use borrow.Author.Tests.{ne_eqb, lt-ltb, le-ltb}
use Rattle.bits.proofs.Tests.{either}
use Rattle.numbers.specs.Numbers as number
use Rattle.parts.specs.Parts.{put}
use Rattle.parts.proofs.Laws.{AreBytes, put_none}
use Rattle.commands.specs.declared.channel.Channel.TheVariants.{Gpio}
use Rattle.channels.specs.Rows.{is_enabled}
use Rattle.packets.specs.Packets.{reply_body}
use Rattle.state.specs.State.{Adapter}
use Rattle.state.specs.Bytes.{state_bytes, link_of, state_in, is_state}
use Rattle.state.proofs.Good.{Good}
use Rattle.state.proofs.Spelling.{its_good, state_again, state_bytes_lem}
use Rattle.chip.specs.Answer.{Reaction, gives, front_length, response, laid}
use Rattle.chip.specs.Chip.{reaction, on_sample}
use Rattle.chip.proofs.Laws.{sample_good}
use Rattle.journal.specs.Layout.{well_formed}
use Rattle.journal.proofs.Ring.{Well, of_well, well_of}
use Rattle.adapter.specs.Answers.{Answer}
use Rattle.adapter.specs.Answers.{Passed}
use Rattle.adapter.specs.Refusals.{in_order}
use Rattle.adapter.specs.Calls.{Outcome, shown, recorded, called as single-called}
use Rattle.adapter.proofs.Laws.{recorded_well}
use Rattle.batch.specs.declared.Sample.{Sample}
use Rattle.batch.specs.Batch.{event_of, Course, outset, onward, one_by_one, lines_in, bare, answered, some_wrong, verdict, called, done}
use Rattle.batch.specs.Batch as batches
use Rattle.batch.proofs.Course.{Shape, quiet, interrupt, sample_shape, port_in}
use Rattle.batch.proofs.Wrong.{dark, wrong_one}
use Rattle.promises.specs.Runs.{Call, event, batch, Given, Calls, Run, left, is_refusal, batch_refused}
use Rattle.promises.specs.Runs.{Standing, keeps_sample, keeps, due_state, due_frames, due_batch, Demand3}
use Rattle.promises.specs.Batches.{body_of, singly, by_single_calls, bodies_in, firing_in}
use Rattle.promises.proofs.Refused.{batch_answer}
use Rattle.promises.proofs.Cases.{BatchPassing, neither, batch_cases, batch_passing}
use Rattle.promises.proofs.Runs.{both_right, is_done}
use Rattle.promises.proofs.Samples.{course, adapter_after, journal_after, along, one_along, Ten, ten_due, ten_along, bodies_back, flat_length}
use Rattle.promises.proofs.Samples.{good_after, well_after, port_after, due_append, its_frames, its_sum, lines_due}

-- ---- "State, frames and journal must equal the samples given one by one"

-- the body of a single call is the frame that its sample sends
body_is : (port : ℕ) (r : Reaction) → Shape port r → body_of (shown (response r)) (laid r.frames (replicate 16 0)) ≡ r.frames
unfolding put
body_is port r (quiet b n z q) = rw (ne_eqb n 0 z) refl
body_is port r (interrupt b control trn ch err len d q) =
    ap (λ (l : List ℕ). l ∷ []) (take_at (reply_body control trn ch err len d) (drop (0 + 10) (replicate 16 0)) 10 refl)

single_is : (a : Adapter) (j : List ℕ) (bodies : List (List ℕ)) (x : Sample) → Good a → Well j → ltb 2 x.kind ≡ false
    → singly (course a j bodies) x ≡ onward (course a j bodies) x
unfolding singly
single_is a j bodies x g w k =
    let r = reaction a (event_of x) in
    let y = is_done a g j w (event_of x) (replicate 16 0) (simp k) in
    ap (λ (c : Outcome). record { state = c.state; journal = c.journal; bodies = bodies ++ body_of c.answer c.output }) y
    ∙ ap (λ (l : List (List ℕ)). course r.adapter (recorded (state_bytes a) (event_of x) j) (bodies ++ l))
    (body_is a.link.port r (sample_shape a x.levels x.kind))
    ∙ sym (one_along a j bodies x g)

singles_are : (list : List Sample) (a : Adapter) (j : List ℕ) (bodies : List (List ℕ)) → Good a → Well j → some_wrong list ≡ false
    → foldl singly (course a j bodies) list ≡ foldl onward (course a j bodies) list
unfolding some_wrong
singles_are [] a j bodies g w k = refl
singles_are (x ∷ list) a j bodies g w k =
    let n = neither (ltb 2 x.kind) (some_wrong list) k in
    let r = reaction a (event_of x) in
    let next = single_is a j bodies x g w n.0 ∙ one_along a j bodies x g in
    ap (λ (c : Course). foldl singly c list) next
    ∙ singles_are list r.adapter _ (bodies ++ r.frames) (sample_good a x.levels x.kind g) (recorded_well (state_bytes a) (event_of x) j w) n.1
    ∙ sym (ap (λ (c : Course). foldl onward c list) (one_along a j bodies x g))

either_way : (t : Bool) → (t || true) ≡ true
either_way true = refl
either_way false = refl

-- parts of a list have right kinds
wrong_parts : (xs ys : List Sample) → some_wrong (xs ++ ys) ≡ false → (some_wrong xs ≡ false) × (some_wrong ys ≡ false)
unfolding some_wrong
wrong_parts [] ys k = (refl, k)
wrong_parts (x ∷ xs) ys k =
    let n = neither (ltb 2 x.kind) (some_wrong (xs ++ ys)) k in
    let m = wrong_parts xs ys n.1 in (rw n.0 m.0, m.1)

kind_first : (x : Sample) (list : List Sample) → some_wrong (x ∷ list) ≡ false → ltb 2 x.kind ≡ false
unfolding some_wrong
kind_first x list k = (neither (ltb 2 x.kind) (some_wrong list) k).0

-- an answer to some bodies
some_sent : (port : ℕ) (xs : List (List ℕ)) (b : List ℕ) (ys : List (List ℕ))
    → ((answered port (xs ++ (b ∷ ys))).port ≡ port) × ((answered port (xs ++ (b ∷ ys))).length ≡ 10)
some_sent port xs b ys =
    let n : length (xs ++ (b ∷ ys)) ≡ 0 → ⊥ = λ z. omega (arith, z, length-append xs (b ∷ ys)) in
    rw (ne_eqb (length (xs ++ (b ∷ ys))) 0 n) (refl, refl)

by_frames : (port : ℕ) (bodies : List (List ℕ)) (none : Bool) → eqb (length bodies) 0 ≡ none
    → (answered port bodies).number ≡ cond (eqb (answered port bodies).frames 0) 17 0
by_frames port bodies true e = rw e refl
by_frames port bodies false e = rw (e, e) refl

module _ (s j : List ℕ) (list : List Sample) (o : List ℕ) where
  -- a batch that is not refused
  passed : is_refusal (called s j list o).answer.number ≡ false → verdict s j list o ≡ Passed
  passed =
      batch_cases s j list o (λ x. is_refusal x.answer.number ≡ false → verdict s j list o ≡ Passed) (λ n r h. absurd (true≢false (sym r ∙ h))) (λ v h. v)

  was_done : verdict s j list o ≡ Passed → called s j list o ≡ done (link_of s).port (one_by_one s j list) o
  unfolding called
  was_done v = rw v refl

  module _ (bytes : AreBytes s) (h : is_refusal (called s j list o).answer.number ≡ false) where
    its : BatchPassing s j list o
    its = batch_passing s j list o (passed h)

    abbrev a : Adapter
    a = state_in s

    is_good : Good a
    is_good = its_good s its.state bytes

    from_a : outset s j ≡ course a j []
    from_a = ap (λ (l : List ℕ). outset l j) (sym (state_again s its.state))

    by_single : by_single_calls s j list ≡ one_by_one s j list
    by_single =
        ap (λ (c : Course). foldl singly c list) from_a ∙ singles_are list a j [] is_good (of_well j its.formed) its.kinds
        ∙ sym (ap (λ (c : Course). foldl onward c list) from_a)

    -- THE SAMPLES GIVEN ONE BY ONE: from every pair in range, state and journal are those that the single calls leave, the bodies theirs, one behind
    -- the other from the output's front on, and no other byte of the output changes.
    pub one_by_one_lem : called s j list o ≡ done (link_of s).port (by_single_calls s j list) o
    one_by_one_lem = was_done (passed h) ∙ ap (λ (c : Course). done (link_of s).port c o) (sym by_single)

    -- A batch that is not refused leaves a state and a journal that no call refuses with 6 or 4.
    pub leaves_a_pair : (is_state (called s j list o).state ≡ true) × (well_formed (called s j list o).journal ≡ true)
    leaves_a_pair =
        rw (was_done (passed h), from_a, along list a j [] is_good)
        (state_bytes_lem (adapter_after a list) (good_after list a is_good), well_of (well_after list a j (of_well j its.formed)))

    -- THE PORT AND THE LENGTH are those of every single call of its samples that sends a frame.
    module _ (before : List Sample) (x : Sample) (after : List Sample) (parts : list ≡ before ++ (x ∷ after)) where
      abbrev then : Adapter
      then = adapter_after a before

      abbrev r : Reaction
      r = reaction then (event_of x)

      kinds : (some_wrong before ≡ false) × (some_wrong (x ∷ after) ≡ false)
      kinds = wrong_parts before (x ∷ after) (sym (ap some_wrong parts) ∙ its.kinds)

      reached : by_single_calls s j before ≡ course then (journal_after a j before) (due_frames a before)
      reached =
          ap (λ (c : Course). foldl singly c before) from_a
          ∙ singles_are before a j [] is_good (of_well j its.formed) kinds.0 ∙ along before a j [] is_good

      single : (single-called (by_single_calls s j before).state (by_single_calls s j before).journal (event_of x) (replicate 16 0)).answer ≡ shown (response r)
      single =
          ap (λ (c : Course). (single-called c.state c.journal (event_of x) (replicate 16 0)).answer) reached
          ∙ ap (λ (c : Outcome). c.answer)
          (is_done then (good_after before a is_good) (journal_after a j before) (well_after before a j (of_well j its.formed)) (event_of x) (replicate 16 0)
          (simp (kind_first x after kinds.1)))

      batch_bodies : (one_by_one s j list).bodies ≡ due_frames a before ++ (r.frames ++ due_frames r.adapter after)
      batch_bodies =
          ap (λ (c : Course). (foldl onward c list).bodies) from_a ∙ ap (λ (c : Course). c.bodies) (along list a j [] is_good)
          ∙ ap (due_frames a) parts ∙ due_append before (x ∷ after) a

      by_shape : (q : Reaction) → Shape a.link.port q → q.number ≡ 0
          → let b = answered (link_of s).port (due_frames a before ++ (q.frames ++ due_frames r.adapter after)) in
          (b.port ≡ q.port) × (b.length ≡ front_length q.frames)
      by_shape q (quiet b n z e) zero = absurd (z zero)
      by_shape q (interrupt b control trn ch err len d e) zero =
          let sent = some_sent (link_of s).port (due_frames a before) (reply_body control trn ch err len d) (due_frames r.adapter after) in
          (sent.0 ∙ sym (port_in s), sent.1)

      pub of_single_calls : let y = (single-called (by_single_calls s j before).state (by_single_calls s j before).journal (event_of x) (replicate 16 0)).answer in
          y.number ≡ 0 → ((called s j list o).answer.port ≡ y.port) × ((called s j list o).answer.length ≡ y.length)
      of_single_calls zero =
          let sent : r.number ≡ 0 = sym (ap (λ (y : Answer). y.number) single) ∙ zero in
          let shape = subst (λ (k : ℕ). Shape k r) (port_after before a) (sample_shape then x.levels x.kind) in
          rw (was_done (passed h), single, batch_bodies) (by_shape r shape sent)

    ten : Ten (one_by_one s j list).bodies
    ten = ten_along list (outset s j) tt

    -- TEN BYTES APART: the n-th body of the output is what the n-th single call sent that sent one.
    pub ten_apart : bodies_in (called s j list o).answer.frames (called s j list o).output ≡ (by_single_calls s j list).bodies
    ten_apart =
        rw (was_done (passed h), by_single, its_frames (link_of s).port (one_by_one s j list).bodies) (bodies_back (one_by_one s j list).bodies o ten)

    -- "THE SUM OF FIRING LINES OVER THE INTERRUPTS"
    pub sum_of_firing : (called s j list o).answer.sum ≡ firing_in a list
    sum_of_firing =
        ap (λ (x : batches.Outcome). x.answer.sum) (was_done (passed h)) ∙ its_sum (link_of s).port (one_by_one s j list).bodies
        ∙ ap (λ (c : Course). lines_in (foldl onward c list).bodies) from_a ∙ ap (λ (c : Course). lines_in c.bodies) (along list a j [] is_good)
        ∙ lines_due list a is_good

  -- "THE SUM IS TIED TO THE ONES IN THE INTS VALUES SENT": for every input, it is the sum of the ones in the data of the bodies in the output.
  pub sum_in_output : (called s j list o).answer.sum ≡ lines_in (bodies_in (called s j list o).answer.frames (called s j list o).output)
  unfolding bodies_in lines_in
  sum_in_output =
      batch_cases s j list o (λ x. x.answer.sum ≡ lines_in (bodies_in x.answer.frames x.output)) (λ n r. refl)
      (λ v.
      let bodies = (one_by_one s j list).bodies in
      its_sum (link_of s).port bodies
      ∙ sym (ap (λ (n : ℕ). lines_in (bodies_in n (put 0 (flatten bodies) o))) (its_frames (link_of s).port bodies)
      ∙ ap lines_in (bodies_back bodies o (ten_along list (outset s j) tt))))

  -- No byte of the output changes but those of the bodies, for every input.
  pub other_bytes : drop (10 * (called s j list o).answer.frames) (called s j list o).output ≡ drop (10 * (called s j list o).answer.frames) o
  unfolding put
  other_bytes =
      batch_cases s j list o (λ x. drop (10 * x.answer.frames) x.output ≡ drop (10 * x.answer.frames) o) (λ n r. refl)
      (λ v.
      let bodies = (one_by_one s j list).bodies in
      let long = flat_length bodies (ten_along list (outset s j) tt) in
      let end : 0 + length (flatten bodies) ≡ 10 * length bodies = omega (arith, long) in
      rw (its_frames (link_of s).port bodies)
      (drop_at (flatten bodies) (drop (0 + length (flatten bodies)) o) (10 * length bodies) long ∙ ap (λ (n : ℕ). drop n o) end))

  -- "The answer is 0 when a frame was sent, else 17": for every input that is not refused.
  pub zero_or_17 : is_refusal (called s j list o).answer.number ≡ false
      → (called s j list o).answer.number ≡ cond (eqb (called s j list o).answer.frames 0) 17 0
  zero_or_17 h =
      let x = was_done (passed h) in
      ap (λ (y : batches.Outcome). y.answer.number) x ∙ by_frames (link_of s).port (one_by_one s j list).bodies _ refl
      ∙ sym (ap (λ (y : batches.Outcome). cond (eqb y.answer.frames 0) 17 0) x)

-- ---- "over 256 samples, or any kind over 2, is 3 [..]; output under 2,560 bytes is 1, in its old place before 3"

-- some kind over 2
pub record WrongKind (list : List Sample) : Type 0 where
  pub place : ℕ
  pub within : place < length list
  pub kind : 2 < (get_or list place dark).kind

-- how a batch is refused, each number where none before it applies
pub record RefusedInOrder (s j : List ℕ) (list : List Sample) (o : List ℕ) (n : ℕ) : Type 0 where
  pub six : is_state s ≡ false → n ≡ 6
  pub four : is_state s ≡ true → well_formed j ≡ false → n ≡ 4
  pub one : is_state s ≡ true → well_formed j ≡ true → length o < 2560 → n ≡ 1
  pub three_many : is_state s ≡ true → well_formed j ≡ true → 2560 ≤ length o → 256 < length list → n ≡ 3
  pub three_kind : is_state s ≡ true → well_formed j ≡ true → 2560 ≤ length o → WrongKind list → n ≡ 3
  pub else : is_state s ≡ true → well_formed j ≡ true → 2560 ≤ length o → length list ≤ 256 → ((i : ℕ) → i < length list → (get_or list i dark).kind ≤ 2)
      → is_refusal n ≡ false

some_wrong_lem : (list : List Sample) → WrongKind list → some_wrong list ≡ true
some_wrong_lem list w = wrong_one list w.place w.within (lt-ltb 2 _ w.kind)

none_wrong : (list : List Sample) → ((i : ℕ) → i < length list → (get_or list i dark).kind ≤ 2) → some_wrong list ≡ false
unfolding some_wrong
none_wrong [] h = refl
none_wrong (x ∷ list) h =
    let rest : some_wrong list ≡ false = none_wrong list (λ i l. h (suc i) (suc-le-suc l)) in
    rw (le-ltb 2 x.kind (h 0 (omega arith)), rest) refl

-- THE REFUSALS, for every input, an empty list too: 6, 4, 1, 3 in this order, and no other.
pub refused_in_order : (s j : List ℕ) (list : List Sample) (o : List ℕ) → RefusedInOrder s j list o (called s j list o).answer.number
unfolding called in_order
refused_in_order s j list o =
    record {
      six = λ p. rw p refl;
      four = λ p q. rw (p, q) refl;
      one = λ p q l. rw (p, q, lt-ltb (length o) 2560 l) refl;
      three_many = λ p q l m. rw (p, q, le-ltb (length o) 2560 l, lt-ltb 256 (length list) m) refl;
      three_kind = λ p q l w.
          let k = some_wrong_lem list w in
          rw (p, q, le-ltb (length o) 2560 l, k, either_way (ltb 256 (length list))) refl;
      else = λ p q l m k.
          rw (p, q, le-ltb (length o) 2560 l, le-ltb 256 (length list) m, none_wrong list k)
          (batch_answer (λ n. is_refusal n ≡ false) refl refl (link_of s).port (one_by_one s j list).bodies);
    }

-- AN EMPTY LIST CHANGES NOTHING, refused or not.
pub empty_list : (s j o : List ℕ) → called s j [] o ≡ batches.outcome (bare (called s j [] o).answer.number) s j o
unfolding flatten
empty_list s j o =
    batch_cases s j [] o (λ x. x ≡ batches.outcome (bare x.answer.number) s j o) (λ n r. refl)
    (λ v. ap (batches.outcome (bare 17) s j) (sym (put_none 0 o)))

-- ---- "with GPIO disabled too"

-- a sample is dropped, and nothing of the state changes
drops : (a : Adapter) (x : Sample) → is_enabled a.registers Gpio ≡ false → reaction a (event_of x) ≡ gives a number.lines_disabled
unfolding reaction on_sample
drops a x e = rw e refl

all_dropped : (list : List Sample) (a : Adapter) → is_enabled a.registers Gpio ≡ false → (due_frames a list ≡ []) × (adapter_after a list ≡ a)
all_dropped [] a e = (refl, refl)
all_dropped (x ∷ list) a e = rw (drops a x e) (all_dropped list a e)

-- With GPIO disabled a batch gives 17 alone, and state and output stay; its samples are kept all the same (`up_by_samples`).
pub disabled : (s j : List ℕ) (list : List Sample) (o : List ℕ) → AreBytes s → is_refusal (called s j list o).answer.number ≡ false
    → is_enabled (state_in s).registers Gpio ≡ false → called s j list o ≡ batches.outcome (bare 17) s (journal_after (state_in s) j list) o
unfolding flatten
disabled s j list o bytes h e =
    let a = state_in s in
    let c = all_dropped list a e in
    let again = state_again s (its s j list o bytes h).state in
    was_done s j list o (passed s j list o h)
    ∙ ap (λ (k : Course). done (link_of s).port (foldl onward k list) o) (from_a s j list o bytes h)
    ∙ ap (λ (k : Course). done (link_of s).port k o) (along list a j [] (is_good s j list o bytes h))
    ∙ rw (c.0, c.1, again) (ap (batches.outcome (bare 17) s (journal_after a j list)) (sym (put_none 0 o)))

-- ---- in every run, for any calls that meet demand 3

-- the samples as single events, each with an output of 16 bytes
abbrev pub singles : List Sample → List Call
singles list = map (λ (x : Sample). event (event_of x) (replicate 16 0)) list

kept_singly : (list : List Sample) (s : Standing) → some_wrong list ≡ false → foldl keeps s (singles list) ≡ foldl keeps_sample s list
unfolding some_wrong
kept_singly [] s k = refl
kept_singly (x ∷ list) s k =
    let n = neither (ltb 2 x.kind) (some_wrong list) k in
    let one : keeps s (event (event_of x) (replicate 16 0)) ≡ keeps_sample s x = simp n.0 in
    ap (λ (t : Standing). foldl keeps t (singles list)) one ∙ kept_singly list (keeps_sample s x) n.1

-- A BATCH STANDS FOR ITS SAMPLES: in the text of demand 3 it is its samples given singly, so that state, kept number, replies and steps back after it
-- are theirs.
pub stands_for_samples : (s : Standing) (list : List Sample) (o : List ℕ) → batch_refused list o ≡ false → keeps s (batch list o) ≡ foldl keeps s (singles list)
stands_for_samples s list o h =
    let right = (both_right (ltb (length o) 2560) (batches.wrong_list list) false h).0 in
    let kinds = (neither (ltb 256 (length list)) (some_wrong list) right).1 in
    rw h (sym (kept_singly list s kinds))

-- The sum of every batch along a run is that of the ones in the data of the bodies in its output.
due_sum : (a : Adapter) (list : List Sample) (o : List ℕ) → (due_batch a list o).sum ≡ lines_in (bodies_in (due_batch a list o).frames (due_batch a list o).output)
unfolding bodies_in lines_in
due_sum a list o =
    let bodies = due_frames a list in
    either (λ (g : Given). g.sum ≡ lines_in (bodies_in g.frames g.output)) (batch_refused list o) _ _ refl
    (its_sum a.link.port bodies
    ∙ sym (ap (λ (n : ℕ). lines_in (bodies_in n (put 0 (flatten bodies) o))) (its_frames a.link.port bodies)
    ∙ ap lines_in (bodies_back bodies o (ten_due list a))))

pub sum_along : (c : Calls) → Demand3 c → (r : Run) (list : List Sample) (o : List ℕ) → let g = c.gives (left c r) (batch list o) in
    g.sum ≡ lines_in (bodies_in g.frames g.output)
sum_along c d r list o = rw (d.batch_reply r list o) (due_sum (due_state r) list o)
