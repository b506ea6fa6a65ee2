-- WHAT A CALL LEAVES, by the number that it gives: the column `leaves` of document 01's table, a theorem a row. Refusals leave all
-- unchanged (`Refused`). Assumes nothing.
use Prim.Native.Nat.{ℕ, ◌+◌, ◌≤◌, ◌<◌, min}
use mathlib.Core.Path.{◌≡◌, refl, sym, ap, subst, ◌∙◌}
use mathlib.Core.Bool.{true, false, false≢true, true≢false}
use mathlib.Core.List.{List, [], ◌∷◌, foldl}
use native.Mathlib.Omega.{arith}
use borrow.Author.Tests.{le-ltb}
use Rattle.bits.proofs.Tests.{and_right}
use lib.ListN.{length, take, drop, get_or}
use lib.Seq.{drop_at}
use lib.Dec.{leb}
use Rattle.numbers.specs.Numbers as number
use Rattle.parts.specs.Parts.{part, put}
use Rattle.parts.proofs.Laws.{AreBytes, put_none, length_put}
use Rattle.wire.specs.Bits.{wire}
use Rattle.receiver.specs.declared.Receiver.{Receiver}
use Rattle.receiver.specs.Received.{Received}
use Rattle.receiver.specs.Receiver as receiver
use Rattle.receiver.specs.Receive.{reading, read_from, received, output_after}
use Rattle.state.specs.State.{Adapter, power_on}
use Rattle.chip.specs.Answer.{Reaction, front_length, laid}
use Rattle.chip.specs.Event.{Event, frame, completion, sample, upset}
use Rattle.chip.proofs.EventFits.{EventFits}
use Rattle.chip.specs.Chip.{reaction, accepted_reset}
use Rattle.state.specs.Bytes.{state_size, state_bytes, state_in, is_state}
use Rattle.state.proofs.Good.{ranges, power_on_good}
use Rattle.state.proofs.Spelling.{its_length, its_range, its_good, state_again, state_bytes_lem}
use Rattle.chip.proofs.Laws.{good_stays, dropped_keeps, accepted_reset_lem, OneFrame, one_frame, sendable}
use Rattle.chip.proofs.Bodies.{one, none, Every, Framable}
use Rattle.journal.specs.Layout.{slots_of, kept_of, past, pushed, lowered}
use Rattle.journal.specs.Record.{before, restored, sound}
use Rattle.journal.proofs.Record.{id_restored}
use Rattle.journal.proofs.Ring.{Well, well_of, of_well, length_past}
use Rattle.adapter.specs.Answers.{Passed}
use Rattle.adapter.specs.Refusals.{verdict}
use Rattle.adapter.specs.Calls.{created, Outcome, recorded, done, called, kept_in, stepped, stepped_back}
use Rattle.adapter.proofs.Cases.{Passing, passing}
use Rattle.adapter.proofs.Laws.{called_done, unsent, recorded_well, recorded_kept, newest_restores, newest_sound, back_done}
use Rattle.promises.specs.Runs.{event, OfItsTypes, is_refusal}
use Rattle.promises.specs.Calls.{Accepted}
use Rattle.promises.proofs.Runs.{fits, any_bytes}
use Rattle.promises.proofs.Cases.{between_refusals, event_cases, back_cases, receive_cases}
use Rattle.promises.proofs.Steps.{split}
use Rattle.promises.proofs.Readings.{reading_sized}
use Rattle.promises.proofs.Calls.{call_state, call_least}
use Rattle.promises.proofs.Called.{accepted, returned_view}

-- n bytes, 2 to 16, at the front of an output changed, and no other
pub record FrontAlone (n : ℕ) (output after : List ℕ) : Type 0 where
  pub least : 2 ≤ n
  pub most : n ≤ 16
  pub size : length after ≡ length output
  pub rest : drop n after ≡ drop n output

front_alone : (n : ℕ) (body output : List ℕ) → length body ≡ n → 2 ≤ n → n ≤ 16 → 16 ≤ length output → FrontAlone n output (put 0 body output)
unfolding put
front_alone n body output l least most room =
    let e : 0 + length body ≡ n = omega arith in
    record {
      least = least;
      most = most;
      size = length_put 0 body output (omega arith);
      rest = drop_at body (drop (0 + length body) output) n l ∙ ap (λ (k : ℕ). drop k output) e;
    }

-- ---- the receiver

module _ (rx : Receiver) (input : List ℕ) (start : ℕ) (output : List ℕ) where
  -- Every number but 0 leaves every output byte.
  pub receiver_other : ((received rx input start output).number ≡ number.has_frame → ⊥) → output_after rx input start output ≡ output
  receiver_other =
      receive_cases rx input start output (λ x o. (x.number ≡ number.has_frame → ⊥) → o ≡ output) (λ n r h. refl)
      (λ r i s o h. rw ((reading_sized (receiver.view rx) (drop start (wire input))).other h) (sym (put_none 0 output)))

  -- 0: A BODY AT THE FRONT OF THE OUTPUT, as many bytes as the call gives, 2 to 16; no other byte changes.
  pub receiver_0 : (received rx input start output).number ≡ number.has_frame
      → FrontAlone (received rx input start output).length output (output_after rx input start output)
  receiver_0 =
      let sized = reading_sized (receiver.view rx) (drop start (wire input)) in
      receive_cases rx input start output (λ x o. x.number ≡ number.has_frame → FrontAlone x.length output o) (λ n r h. absurd (false≢true (rw h at r)))
      (λ r i s o h. front_alone _ (read_from rx input start).answer.body output refl (sized.least h) sized.most o)

  -- 17: OUTPUT UNCHANGED.
  pub receiver_17 : (received rx input start output).number ≡ number.no_frame → output_after rx input start output ≡ output
  receiver_17 h = receiver_other (λ z. omega arith)

  -- 21 TO 24: OUTPUT UNCHANGED,
  pub receiver_21_to_24 : 21 ≤ (received rx input start output).number → (received rx input start output).number ≤ 24
      → output_after rx input start output ≡ output
  receiver_21_to_24 h k = receiver_other (λ z. omega arith)

-- and the receiver moved on: it stands for what the bits consumed made of it, and there were some
pub record MovedOn (rx : Receiver) (input : List ℕ) (start : ℕ) (output : List ℕ) : Type 0 where
  pub some : 0 < (received rx input start output).consumed
  pub state : receiver.view (received rx input start output).rx
      ≡ foldl receiver.next (receiver.view rx) (take (received rx input start output).consumed (drop start (wire input)))

no_bits : (s : receiver.State) (bits : List ℕ) → length bits ≡ 0 → (reading s bits).answer.number ≡ number.no_frame
unfolding reading receiver.runs
no_bits s [] h = refl
no_bits s (b ∷ bits) h = absurd (omega arith)

pub receiver_moved_on : {rx : Receiver} {input output : List ℕ} {start : ℕ} → Accepted rx input start output
    → 21 ≤ (received rx input start output).number → MovedOn rx input start output
receiver_moved_on {rx} {input} {output} {start} a h =
    let k : (received rx input start output).consumed ≡ (read_from rx input start).consumed = ap (λ (r : Received). r.consumed) (accepted a).result in
    let n : (received rx input start output).number ≡ (read_from rx input start).answer.number = ap (λ (r : Received). r.number) (accepted a).result in
    let left : length (drop start (wire input)) ≡ 0 → ⊥ = λ z. omega (arith, no_bits (receiver.view rx) (drop start (wire input)) z) in
    record {
      some = rw k (call_least (receiver.view rx) (drop start (wire input)) (omega arith));
      state = returned_view a ∙ rw k (call_state (receiver.view rx) (drop start (wire input)));
    }

-- ---- an event

-- the one frame that goes with 0
laid_alone : (r : Reaction) (output : List ℕ) → OneFrame r → r.number ≡ number.has_frame → Every Framable r.frames → 16 ≤ length output
    → FrontAlone (front_length r.frames) output (laid r.frames output)
laid_alone r output (one b port body) h f room = front_alone (length body) body output refl f.0.least f.0.most room
laid_alone r output (none b n other) h f room = absurd (other h)

-- an accepted RESET is answered
reset_answered : (a : Adapter) (e : Event) → accepted_reset e ≡ true → (reaction a e).number ≡ number.has_frame
reset_answered a (frame port body) h = ap (λ (r : Reaction). r.number) (accepted_reset_lem a port body h)
reset_answered a (completion c) h = absurd (true≢false (sym h))
reset_answered a (sample levels kind) h = absurd (true≢false (sym h))
reset_answered a upset h = absurd (true≢false (sym h))

kept_number : (s : List ℕ) (e : Event) (j : List ℕ) → Well j → accepted_reset e ≡ false
    → kept_in (recorded s e j) ≡ record { number = number.no_frame; kept = min (slots_of j) ((kept_in j).kept + 1) }
unfolding kept_in
kept_number s e j w other = rw (well_of (recorded_well s e j w), well_of w, recorded_kept s e j w, other) refl

dropping : (n : ℕ) → 11 ≤ n → n ≤ 16 → is_refusal n ≡ false
dropping n l u = split (is_refusal n) (λ t. absurd (between_refusals n l (omega arith) t)) (λ t. t)

module _ (s : List ℕ) (j : List ℕ) (e : Event) (output : List ℕ) where
  -- an event that is not refused
  passed : is_refusal (called s j e output).answer.number ≡ false → verdict s j e output ≡ Passed
  passed =
      event_cases s j e output (λ x. is_refusal x.answer.number ≡ false → verdict s j e output ≡ Passed) (λ n r h. absurd (true≢false (sym r ∙ h)))
      (λ v h. v)

  passes : verdict s j e output ≡ Passed → Passing s j e output
  unfolding verdict
  passes v = passing s j e output (verdict s j e output) refl v

  of_types : Passing s j e output → OfItsTypes (event e output) → EventFits e
  of_types p types = fits e output types (rw (le-ltb (length output) 16 p.room, p.argument, p.body) refl)

  -- Every number but 0 leaves every output byte.
  pub event_other : ((called s j e output).answer.number ≡ number.has_frame → ⊥) → (called s j e output).output ≡ output
  unfolding done
  event_other =
      event_cases s j e output (λ x. (x.answer.number ≡ number.has_frame → ⊥) → x.output ≡ output) (λ n r h. refl)
      (λ v h. unsent (state_in s) e output h)

  -- 0: A BODY AT THE FRONT OF THE OUTPUT, as many bytes as the call gives, 2 to 16; no other byte changes.
  pub event_0 : OfItsTypes (event e output) → (called s j e output).answer.number ≡ number.has_frame
      → FrontAlone (called s j e output).answer.length output (called s j e output).output
  unfolding done
  event_0 types =
      event_cases s j e output (λ x. x.answer.number ≡ number.has_frame → FrontAlone x.answer.length output x.output)
      (λ n r h. absurd (false≢true (rw h at r)))
      (λ v h.
      let p = passes v in
      let f = (sendable (state_in s) e (ranges (state_in s) (its_range s p.state)).2 (of_types p types)).1 in
      laid_alone (reaction (state_in s) e) output (one_frame (state_in s) e) h f p.room)

  -- 11 TO 16: OUTPUT AND REGISTERS UNCHANGED, EVENT KEPT. The whole state stays, the event's record joins the journal, and the kept
  -- number goes up by one, to at most the journal's slots.
  pub record Dropped : Type 0 where
    pub state : (called s j e output).state ≡ s
    pub bytes : (called s j e output).output ≡ output
    pub entry : (called s j e output).journal ≡ pushed (before s e) j
    pub kept : kept_in (called s j e output).journal ≡ record { number = number.no_frame; kept = min (slots_of j) ((kept_in j).kept + 1) }

  pub event_11_to_16 : 11 ≤ (called s j e output).answer.number → (called s j e output).answer.number ≤ 16 → Dropped
  unfolding done
  event_11_to_16 l u =
      let v : verdict s j e output ≡ Passed = passed (dropping (called s j e output).answer.number l u) in
      let c : called s j e output ≡ done s j e output = called_done s j e output v in
      let n : (called s j e output).answer.number ≡ (reaction (state_in s) e).number = ap (λ (x : Outcome). x.answer.number) c in
      let least : 11 ≤ (reaction (state_in s) e).number = omega arith in
      let most : (reaction (state_in s) e).number ≤ 16 = omega arith in
      let other : accepted_reset e ≡ false =
      split (accepted_reset e) (λ t. absurd (omega (arith, reset_answered (state_in s) e t))) (λ t. t) in
      record {
        state = ap (λ (x : Outcome). x.state) c ∙ ap state_bytes (dropped_keeps (state_in s) e least most) ∙ state_again s (passes v).state;
        bytes = event_other (λ z. omega arith);
        entry = ap (λ (x : Outcome). x.journal) c ∙ rw other refl;
        kept = ap (λ (x : Outcome). kept_in x.journal) c ∙ kept_number s e j (of_well j (passes v).formed) other;
      }

  -- 17: OUTPUT UNCHANGED.
  pub event_17 : (called s j e output).answer.number ≡ number.no_frame → (called s j e output).output ≡ output
  event_17 h = event_other (λ z. omega arith)

  -- EVERY EVENT THAT IS NOT REFUSED LEAVES A STATE, one that no call refuses with 6.
  pub event_leaves_a_state : AreBytes s → OfItsTypes (event e output) → is_refusal (called s j e output).answer.number ≡ false
      → is_state (called s j e output).state ≡ true
  unfolding done
  event_leaves_a_state b types =
      event_cases s j e output (λ x. is_refusal x.answer.number ≡ false → is_state x.state ≡ true) (λ n r h. absurd (true≢false (sym r ∙ h)))
      (λ v h. state_bytes_lem _ (good_stays (state_in s) e (its_good s (passes v).state b) (of_types (passes v) types)))

-- A STEP BACK RIGHT AFTER AN EVENT THAT WAS KEPT gives the state back, byte by byte, whatever state and journal the event was handed.
module _ (s : List ℕ) (j : List ℕ) (e : Event) (output : List ℕ) where
  abbrev happened : Outcome
  happened = called s j e output

  pub straight_back : AreBytes s → OfItsTypes (event e output) → is_refusal happened.answer.number ≡ false → accepted_reset e ≡ false
      → stepped_back happened.state happened.journal ≡ stepped 17 s (lowered happened.journal)
  unfolding done
  straight_back b types h kept =
      let v = passed s j e output h in
      let p = passes s j e output v in
      let g = its_good s p.state b in
      let fit = of_types s j e output p types in
      let w = of_well j p.formed in
      let again = state_again s p.state in
      let a = state_in s in
      let after = state_bytes (reaction a e).adapter in
      let sounds : sound after (past (recorded s e j) 0) ≡ true =
      subst (λ (t : List ℕ). sound after (past (recorded t e j) 0) ≡ true) again (newest_sound a e j w kept g fit) in
      let back : restored after (past (recorded s e j) 0) ≡ s =
      subst (λ (t : List ℕ). restored after (past (recorded t e j) 0) ≡ t) again (newest_restores a e j w kept g fit) in
      let some : kept_of (recorded s e j) ≡ 0 → ⊥ =
      λ z. let f = w.first in let k : kept_of (recorded s e j) ≡ min (slots_of j) (kept_of j + 1) = recorded_kept s e j w ∙ simp kept in omega arith in
      rw (called_done s j e output v)
      (back_done after (recorded s e j) (state_bytes_lem _ (good_stays a e g fit)) (recorded_well s e j w) some sounds
      ∙ ap (λ (t : List ℕ). stepped 17 t (lowered (recorded s e j))) back)

-- So does a step back that is granted, and a creation.
pub back_leaves_a_state : (s j : List ℕ) → is_refusal (stepped_back s j).number ≡ false → is_state (stepped_back s j).state ≡ true
unfolding sound
back_leaves_a_state s j =
    back_cases s j (λ x. is_refusal x.number ≡ false → is_state x.state ≡ true) (λ n r h. absurd (true≢false (sym r ∙ h)))
    (λ _ _ t h. and_right (leb (get_or (past j 0) 0 0) 3) _ t)

-- WHATEVER PAIR A STEP BACK IS HANDED, it leaves the chip's ID: bytes 16 to 19.
pub back_leaves_the_id : (s j : List ℕ) → part 16 4 (stepped_back s j).state ≡ part 16 4 s
back_leaves_the_id s j =
    back_cases s j (λ x. part 16 4 x.state ≡ part 16 4 s) (λ _ _. refl)
    (λ h w _. id_restored s (past j 0) (its_length s h) (let l = length_past j w in omega arith))

pub create_leaves_a_state : (s : List ℕ) (id : ℕ) → length s ≡ state_size → id ≤ number.id_most → is_state (created s id).bytes ≡ true
create_leaves_a_state s id n h = rw (any_bytes s id n h) (state_bytes_lem (power_on id) (power_on_good id))
