-- Calls of `receive` over its contract: one that is not refused, and several over one buffer.
use mathlib.Core.Path.{◌≡◌, refl, sym, ap, ap₂, ◌∙◌}
use mathlib.Core.Bool.{true}
use mathlib.Core.List.{List, [], ◌∷◌, ◌++◌}
use Prim.Native.Nat.{ℕ, zero, suc, ◌+◌, ◌*◌, ◌-◌, ◌≤◌}
use native.Mathlib.Omega.{arith}
use borrow.Author.Tests.{le-leb}
use lib.ListN.{length, take, drop, length-drop, drop_of_length-le}
use lib.Seq.{drop-drop, take_at}
use Rattle.numbers.specs.Numbers as number
use Rattle.parts.specs.Parts.{put}
use Rattle.parts.proofs.Laws.{put_none, length_put}
use Rattle.wire.specs.Bits.{wire}
use Rattle.receiver.specs.declared.Receiver.{Receiver}
use Rattle.receiver.specs.Receiver.{State, view, in_range}
use Rattle.receiver.specs.Receive.{Answer, Reading, reading, read_from, received, output_after}
use Rattle.wire.proofs.Bits.{AreBits, bits_wire, bits_drop, length_wire}
use Rattle.promises.specs.Calls.{Accepted, Gives, Sized, told, receives}
use Rattle.promises.proofs.Steps.{bits_front}
use Rattle.promises.proofs.Readings.{silent, silent_consumed, reading_sized}
use Rattle.promises.proofs.Calls.{calls, call_most, calls_consume}
use Rattle.promises.proofs.States.{Held, held_reading, view_held, view_image, image_in_range, image_size}

-- AN ACCEPTED CALL reads the bits of its input from its start bit on, from the state that its receiver stands for.
pub accepted : {rx : Receiver} {input output : List ℕ} {start : ℕ} → Accepted rx input start output
    → Gives rx input start output (read_from rx input start)
unfolding received output_after
accepted a =
    record { result = simp (a.range, le-leb, a.short, a.inside, a.room); bytes = simp (a.range, le-leb, a.short, a.inside, a.room) }

-- the same, where the state and what it reads are known
pub reads : {rx : Receiver} {input output : List ℕ} {start : ℕ} → Accepted rx input start output → (s : State) (bits : List ℕ) (r : Reading)
    → view rx ≡ s → drop start (wire input) ≡ bits → reading s bits ≡ r → Gives rx input start output r
reads {rx} {input} {output} {start} a s bits r v b e =
    let g : Gives rx input start output (read_from rx input start) = accepted a in
    let q : read_from rx input start ≡ r = ap₂ reading v b ∙ e in
    rw q at g

-- the bits in front of others on a cable are bits
pub front_bits : (input : List ℕ) (start : ℕ) (p q : List ℕ) → drop start (wire input) ≡ p ++ q → AreBits p
front_bits input start p q e = bits_front p q (rw e at (bits_drop start (bits_wire input)))

module _ {rx : Receiver} {input output : List ℕ} {start : ℕ} (a : Accepted rx input start output) where
  pub returned_held : Held (read_from rx input start).state
  returned_held = held_reading (bits_drop start (bits_wire input)) (view rx) (view_held rx a.range a.size)

  -- EVERY RECEIVER THAT COMES BACK stands for the state that the reading left, and is in range;
  pub returned_view : view (received rx input start output).rx ≡ (read_from rx input start).state
  returned_view = rw (accepted a).result (view_image returned_held)

  pub returned_in_range : in_range (received rx input start output).rx ≡ true
  returned_in_range = rw (accepted a).result (image_in_range returned_held)

  -- the reading can go on from the bit after those consumed: the next call, with any output of 16 bytes, is not refused,
  pub accepted_again : (output' : List ℕ) → 16 ≤ length output'
      → Accepted (received rx input start output).rx input (start + (received rx input start output).consumed) output'
  accepted_again output' room =
      let most : (read_from rx input start).consumed ≤ 8 * length input - start =
      rw (length-drop start (wire input), length_wire input) at (call_most (view rx) (drop start (wire input))) in
      let inside : start ≤ 8 * length input = a.inside in
      record {
        range = returned_in_range;
        size = rw (accepted a).result (image_size returned_held);
        short = a.short;
        inside = rw (accepted a).result (omega arith);
        room = room;
      }

  -- and it reads the bits that follow, from the state left.
  bits_left : drop (start + (received rx input start output).consumed) (wire input) ≡ drop (read_from rx input start).consumed (drop start (wire input))
  bits_left = rw (accepted a).result (sym (drop-drop (read_from rx input start).consumed start (wire input)))

  pub next_call : read_from (received rx input start output).rx input (start + (received rx input start output).consumed)
      ≡ reading (read_from rx input start).state (drop (read_from rx input start).consumed (drop start (wire input)))
  next_call = ap₂ reading returned_view bits_left

  -- the answer told is the reading's
  pub told_answer : told (received rx input start output) (output_after rx input start output) ≡ (read_from rx input start).answer
  unfolding put
  told_answer =
      let body = (read_from rx input start).answer.body in
      let b : take (length body) (put 0 body output) ≡ body = take_at body (drop (0 + length body) output) (length body) refl in
      rw ((accepted a).result, (accepted a).bytes) (ap (λ (x : List ℕ). record { number = (read_from rx input start).answer.number; body = x }) b)

  -- A BODY has 2 to 16 bytes and comes with 0 alone; the output's length stays.
  pub body_size : Sized (told (received rx input start output) (output_after rx input start output))
  body_size = rw told_answer (reading_sized (view rx) (drop start (wire input)))

  pub output_length : length (output_after rx input start output) ≡ length output
  output_length =
      let most : length (read_from rx input start).answer.body ≤ 16 = (reading_sized (view rx) (drop start (wire input))).most in
      let room : 16 ≤ length output = a.room in
      ap length (accepted a).bytes ∙ length_put 0 (read_from rx input start).answer.body output (omega arith)

  -- 17 HAS CONSUMED ALL BITS,
  pub silent_bits : (received rx input start output).number ≡ number.no_frame → (received rx input start output).consumed ≡ 8 * length input - start
  silent_bits h =
      let n : (read_from rx input start).answer.number ≡ number.no_frame = rw (accepted a).result at h in
      rw (accepted a).result
      (silent_consumed (view rx) (drop start (wire input)) n ∙ length-drop start (wire input) ∙ ap (λ (l : ℕ). l - start) (length_wire input))

  -- and leaves the output as it was.
  pub silent_output : (received rx input start output).number ≡ number.no_frame → output_after rx input start output ≡ output
  silent_output h =
      let n : (read_from rx input start).answer.number ≡ number.no_frame = rw (accepted a).result at h in
      (accepted a).bytes ∙ rw (silent (view rx) (drop start (wire input)) n) (sym (put_none 0 output))

-- SEVERAL CALLS over one buffer are the reading's calls over its bits, and none of them is refused.
pub record Went (n : ℕ) (rx : Receiver) (input : List ℕ) (start : ℕ) (output : List ℕ) : Type 0 where
  pub accepts : Accepted (receives n rx input start output).rx input (receives n rx input start output).start (receives n rx input start output).output
  pub state : view (receives n rx input start output).rx ≡ (calls n (view rx) (drop start (wire input))).state
  pub answers : (receives n rx input start output).answers ≡ (calls n (view rx) (drop start (wire input))).answers
  pub rest : drop (receives n rx input start output).start (wire input) ≡ (calls n (view rx) (drop start (wire input))).rest

pub went : (n : ℕ) {rx : Receiver} {input output : List ℕ} {start : ℕ} → Accepted rx input start output → Went n rx input start output
unfolding receives calls
went zero a = record { accepts = a; state = refl; answers = refl; rest = refl }
went (suc n) {rx} {input} {output} {start} a =
    let room : 16 ≤ length (output_after rx input start output) = rw (output_length a) a.room in
    let m : Went n (received rx input start output).rx input (start + (received rx input start output).consumed) (output_after rx input start output) =
    went n (accepted_again a (output_after rx input start output) room) in
    record {
      accepts = m.accepts;
      state = m.state ∙ ap₂ (λ (s : State) (l : List ℕ). (calls n s l).state) (returned_view a) (bits_left a);
      answers =
          ap₂ (λ (x : Answer) (l : List Answer). x ∷ l) (told_answer a)
          (m.answers ∙ ap₂ (λ (s : State) (l : List ℕ). (calls n s l).answers) (returned_view a) (bits_left a));
      rest = m.rest ∙ ap₂ (λ (s : State) (l : List ℕ). (calls n s l).rest) (returned_view a) (bits_left a);
    }

-- as many calls as there are bits come to the end of the buffer
pub went_through : (n : ℕ) {rx : Receiver} {input output : List ℕ} {start : ℕ} → Accepted rx input start output
    → 8 * length input - start ≤ n → (receives n rx input start output).start ≡ 8 * length input
went_through n {rx} {input} {output} {start} a h =
    let m : Went n rx input start output = went n a in
    let inside : (receives n rx input start output).start ≤ 8 * length input = m.accepts.inside in
    let few : length (drop start (wire input)) ≤ n = rw (length-drop start (wire input), length_wire input) h in
    let none_left : drop (receives n rx input start output).start (wire input) ≡ [] =
    m.rest ∙ calls_consume n (view rx) (drop start (wire input)) few in
    let left : 8 * length input - (receives n rx input start output).start ≡ 0 =
    rw (length-drop (receives n rx input start output).start (wire input), length_wire input) at (ap length none_left) in
    omega arith

pub at_end : (input : List ℕ) (i : ℕ) → i ≡ 8 * length input → drop i (wire input) ≡ []
at_end input i e = let l : length (wire input) ≤ i = rw length_wire (omega arith) in drop_of_length-le (wire input) l
