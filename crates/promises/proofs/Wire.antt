-- THE WIRE: what `receive` makes of cable bits, in the standard's words, over its own contract.
-- `view rx` is the state that a receiver stands for: `opened` where a flag has just opened a frame, which is every receiver after a
-- flag (`flag_opens_received`), and `hunting` for a new one and after an abort. `after` says how a reading goes on.
use mathlib.Core.Path.{◌≡◌, refl, sym, ap, ap₂, ◌∙◌}
use mathlib.Core.List.{List, ◌∷◌, ◌++◌}
use Prim.Native.Nat.{ℕ, ◌+◌, ◌-◌, ◌≤◌}
use lib.ListN.{length, take, drop, get_or, replicate}
use lib.Seq.{drop-drop, drop-append-add}
use Rattle.numbers.specs.Numbers as number
use Rattle.wire.specs.Bits.{wire}
use Rattle.wire.specs.Frame.{flag}
use Rattle.receiver.specs.declared.Receiver.{Receiver}
use Rattle.receiver.specs.Receiver.{State, hunting, opened, view}
use Rattle.receiver.specs.Received.{Received}
use Rattle.receiver.specs.Receive.{Answer, bare, at_flag, reading, read_from, received}
use Rattle.wire.proofs.Bits.{bits_wire, bits_drop}
use Rattle.promises.specs.Wire.{absent, six_ones, seven_ones, destuff, at_abort, after, hunter, seen}
use Rattle.promises.specs.Calls.{Accepted, Gives, StillHunts, receives}
use Rattle.promises.proofs.Readings.{frame_unended, six_unended, frame_read, shared_zero, abort_read, StillHunting, hunts, first_flag, begun_flag}
use Rattle.promises.proofs.Calls.{calls, flag_opens, flag_read}
use Rattle.promises.proofs.States.{HuntedState, hunted_state, view_held}
use Rattle.promises.proofs.Called.{accepted, reads, front_bits, Went, went}

-- A FLAG LEAVES EVERY RECEIVER WITH A FRAME JUST OPENED, whatever came before it and whatever was answered on the way:
-- when calls have come to the bit after a flag, the receiver stands for `opened`.
pub flag_opens_received : {rx : Receiver} {input output : List ℕ} {start : ℕ} → Accepted rx input start output → (n : ℕ) (bits rest : List ℕ)
    → drop start (wire input) ≡ bits ++ (flag ++ rest) → (receives n rx input start output).start ≡ start + (length bits + 8)
    → view (receives n rx input start output).rx ≡ opened
flag_opens_received {rx} {input} {output} {start} a n bits rest e at =
    let m : Went n rx input start output = went n a in
    let past : drop (length bits + 8) (bits ++ (flag ++ rest)) ≡ rest = drop-append-add bits (flag ++ rest) 8 in
    let r : (calls n (view rx) (bits ++ (flag ++ rest))).rest ≡ rest =
    ap (λ (l : List ℕ). (calls n (view rx) l).rest) (sym e) ∙ sym m.rest ∙ ap (λ (i : ℕ). drop i (wire input)) at
    ∙ sym (drop-drop (length bits + 8) start (wire input)) ∙ ap (drop (length bits + 8)) e ∙ past in
    m.state ∙ ap (λ (l : List ℕ). (calls n (view rx) l).state) e ∙ flag_opens n (view rx) bits rest r

module _ {rx : Receiver} {input output : List ℕ} {start : ℕ} (a : Accepted rx input start output) where
  numbered : (read_from rx input start).answer ≡ bare number.no_frame → (received rx input start output).number ≡ number.no_frame
  numbered e = ap (λ (r : Received). r.number) (accepted a).result ∙ ap (λ (x : Answer). x.number) e

  -- A CALL THAT COMES THROUGH A FLAG, answered there or not, has a frame just opened and goes on from there.
  pub flag_passed : (bits rest : List ℕ) → drop start (wire input) ≡ bits ++ (flag ++ rest)
      → (reading (view rx) (bits ++ flag)).consumed ≡ length bits + 8
      → Gives rx input start output (after (reading (view rx) (bits ++ flag)).answer opened (length bits + 8) rest)
  flag_passed bits rest e h = reads a (view rx) (bits ++ (flag ++ rest)) _ refl e (flag_read (view rx) bits rest h)

  -- A FRAME. After a flag, any bits without six ones in a row and then a flag: the content is those bits destuffed, the answer is the
  -- one of document 01's list for that content, the bits are consumed through the flag's last, and this flag opens the next frame.
  pub frame_received : (raw rest : List ℕ) → view rx ≡ opened → drop start (wire input) ≡ raw ++ (flag ++ rest) → absent six_ones raw
      → Gives rx input start output (after (at_flag (destuff raw)) opened (length raw + 8) rest)
  frame_received raw rest v e h =
      reads a opened (raw ++ (flag ++ rest)) _ v e (frame_read (front_bits input start raw (flag ++ rest) e) rest h)

  -- THE BITS RUN OUT in a frame, with no six ones in a row or in six ones: 17.
  pub frame_unended_received : view rx ≡ opened → absent six_ones (drop start (wire input)) → (received rx input start output).number ≡ number.no_frame
  frame_unended_received v h = numbered (ap (λ (s : State). (reading s (drop start (wire input))).answer) v ∙ frame_unended (bits_drop start (bits_wire input)) h)

  pub six_unended_received : (raw : List ℕ) → view rx ≡ opened → drop start (wire input) ≡ raw ++ six_ones → absent six_ones raw
      → get_or raw (length raw - 1) 0 ≡ 0 → (received rx input start output).number ≡ number.no_frame
  six_unended_received raw v e h last =
      numbered (ap₂ (λ (s : State) (l : List ℕ). (reading s l).answer) v e ∙ six_unended (front_bits input start raw six_ones e) h last)

  -- TWO FLAGS THAT SHARE A ZERO enclose nothing: no answer, and the frame is open.
  pub shared_zero_received : (rest : List ℕ) → view rx ≡ opened → drop start (wire input) ≡ drop 1 flag ++ rest
      → Gives rx input start output (after (bare number.no_frame) opened 7 rest)
  shared_zero_received rest v e = reads a opened (drop 1 flag ++ rest) _ v e (shared_zero rest)

  -- AN ABORT. After a flag, any bits without six ones in a row, the last of them no one, and then seven ones: 24 where at least 32
  -- content bits stand before the run of ones, else no answer; the receiver then hunts.
  pub abort_received : (raw rest : List ℕ) → view rx ≡ opened → drop start (wire input) ≡ raw ++ (seven_ones ++ rest)
      → absent six_ones raw → get_or raw (length raw - 1) 0 ≡ 0
      → Gives rx input start output (after (at_abort (destuff raw)) hunting (length raw + 7) rest)
  abort_received raw rest v e h last =
      reads a opened (raw ++ (seven_ones ++ rest)) _ v e (abort_read (front_bits input start raw (seven_ones ++ rest) e) rest h last)

  -- HUNTING. A receiver that hunts, over bits in which no flag ends: 17, all bits are consumed, and it still hunts.
  pub hunting_received : rx.mode ≡ 0 → absent flag (seen rx.ones ++ drop start (wire input)) → StillHunts rx input start output
  hunting_received m h =
      let v : HuntedState (view rx) = hunted_state (view_held rx a.range a.size) m in
      let s : StillHunting rx.ones (drop start (wire input)) = hunts (bits_drop start (bits_wire input)) rx.ones v.few h in
      record {
        ones = s.ones;
        few = s.few;
        gives = reads a (hunter rx.ones) (drop start (wire input)) _ v.same refl s.result;
      }

  -- THE FIRST FLAG opens a frame, without an answer.
  pub first_flag_received : (p rest : List ℕ) → rx.mode ≡ 0 → drop start (wire input) ≡ p ++ (flag ++ rest)
      → absent flag (seen rx.ones ++ (p ++ take 7 flag)) → Gives rx input start output (after (bare number.no_frame) opened (length p + 8) rest)
  first_flag_received p rest m e h =
      let v : HuntedState (view rx) = hunted_state (view_held rx a.range a.size) m in
      reads a (hunter rx.ones) (p ++ (flag ++ rest)) _ v.same e
      (first_flag (front_bits input start p (flag ++ rest) e) rx.ones rest v.few h)

  -- A FLAG BEGUN BEFORE THE CALL, by a zero and the ones since, opens a frame where it ends.
  pub begun_flag_received : (rest : List ℕ) → rx.mode ≡ 0 → rx.ones ≤ 6
      → drop start (wire input) ≡ replicate (6 - rx.ones) 1 ++ (0 ∷ rest)
      → Gives rx input start output (after (bare number.no_frame) opened (7 - rx.ones) rest)
  begun_flag_received rest m h e =
      let v : HuntedState (view rx) = hunted_state (view_held rx a.range a.size) m in
      reads a (hunter rx.ones) (replicate (6 - rx.ones) 1 ++ (0 ∷ rest)) _ v.same e (begun_flag rx.ones rest h)
