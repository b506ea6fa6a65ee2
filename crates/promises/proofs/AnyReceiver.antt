-- FROM ANY RECEIVER IN RANGE, whatever it read before: the answers that calls to the end of a cable give, in their order.
use mathlib.Core.Path.{◌≡◌, refl, sym, ap, ◌∙◌}
use mathlib.Core.List.{List, [], ◌∷◌, ◌++◌, append_assoc}
use Prim.Native.Nat.{ℕ, ◌+◌, ◌*◌, ◌-◌, ◌≤◌, ◌<◌}
use lib.ListN.{length, drop, get_or}
use lib.Seq.{drop_at, drop-append-add}
use Rattle.numbers.specs.Numbers as number
use Rattle.wire.specs.Bits.{wire}
use Rattle.wire.specs.Frame.{flag, stuff, content_of}
use Rattle.transmitter.specs.Frame.{frame}
use Rattle.receiver.specs.declared.Receiver.{Receiver}
use Rattle.receiver.specs.Receiver.{State, hunting, opened, view}
use Rattle.receiver.specs.Receive.{Answer, bare, at_flag, reading}
use Rattle.wire.proofs.Bits.{AreBits, bits_wire, bits_drop}
use Rattle.promises.specs.Wire.{absent, six_ones, seven_ones, destuff, at_abort, after}
use Rattle.promises.specs.Calls.{Accepted, receives, spoken, heard}
use Rattle.promises.proofs.Steps.{bits_front, bits_back}
use Rattle.promises.proofs.Readings.{frame_read, shared_zero, abort_read}
use Rattle.promises.proofs.Calls.{calls, flag_last}
use Rattle.promises.proofs.Answers.{heard_append, heard_after, all_heard}
use Rattle.promises.proofs.Called.{Went, went, at_end}
pub use Rattle.promises.proofs.RoundTrip.{frame_cut}
use Rattle.promises.proofs.RoundTrip.{read_opened}

-- ---- over bits

-- a flag opens a frame, whatever came before it
through_flag : (s : State) (bits rest : List ℕ) → heard s (bits ++ (flag ++ rest)) ≡ heard s (bits ++ flag) ++ heard opened rest
through_flag s bits rest =
    ap (heard s) (sym (append_assoc bits flag rest)) ∙ heard_append s (bits ++ flag) rest
    ∙ ap (λ (t : State). heard s (bits ++ flag) ++ heard t rest) (flag_last s bits)

past : (raw end rest : List ℕ) (n : ℕ) → length end ≡ n → drop (length raw + n) (raw ++ (end ++ rest)) ≡ rest
past raw end rest n e = drop-append-add raw (end ++ rest) n ∙ drop_at end rest n e

-- ---- over calls

module _ (n : ℕ) {rx : Receiver} {input output : List ℕ} {start : ℕ} (a : Accepted rx input start output)
    (end : (receives n rx input start output).start ≡ 8 * length input) where
  -- calls that come to the end give the answers along the bits
  pub answers_along : spoken (receives n rx input start output).answers ≡ heard (view rx) (drop start (wire input))
  answers_along =
      let m : Went n rx input start output = went n a in
      let none_left : (calls n (view rx) (drop start (wire input))).rest ≡ [] =
      sym m.rest ∙ at_end input (receives n rx input start output).start end in
      ap spoken m.answers ∙ all_heard n (view rx) (drop start (wire input)) none_left

  module _ (before : List ℕ) where
    cable_bits : (p q : List ℕ) → drop start (wire input) ≡ before ++ (flag ++ (p ++ q)) → AreBits p
    cable_bits p q e =
        let h : AreBits (before ++ (flag ++ (p ++ q))) = rw e at (bits_drop start (bits_wire input)) in
        bits_front p q (bits_back flag (bits_back before h))

    -- what a reading says of the bits after a flag
    after_flag : (bits rest : List ℕ) (x : Answer) (s : State) (m : ℕ) → drop start (wire input) ≡ before ++ (flag ++ bits)
        → reading opened bits ≡ after x s m rest → drop m bits ≡ rest
        → spoken (receives n rx input start output).answers ≡ heard (view rx) (before ++ flag) ++ (spoken (x ∷ []) ++ heard s rest)
    after_flag bits rest x s m e r d =
        answers_along ∙ ap (heard (view rx)) e ∙ through_flag (view rx) before bits
        ∙ ap (λ (l : List Answer). heard (view rx) (before ++ flag) ++ l) (heard_after opened bits x s m rest r d)

    -- A FRAME between two flags: after the answers to what came before, the answer of document 01's list for its content, then those
    -- to what follows, a frame being open.
    pub any_frame : (raw rest : List ℕ) → drop start (wire input) ≡ before ++ (flag ++ (raw ++ (flag ++ rest))) → absent six_ones raw
        → spoken (receives n rx input start output).answers
        ≡ heard (view rx) (before ++ flag) ++ (spoken (at_flag (destuff raw) ∷ []) ++ heard opened rest)
    any_frame raw rest e h =
        after_flag (raw ++ (flag ++ rest)) rest (at_flag (destuff raw)) opened (length raw + 8) e
        (frame_read (cable_bits raw (flag ++ rest) e) rest h) (past raw flag rest 8 refl)

    -- TWO FLAGS THAT SHARE A ZERO: nothing between the answers to what came before and to what follows.
    pub any_shared : (rest : List ℕ) → drop start (wire input) ≡ before ++ (flag ++ (drop 1 flag ++ rest))
        → spoken (receives n rx input start output).answers ≡ heard (view rx) (before ++ flag) ++ heard opened rest
    unfolding spoken
    any_shared rest e = after_flag (drop 1 flag ++ rest) rest (bare number.no_frame) opened 7 e (shared_zero rest) refl

    -- AN ABORT: 24 where at least 32 content bits stand before the run of ones; what follows is read hunting.
    pub any_abort : (raw rest : List ℕ) → drop start (wire input) ≡ before ++ (flag ++ (raw ++ (seven_ones ++ rest))) → absent six_ones raw
        → get_or raw (length raw - 1) 0 ≡ 0
        → spoken (receives n rx input start output).answers
        ≡ heard (view rx) (before ++ flag) ++ (spoken (at_abort (destuff raw) ∷ []) ++ heard hunting rest)
    any_abort raw rest e h last =
        after_flag (raw ++ (seven_ones ++ rest)) rest (at_abort (destuff raw)) hunting (length raw + 7) e
        (abort_read (cable_bits raw (seven_ones ++ rest) e) rest h last) (past raw seven_ones rest 7 refl)

    -- A BODY OF 2 TO 16 BYTES that was framed comes back.
    pub any_body : (body rest : List ℕ) → ((i : ℕ) → get_or body i 0 < 256) → 2 ≤ length body → length body ≤ 16
        → drop start (wire input) ≡ before ++ (frame body ++ rest)
        → spoken (receives n rx input start output).answers
        ≡ heard (view rx) (before ++ flag) ++ (record { number = number.has_frame; body = body } ∷ heard opened rest)
    unfolding spoken
    any_body body rest small least most e =
        after_flag (stuff 0 (content_of body) ++ (flag ++ rest)) rest (record { number = number.has_frame; body = body }) opened
        (length (stuff 0 (content_of body)) + 8) (e ∙ ap (λ (l : List ℕ). before ++ l) (frame_cut body rest)) (read_opened body small least most rest)
        (past (stuff 0 (content_of body)) flag rest 8 refl)
