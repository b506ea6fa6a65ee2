-- The control room's calls: what each gives, and what it leaves in the record and in the output, refused or not. What refuses a call stands first in
-- its definition, in document 02's order.
use Rattle.std.specs.Prelude.{ℕ, ◌*◌, Bool, true, false, not, ◌&&◌, ◌||◌, cond, List, [], ◌∷◌, eqb, ltb, length, get_or, replicate, Result, Ok, Err}
use Rattle.numbers.specs.Numbers.{has_frame, no_frame, short_output, bad_state, all_open, no_match, bad_reply, no_command, output_least, reply_bytes}
use Rattle.numbers.specs.declared.Refusal.{Refusal}
use Rattle.numbers.specs.declared.Refusal.TheVariants.{BadState, ShortOutput}
use Rattle.parts.specs.Parts.{put}
use Rattle.parts.specs.Digits.{digits}
use Rattle.commands.specs.Request.{interrupt_transaction}
use Rattle.link.specs.Link.{is_connect, is_reset, is_test}
use Rattle.packets.specs.Packets.{address, request_body, data_of}
pub use Rattle.control_room.specs.Given.{Given, gives}
use Rattle.control_room.specs.Record.{record_size, frame_number, counted_up, counted_anew, command_at, is_listed, len_of, number_at, is_open_to, command_in, opened, closed, free_trn, is_record}

-- ---- what a call gives, and its two buffers afterwards

pub record Outcome : Type 0 where
  pub given : Given
  pub kept : List ℕ
  pub output : List ℕ

abbrev pub outcome : Given → List ℕ → List ℕ → Outcome
outcome given kept output = record { given = given; kept = kept; output = output }

-- "Each leaves record and output unchanged."
abbrev pub refused : ℕ → List ℕ → List ℕ → Outcome
refused number r output = outcome (gives number 0 false) r output

-- What refuses every call on a record, 6 and then 1; what follows is the call's own.
abbrev pub unless_refused : List ℕ → List ℕ → Outcome → Outcome
unless_refused r output rest =
    cond (not (is_record r)) (refused bad_state r output)
    (cond (ltb (length output) output_least) (refused short_output r output) rest)

-- the same two, as the code answers them
abbrev pub judged : List ℕ → List ℕ → Result (Unit {0}) Refusal
judged r output = cond (not (is_record r)) (Err BadState) (cond (ltb (length output) output_least) (Err ShortOutput) (Ok tt))

-- ---- a new record: nothing open, frame number 0

pub record Made : Type 0 where
  pub number : ℕ
  pub bytes : List ℕ

abbrev pub made : ℕ → List ℕ → Made
made number bytes = record { number = number; bytes = bytes }

-- a record of another length is 6
unfoldable pub record_made : List ℕ → Made
record_made r = cond (not (eqb (length r) record_size)) (made bad_state r) (made no_frame (replicate record_size 0))

-- ---- the writer of request bodies

-- It "takes the lowest free TRN and a frame number": its control is twice that number, which then goes up.
abbrev pub taken : List ℕ → ℕ → ℕ → ℕ → ℕ → List ℕ → Outcome
taken r ch len cmd d output =
    let trn = free_trn r in
    outcome (gives has_frame 10 false) (opened (counted_up r) trn ch cmd) (put 0 (request_body (2 * frame_number r) trn ch len cmd d) output)

-- 35; 31 where no TRN is free; LEN is the table's
unfoldable pub written : List ℕ → ℕ → ℕ → ℕ → List ℕ → Outcome
written r ch cmd d output =
    cond (not (is_listed (command_at ch cmd))) (refused no_command r output)
    (cond (eqb (free_trn r) interrupt_transaction) (refused all_open r output)
    (taken r ch (len_of (command_at ch cmd)) cmd d output))

-- 6, 1, 35, 31
unfoldable pub request_written : List ℕ → ℕ → ℕ → ℕ → List ℕ → Outcome
request_written r ch cmd d output = unless_refused r output (written r ch cmd d output)

-- ---- the reader of reply bodies

abbrev pub trn_of : List ℕ → ℕ
trn_of body = get_or body 2 0

abbrev pub ch_of : List ℕ → ℕ
ch_of body = get_or body 3 0

-- "Interrupts (TRN 0xFF, CH 0x02) are handed over apart."
abbrev pub is_interrupt : List ℕ → Bool
is_interrupt body = eqb (trn_of body) interrupt_transaction && eqb (ch_of body) 0x02

-- TRN, CH, CMD of the request, ERR, LEN, then the data, low byte first
abbrev pub told : ℕ → List ℕ → List ℕ
told cmd body = trn_of body ∷ ch_of body ∷ cmd ∷ get_or body 4 0 ∷ get_or body 5 0 ∷ digits 4 (data_of body)

-- it "closes its request and frees the TRN"
abbrev pub answered : List ℕ → List ℕ → List ℕ → Outcome
answered r body output =
    outcome (gives has_frame 9 false) (closed r (trn_of body)) (put 0 (told (command_in (number_at r (trn_of body))) body) output)

-- an interrupt is told apart, with CMD 0, and closes nothing
abbrev pub interrupted : List ℕ → List ℕ → List ℕ → Outcome
interrupted r body output = outcome (gives has_frame 9 true) r (put 0 (told 0 body) output)

-- 32
unfoldable pub matched : List ℕ → List ℕ → List ℕ → Outcome
matched r body output = cond (not (is_open_to r (trn_of body) (ch_of body))) (refused no_match r output) (answered r body output)

-- 33, 32
unfoldable pub read : List ℕ → List ℕ → List ℕ → Outcome
read r body output =
    cond (not (eqb (length body) reply_bytes)) (refused bad_reply r output)
    (cond (is_interrupt body) (interrupted r body output)
    (matched r body output))

-- 6, 1, 33, 32
unfoldable pub reply_read : List ℕ → List ℕ → List ℕ → Outcome
reply_read r body output = unless_refused r output (read r body output)

-- ---- the link's commands, a control of check 2's six

abbrev pub is_link_command : ℕ → Bool
is_link_command control = is_connect control || is_reset control || is_test control

-- CONNECT and RESET set the frame number to 0, TEST leaves it; what is open stays open.
abbrev pub commanded : List ℕ → ℕ → List ℕ → Outcome
commanded r control output =
    outcome (gives has_frame 2 false) (cond (is_test control) r (counted_anew r)) (put 0 (address ∷ control ∷ []) output)

-- 35
unfoldable pub link_command : List ℕ → ℕ → List ℕ → Outcome
link_command r control output = cond (not (is_link_command control)) (refused no_command r output) (commanded r control output)

-- 6, 1, 35
unfoldable pub command_written : List ℕ → ℕ → List ℕ → Outcome
command_written r control output = unless_refused r output (link_command r control output)
