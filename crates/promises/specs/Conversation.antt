-- The words of the promise about both ends: a body on its way, both ends in step, the request as the chip reads it, its answer, a start that waits for
-- its completion, and what a request comes to.
use Rattle.std.specs.Prelude.{ℕ, ◌+◌, ◌*◌, ◌≤◌, ◌<◌, true, false, Option, Some, None, List, [], ◌∷◌, ◌≡◌, length, get_or, take, replicate}
use Rattle.numbers.specs.Numbers.{has_frame, no_frame, cable_most, output_least, reply_bytes}
use Rattle.parts.specs.Parts.{put}
use Rattle.parts.specs.Digits.{digits}
use Rattle.transmitter.specs.Transmit as transmit
use Rattle.receiver.specs.Receiver.{hunting, image}
use Rattle.receiver.specs.Receive.{received}
use Rattle.receiver.specs.Receive as receive
use Rattle.commands.specs.Command.{known}
use Rattle.commands.specs.Field.{Open, master}
use Rattle.commands.specs.declared.command.Does.{Does}
use Rattle.commands.specs.declared.command.Does.TheVariants.{Write, Switch, Read, Clear, Start, Transact}
use Rattle.commands.specs.declared.command.Lengths.{Lengths}
use Rattle.commands.specs.declared.request.Reply.{Reply}
use Rattle.commands.specs.declared.request.Request.{Request}
use Rattle.registers.specs.Registers.{read}
use Rattle.link.specs.Link.{receive_number, in_loopback}
use Rattle.packets.specs.Packets.{reply_body}
use Rattle.state.specs.Bytes.{link_of, state_in, is_state}
use Rattle.journal.specs.Layout.{well_formed}
use Rattle.chip.specs.Event.{Completion, spi, i2c, Event, frame, completion}
use Rattle.chip.specs.Chip.{reaction}
use Rattle.adapter.specs.Refusals.{wrong_completion}
use Rattle.adapter.specs.Calls as adapter
use Rattle.adapter.specs.Calls.{called}
use Rattle.adapter.specs.Answers.{plain}
use Rattle.control_room.specs.Record.{number_at, frame_number, counted_up, command_at, len_of, closed, free_trn, is_record}
use Rattle.control_room.specs.Calls.{Outcome, outcome, gives, request_written, reply_read}
use Rattle.promises.specs.Runs.{CompletionOfTypes}

-- ---- a body on its way: framed by the transmitter, read by a new receiver

abbrev pub cable_of : List ℕ → List ℕ
cable_of body = transmit.output_after body (replicate cable_most 0)

abbrev pub heard_on : List ℕ → List ℕ
heard_on cable =
    let output : List ℕ = replicate output_least 0 in
    take (received (image hunting) cable 0 output).length (receive.output_after (image hunting) cable 0 output)

abbrev pub over_the_wire : List ℕ → List ℕ
over_the_wire body = heard_on (cable_of body)

-- the body that a call left at the front of its output: of a request that was written, of what an adapter sends
abbrev pub written_body : Outcome → List ℕ
written_body w = take w.given.length w.output

abbrev pub sent_body : adapter.Outcome → List ℕ
sent_body x = take x.answer.length x.output

-- ---- "with the number the active, unlooped port expects"

-- A record, and an adapter with its journal, which no call refuses with 6 or 4; the port is the active one, not in loopback, and the record's frame number
-- is the receive number there.
pub record InStep (r s journal : List ℕ) (port : ℕ) : Type 0 where
  pub ours : is_record r ≡ true
  pub state : is_state s ≡ true
  pub bytes : (i : ℕ) → get_or s i 0 < 256
  pub formed : well_formed journal ≡ true
  pub active : port ≡ (link_of s).port
  pub unlooped : in_loopback (link_of s) port ≡ false
  pub expected : frame_number r ≡ receive_number (link_of s)

-- the request, as the chip reads it
abbrev pub asked : List ℕ → ℕ → ℕ → ℕ → Request
asked r ch cmd d = record { trn = free_trn r; ch = ch; len = len_of (command_at ch cmd); cmd = cmd; value = d }

-- a record has this request open
abbrev pub HasOpen : List ℕ → ℕ → ℕ → ℕ → Type 0
HasOpen r trn ch cmd = number_at r trn ≡ ch + 0x100 * cmd

-- ---- "read back as that request's answer"

-- TRN, CH, CMD of the request; ERR, LEN and data of its reply
abbrev pub answer : ℕ → ℕ → ℕ → ℕ → ℕ → ℕ → List ℕ
answer trn ch cmd err len d = trn ∷ ch ∷ cmd ∷ err ∷ len ∷ digits 4 d

-- The reply with this ERR, LEN and data is the one frame that the tables fix for this event; the adapter's call gives it on the active port; and a control
-- room that is handed it, by this way, with the record r, gives 0 with that request's answer, and closes its transaction.
pub record ReadBack (way : List ℕ → List ℕ) (s journal : List ℕ) (e : Event) (trn ch cmd err len d : ℕ) (o₂ r o₃ : List ℕ) : Type 0 where
  pub control : ℕ
  pub due : (reaction (state_in s) e).frames ≡ reply_body control trn ch err len d ∷ []
  pub sent : (called s journal e o₂).answer ≡ record { number = has_frame; port = (link_of s).port; length = reply_bytes }
  pub told : reply_read r (way (sent_body (called s journal e o₂))) o₃
      ≡ outcome (gives has_frame 9 false) (closed r trn) (put 0 (answer trn ch cmd err len d) o₃)

-- ---- a start, "whose reply comes with its completion"

-- the chip keeps it, by its TRN, a master's by its code too
abbrev pub Waiting : List ℕ → ℕ → ℕ → Does → Type 0
Waiting rs trn cmd (Write r) = ⊥
Waiting rs trn cmd (Switch c) = ⊥
Waiting rs trn cmd (Read r) = ⊥
Waiting rs trn cmd (Clear r) = ⊥
Waiting rs trn cmd (Start r) = read rs r ≡ trn
Waiting rs trn cmd (Transact i transaction) = read rs (master i Open) ≡ trn + 0x100 * cmd

-- a completion of such a start to this channel
abbrev pub Ends : ℕ → Does → Completion → Type 0
Ends ch (Write r) c = ⊥
Ends ch (Switch k) c = ⊥
Ends ch (Read r) c = ⊥
Ends ch (Clear r) c = ⊥
Ends ch (Start r) (spi received) = Unit
Ends ch (Start r) (i2c channel acknowledge lineLow received) = ⊥
Ends ch (Transact i transaction) (spi received) = ⊥
Ends ch (Transact i transaction) (i2c channel acknowledge lineLow received) = channel ≡ ch

-- its completion is read back, with ERR 0 and the LEN of its row
pub record Ended (way : List ℕ → List ℕ) (trn ch cmd len : ℕ) (s journal : List ℕ) (c : Completion) (o₂ r o₃ : List ℕ) : Type 0 where
  pub value : ℕ
  pub back : ReadBack way s journal (completion c) trn ch cmd 0 len value o₂ r o₃

-- ---- what a request comes to, by the chip's reply to it; `b` is the body that arrives at the chip, in the adapter's call with the output o₂

module _ (way : List ℕ → List ℕ) (r s journal : List ℕ) (port ch cmd d : ℕ) (o₁ o₂ b : List ℕ) where
  -- It is read back, whatever else was written and read since: by every record that has it open.
  pub record AtOnce (err len v : ℕ) : Type 0 where
    pub opens : HasOpen (request_written r ch cmd d o₁).kept (free_trn r) ch cmd
    pub reads : (r₂ o₃ : List ℕ) → is_record r₂ ≡ true → HasOpen r₂ (free_trn r) ch cmd → output_least ≤ length o₃
        → ReadBack way s journal (frame port b) (free_trn r) ch cmd err len v o₂ r₂ o₃
    -- read at once, only the frame number of the record has changed
    pub leaves : closed (request_written r ch cmd d o₁).kept (free_trn r) ≡ counted_up r

  -- Or it is a start: 17, the chip keeps it, and the record has it open. Whenever the chip still does, whatever happened to it since, and the record still
  -- does, whatever else was written and read since, its completion is read back.
  pub record Started : Type 0 where
    pub lengths : Lengths
    pub does : Does
    pub command : command_at ch cmd ≡ known lengths does
    pub quiet : (called s journal (frame port b) o₂).answer ≡ plain no_frame
    pub output : (called s journal (frame port b) o₂).output ≡ o₂
    pub waits : Waiting (state_in (called s journal (frame port b) o₂).state).registers (free_trn r) cmd does
    pub opens : HasOpen (request_written r ch cmd d o₁).kept (free_trn r) ch cmd
    pub ends : (s₂ j₂ : List ℕ) (c : Completion) (o₄ r₂ o₃ : List ℕ) → is_record r₂ ≡ true → is_state s₂ ≡ true → well_formed j₂ ≡ true
        → Waiting (state_in s₂).registers (free_trn r) cmd does → HasOpen r₂ (free_trn r) ch cmd
        → Ends ch does c → wrong_completion c ≡ false → CompletionOfTypes c → output_least ≤ length o₄ → output_least ≤ length o₃
        → Ended way (free_trn r) ch cmd lengths.given s₂ j₂ c o₄ r₂ o₃

  abbrev pub Answered : Option Reply → Type 0
  Answered (Some reply) = AtOnce reply.error reply.length reply.value
  Answered None = Started
