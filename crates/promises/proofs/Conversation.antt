-- BOTH ENDS: "A request written here with the number the active, unlooped port expects and answered by the adapter is read back as that request's answer,
-- errors included." One theorem, `conversation`, over the contracts of both ends and demand 2's machine, for every command that the tables have; for
-- whatever way brings bodies of 2 to 16 bytes as they were sent, the wire among them (`wire_brings`). Assumes nothing.
use Prim.Native.Nat.{ℕ, ◌+◌, ◌*◌, ◌-◌, ◌/◌, ◌%◌, ◌^◌, ◌≤◌, ◌<◌}
use mathlib.Core.Bool.{Bool, true, false, not, true≢false, false≢true}
use mathlib.Core.List.{List, [], ◌∷◌}
use mathlib.Core.Logic.{◌⊎◌, inl, inr}
use mathlib.Core.Path.{◌≡◌, refl, sym, ap, subst, ◌∙◌}
use Rattle.std.specs.Prelude.{Option, Some, None, option_and_then, Result}
use native.Mathlib.Omega.{arith}
use borrow.Author.Tests.{eq-eqb, ne_eqb, eqb-true, eqb-false, ltb-true, le-ltb, not-true}
use lib.Dec.{eqb, ltb, lit<, lit≤}
use lib.Bits.{and_mask}
use lib.Pow.{shr-shr}
use lib.ListN.{length, take, replicate}
use Rattle.bits.specs.Bits.{bit_of, digit}
use Rattle.bits.proofs.Rows.{every, look_every}
use Rattle.bits.proofs.Tests.{cond_cases}
use Rattle.numbers.specs.Numbers as number
use Rattle.parts.specs.Parts.{part, put}
use Rattle.parts.specs.Digits.{word, digits}
use Rattle.parts.specs.Digits.{number as number_of}
use Rattle.parts.proofs.Laws.{AreBytes, bytes_append, part_put_same}
use Rattle.parts.proofs.Digits.{digits_number}
use Rattle.receiver.specs.Received.{Received}
use Rattle.receiver.specs.Receiver.{hunting, image}
use Rattle.receiver.specs.Receive.{received}
use Rattle.receiver.specs.Receive as receive
use Rattle.commands.specs.declared.channel.Channel.{Channel}
use Rattle.commands.specs.declared.channel.Channel.TheVariants as channel
use Rattle.commands.specs.declared.command.Command.{Command}
use Rattle.commands.specs.declared.command.Does.{Does}
use Rattle.commands.specs.declared.command.Does.TheVariants.{Write, Switch, Read, Clear, Start, Transact}
use Rattle.commands.specs.declared.command.Lengths.{Lengths}
use Rattle.commands.specs.declared.command.Register.{Register}
use Rattle.commands.specs.declared.command.Register.TheVariants.{SpiGo, SpiData0}
use Rattle.commands.specs.Field.{Open, master}
use Rattle.commands.specs.Spi.{go}
use Rattle.commands.specs.declared.request.Reply.{Reply}
use Rattle.commands.specs.declared.request.Fault.{Fault}
use Rattle.commands.specs.declared.request.Request.{Request}
use Rattle.commands.specs.Command.{known, code_of}
use Rattle.commands.specs.Request.{cmd_unknown, fault_bit}
use Rattle.commands.specs.Channels.{channel_of, first_master, commands_of, command_of}
use Rattle.registers.specs.Registers as registers
use Rattle.registers.specs.Transfer.{completed}
use Rattle.registers.specs.Transaction.{ended, end_data}
use Rattle.link.specs.Link.{reply_control, send_up, receive_number, number_in, is_test, in_loopback, fresh_link}
use Rattle.link.specs.declared.Link.{Link}
use Rattle.packets.specs.Packets.{request_of, request_body, reply_body, byte_of}
use Rattle.packets.proofs.Laws.{data_round}
use Rattle.channels.specs.Rows.{is_enabled, is_busy}
use Rattle.channels.specs.Errors.{can_move, of_command, of_channel, decoded, error_of, first_error}
use Rattle.channels.specs.Perform as perform
use Rattle.channels.specs.Perform.{replied, performed}
use Rattle.channels.proofs.Laws.{Own, own_read, others_stay, Sound, RequestBytes, Granted, granted_command, decoded_cases, kept_start}
use Rattle.channels.proofs.Owners.{field_own}
use Rattle.registers.proofs.Laws.{read_same}
use Rattle.state.specs.State.{Adapter, with_link, with_registers, powered_on, power_on}
use Rattle.state.specs.Bytes.{state_size, link_image, link_of, state_bytes, state_in, is_state}
use Rattle.state.proofs.Good.{Good, ranges, power_on_good}
use Rattle.state.proofs.Spelling.{its_range, its_good, state_back, state_bytes_lem}
use Rattle.chip.proofs.Good.{good_stays}
use Rattle.chip.specs.Answer.{Reaction, sends, gives as silent, response, laid}
use Rattle.chip.specs.Event.{Completion, spi, i2c, Event, frame, completion}
use Rattle.chip.specs.Frame.{counted, information_of, on_frame, addressed, commanded}
use Rattle.chip.specs.Request.{replies, finished, requested}
use Rattle.chip.specs.Chip.{reaction, on_spi, transferred, started_by, on_i2c, transacted}
use Rattle.chip.proofs.EventFits.{EventFits}
use Rattle.chip.proofs.Bodies.{each_byte, Every, Framable, frame_bytes}
use Rattle.journal.specs.Layout.{wrong_length, well_formed, emptied}
use Rattle.journal.proofs.Ring.{of_well, well_of, emptied_well}
use Rattle.adapter.specs.Answers.{Answer}
use Rattle.adapter.specs.Answers.{Passed}
use Rattle.adapter.specs.Refusals.{wrong_completion, in_order, verdict}
use Rattle.adapter.specs.Calls as adapter
use Rattle.adapter.specs.Calls.{created, made_empty, called, done}
use Rattle.adapter.proofs.Laws.{called_done, recorded_well}
use Rattle.control_room.specs.Record.{record_size, number_at, frame_number, counted_up, command_at, is_listed, len_of, channel_in, command_in, is_open_to, closed, free_trn, is_record}
use Rattle.control_room.specs.Calls.{Outcome, outcome, gives, taken, written, request_written, trn_of, ch_of, told, answered, matched, read, reply_read, command_written, record_made}
use Rattle.control_room.specs.Given.{Given}
use Rattle.control_room.proofs.Laws.{Among, its_length, its_frame, length_with, number_other, stored_and_back}
use Rattle.promises.specs.Runs.{CompletionOfTypes}
use Rattle.promises.specs.ControlRoom.{request, command}
use Rattle.promises.specs.Conversation.{cable_of, over_the_wire, written_body, InStep, asked, HasOpen, answer, ReadBack, Waiting, Ends, Ended, AtOnce, Started, Answered}
use Rattle.promises.proofs.RoundTrip.{round_trip}
use Rattle.promises.proofs.Errors.{InOrder, in_order_lem}
use Rattle.promises.proofs.ControlRoom.{known_bytes, entry_channel, entry_command, entry_open, open_to, Taken, request_takes, stays_a_record, closed_is, no_interrupt, zeros, free_among, Six, command_in_order, Commands, command_done}
use Rattle.promises.proofs.Runs.{fits}
use Rattle.promises.proofs.Steps.{split}
use Rattle.promises.proofs.Tables.{Numbered, numbered, Starting, starting, go_row, master_row}

-- ---- what stands at the front of an output

front_of : (s o : List ℕ) → take (length s) (put 0 s o) ≡ s
unfolding part
front_of s o = part_put_same 0 s o (omega arith)

-- ---- the wire brings a body of 2 to 16 bytes as it was sent

pub wire_brings : (body : List ℕ) → Framable body → AreBytes body → over_the_wire body ≡ body
wire_brings body f b =
    let output : List ℕ = replicate 16 0 in
    let g = round_trip body b f.least f.most (replicate 24 0) output (lit≤ tt) (lit≤ tt) (lit≤ tt) in
    ap (λ (n : ℕ). take n (receive.output_after (image hunting) (cable_of body) 0 output)) (ap (λ (r : Received). r.length) g.result)
    ∙ ap (take (length body)) g.bytes ∙ front_of body output

-- ---- the body of a request

-- every LEN that is asked is a byte
abbrev short_len : Option Command → Bool
short_len k = ltb (len_of k) 256

short_lens : (ch : Channel) → every short_len (commands_of ch) ≡ true
short_lens channel.Controller = refl
short_lens channel.Spi = refl
short_lens channel.Gpio = refl
short_lens (channel.Master i) = refl
short_lens channel.Seu = refl
short_lens channel.Id = refl
short_lens channel.Dac = refl

len_byte : (ch cmd : ℕ) → len_of (command_at ch cmd) < 256
unfolding code_of
len_byte ch cmd = by (channel_of ch)
  where
    by : (o : Option Channel) → len_of (option_and_then (λ c. command_of c cmd) o) < 256
    by None = lit< tt
    by (Some c) = ltb-true _ 256 (look_every short_len (commands_of c) None cmd (short_lens c) refl)

request_bytes : (f trn ch len cmd d : ℕ) → f ≤ 7 → trn < 256 → ch < 256 → len < 256 → cmd < 256 → AreBytes (request_body (2 * f) trn ch len cmd d)
request_bytes f trn ch len cmd d a b c e g =
    each_byte (request_body (2 * f) trn ch len cmd d)
    (lit< tt, (omega arith, (b, (c, (e, (g, (omega arith, (omega arith, (omega arith, (omega arith, tt))))))))))

-- ---- what is told of a reply is its bytes

digit_bytes : (a b c d : ℕ) → a < 256 → b < 256 → c < 256 → d < 256 → digits 4 (word a b c d) ≡ a ∷ b ∷ c ∷ d ∷ []
unfolding number_of
digit_bytes a b c d ha hb hc hd =
    let s : List ℕ = a ∷ b ∷ c ∷ d ∷ [] in
    let e : word a b c d ≡ number_of s = omega arith in
    ap (digits 4) e ∙ digits_number s (each_byte s (ha, (hb, (hc, (hd, tt)))))

four_bytes : (d : ℕ) → byte_of d 0 ∷ byte_of d 1 ∷ byte_of d 2 ∷ byte_of d 3 ∷ [] ≡ digits 4 d
unfolding digits
four_bytes d =
    let e1 : d / 1 % 256 ≡ d % 256 = omega arith in
    let e2 : d / 65536 ≡ d / 256 / 256 = sym (shr-shr d 8 8) in
    let e3 : d / 16777216 ≡ d / 256 / 256 / 256 = sym (shr-shr d 16 8) ∙ ap (λ (n : ℕ). n / 256) e2 in
    rw (e1, e2, e3) refl

told_back : (cmd control trn ch err len d : ℕ) → told cmd (reply_body control trn ch err len d) ≡ answer trn ch cmd err len d
unfolding digits
told_back cmd control trn ch err len d =
    ap (λ (l : List ℕ). trn ∷ ch ∷ cmd ∷ err ∷ len ∷ l)
    (digit_bytes (byte_of d 0) (byte_of d 1) (byte_of d 2) (byte_of d 3) (omega arith) (omega arith) (omega arith) (omega arith) ∙ four_bytes d)

-- ---- a reply that the adapter's call gives is read by a record that has its transaction open

module _ (s journal : List ℕ) (e : Event) (o : List ℕ) (b : Adapter) (port : ℕ) (body : List ℕ) (due : reaction (state_in s) e ≡ sends b port body) where
  done_output : (done s journal e o).output ≡ put 0 body o
  unfolding done
  done_output = ap (λ (r : Reaction). laid r.frames o) due

  done_answer : (done s journal e o).answer ≡ record { number = 0; port = port; length = length body }
  unfolding done
  done_answer = ap (λ (r : Reaction). adapter.shown (response r)) due

matches : (r body o : List ℕ) → is_record r ≡ true → length body ≡ 10 → is_open_to r (trn_of body) (ch_of body) ≡ true → 16 ≤ length o
    → reply_read r body o ≡ answered r body o
unfolding reply_read read matched
matches r body o h n m l = rw (h, le-ltb (length o) 16 l, n, no_interrupt r body m, m) refl

module _ (way : List ℕ → List ℕ) (brings : (b : List ℕ) → Framable b → AreBytes b → way b ≡ b) where
  module _ (s : List ℕ) (e : Event) (typed : EventFits e) (control trn ch err len d : ℕ) (b : Adapter) (port : ℕ)
      (due : reaction (state_in s) e ≡ sends b port (reply_body control trn ch err len d)) where
    frame_due : (reaction (state_in s) e).frames ≡ reply_body control trn ch err len d ∷ []
    frame_due = ap (λ (x : Reaction). x.frames) due

    reply_arrives : (o : List ℕ) → way (take 10 (put 0 (reply_body control trn ch err len d) o)) ≡ reply_body control trn ch err len d
    reply_arrives o =
        ap way (front_of (reply_body control trn ch err len d) o)
        ∙ brings (reply_body control trn ch err len d) (record { least = lit≤ tt; most = lit≤ tt })
        (subst (Every AreBytes) frame_due (frame_bytes (state_in s) e typed)).0

    read_back : (journal o₂ r o₃ : List ℕ) (cmd : ℕ) → verdict s journal e o₂ ≡ Passed → is_record r ≡ true → is_open_to r trn ch ≡ true
        → command_in (number_at r trn) ≡ cmd → 16 ≤ length o₃ → port ≡ (link_of s).port → ReadBack way s journal e trn ch cmd err len d o₂ r o₃
    read_back journal o₂ r o₃ cmd passed h m k l p =
        let body : List ℕ = reply_body control trn ch err len d in
        let c = called_done s journal e o₂ passed in
        let n : (called s journal e o₂).answer.length ≡ 10 =
        ap (λ (x : adapter.Outcome). x.answer.length) c ∙ ap (λ (x : Answer). x.length) (done_answer s journal e o₂ b port body due) in
        let t : (called s journal e o₂).output ≡ put 0 body o₂ = ap (λ (x : adapter.Outcome). x.output) c ∙ done_output s journal e o₂ b port body due in
        record {
          control = control;
          due = frame_due;
          sent =
              ap (λ (x : adapter.Outcome). x.answer) c ∙ done_answer s journal e o₂ b port body due
              ∙ ap (λ (n : ℕ). record { number = 0; port = n; length = 10 }) p;
          told =
              ap (λ (m : ℕ). reply_read r (way (take m (called s journal e o₂).output)) o₃) n
              ∙ ap (λ (u : List ℕ). reply_read r (way (take 10 u)) o₃) t ∙ ap (λ (u : List ℕ). reply_read r u o₃) (reply_arrives o₂)
              ∙ matches r body o₃ h refl m l
              ∙ ap (λ (u : List ℕ). outcome (gives 0 9 false) (closed r trn) (put 0 u o₃))
              (ap (λ (n : ℕ). told n body) k ∙ told_back cmd control trn ch err len d);
        }

-- ---- a request on the active, unlooped port, with the number that is expected

read_request : (f trn ch len cmd d : ℕ) → d < 2 ^ 32
    → request_of (information_of (request_body (2 * f) trn ch len cmd d)) ≡ record { trn = trn; ch = ch; len = len; cmd = cmd; value = d }
read_request f trn ch len cmd d h = ap (λ (v : ℕ). record { trn = trn; ch = ch; len = len; cmd = cmd; value = v }) (data_round d h)

even : (f : ℕ) → f ≤ 7 → bit_of (2 * f) 0 ≡ false
even f l = let z : 2 * f / 1 % 2 ≡ 0 = omega arith in rw z refl

numbered_in : (f : ℕ) → f ≤ 7 → number_in (2 * f) ≡ f
numbered_in f l = omega arith

module _ (r s journal : List ℕ) (port : ℕ) (i : InStep r s journal port) where
  port_range : port ≤ 1
  unfolding state_in
  port_range = rw i.active (ranges (state_in s) (its_range s i.state)).2

  order : (trn ch len cmd d : ℕ) → InOrder (state_in s) port (request_body (2 * frame_number r) trn ch len cmd d)
  unfolding state_in
  order trn ch len cmd d =
      let f = its_frame r i.ours in
      record {
        addressed = refl;
        no_connect = rw (ne_eqb (2 * frame_number r) 0x2F (λ e. omega arith), ne_eqb (2 * frame_number r) 0x3F (λ e. omega arith)) refl;
        no_reset = rw (ne_eqb (2 * frame_number r) 0x8F (λ e. omega arith), ne_eqb (2 * frame_number r) 0x9F (λ e. omega arith)) refl;
        no_test = rw (ne_eqb (2 * frame_number r) 0xE3 (λ e. omega arith), ne_eqb (2 * frame_number r) 0xF3 (λ e. omega arith)) refl;
        even = even (frame_number r) f;
        not_looped = i.unlooped;
        active = i.active;
        eight = refl;
        number = numbered_in (frame_number r) f ∙ i.expected;
      }

  -- it is answered as the tables say
  request_due : (trn ch len cmd d : ℕ) → d < 2 ^ 32 → let q : Request = record { trn = trn; ch = ch; len = len; cmd = cmd; value = d } in
      reaction (state_in s) (frame port (request_body (2 * frame_number r) trn ch len cmd d))
      ≡ finished (with_registers (counted (state_in s)) (performed (state_in s).registers q)) trn ch (replied (state_in s).registers q)
  unfolding requested
  request_due trn ch len cmd d h =
      in_order_lem (state_in s) port (request_body (2 * frame_number r) trn ch len cmd d) (order trn ch len cmd d)
      ∙ ap
      (λ (q : Request). finished (with_registers (counted (state_in s)) (performed (state_in s).registers q)) q.trn q.ch (replied (state_in s).registers q))
      (read_request (frame_number r) trn ch len cmd d h)

  request_passes : (body o : List ℕ) → length body ≡ 10 → 16 ≤ length o → verdict s journal (frame port body) o ≡ Passed
  unfolding verdict in_order
  request_passes body o n l = rw (i.state, i.formed, le-ltb (length o) 16 l, le-ltb 1 port port_range, n) refl

  counted_port : (counted (state_in s)).link.port ≡ (link_of s).port
  unfolding state_in
  counted_port = refl

-- ---- the completion of a start that the chip keeps: its own TRN and channel, ERR 0, the LEN of its row

spi_due : (a : Adapter) (received : List ℕ) (trn : ℕ) → registers.read a.registers SpiGo ≡ trn → Among 1 254 trn
    → let after = completed a.registers received in
    reaction a (completion (spi received)) ≡ replies (with_registers a after) trn 0x01 0 go.given (registers.read after SpiData0)
unfolding reaction on_spi transferred
spi_due a received trn e t =
    let m : trn % 0x100 ≡ trn = omega arith in
    rw (e, ne_eqb trn 0 (λ z. omega arith), m) refl

module _ (trn cmd : ℕ) (t : Among 1 254 trn) (u : cmd < 256) where
  low : (trn + 0x100 * cmd) % 0x100 ≡ trn
  low = omega arith

  high : (trn + 0x100 * cmd) / 0x100 % 0x100 ≡ cmd
  high = omega arith

  i2c_due : (a : Adapter) (ch i : ℕ) (acknowledge line : Bool) (received : List ℕ) (l : Lengths) (does : Does) → ch - first_master ≡ i
      → registers.read a.registers (master i Open) ≡ trn + 0x100 * cmd → command_of (channel.Master i) cmd ≡ known l does
      → let by = started_by (known l does) in
      reaction a (completion (i2c ch acknowledge line received))
      ≡ replies (with_registers a (ended i by acknowledge line received a.registers)) trn ch 0 l.given (end_data i by acknowledge line received a.registers)
  unfolding reaction on_i2c transacted
  i2c_due a ch i acknowledge line received l does e f g =
      rw (e, f, ne_eqb (trn + 0x100 * cmd) 0 (λ z. omega arith), low, high, g) refl

completion_passes : (s journal : List ℕ) (c : Completion) (o : List ℕ) → is_state s ≡ true → well_formed journal ≡ true → wrong_completion c ≡ false
    → 16 ≤ length o → verdict s journal (completion c) o ≡ Passed
unfolding verdict in_order
completion_passes s journal c o h w k l = rw (h, w, le-ltb (length o) 16 l, k) refl

completion_fits : (c : Completion) (o : List ℕ) → wrong_completion c ≡ false → CompletionOfTypes c → 16 ≤ length o → EventFits (completion c)
completion_fits c o k t l = fits (completion c) o t (rw (le-ltb (length o) 16 l, k) refl)

state_port : (s rs : List ℕ) → (with_registers (state_in s) rs).link.port ≡ (link_of s).port
unfolding state_in
state_port s rs = refl

-- ---- a start that is granted is kept by the chip

sent_later : {p : Reply} → ◌≡◌ {A = Option Reply} (Some p) None → ⊥
sent_later e = let z : ◌≡◌ {A = ℕ} 0 1 = cc in omega arith

record KeptStart (q : Request) (after : List ℕ) : Type 0 where
  lengths : Lengths
  does : Does
  command : command_at q.ch q.cmd ≡ known lengths does
  waits : Waiting after q.trn q.cmd does

module _ (rs : List ℕ) (q : Request) (sound : Sound rs) (bytes : RequestBytes q) where
  go_kept : (given : ℕ) (x : Register) → Granted rs q given (Start x) → registers.read (registers.store rs x q.trn) x ≡ q.trn
  go_kept given x g =
      let row : Starting g.which (known (record { asked = q.len; given = given }) (Start x)) = subst (Starting g.which) g.command (starting g.which q.cmd) in
      let b = bytes.trn in
      let m : q.trn % 256 ≡ q.trn = omega arith in
      subst (λ (y : Register). registers.read (registers.store rs y q.trn) y ≡ q.trn) (sym row.2)
      (read_same rs SpiGo q.trn sound.fits.long ∙ and_mask q.trn 8 ∙ m)

  kept_by : (given : ℕ) (does : Does) → Granted rs q given does → perform.told rs given does ≡ None → KeptStart q (perform.left rs q does)
  kept_by given (Write x) g h = absurd (sent_later h)
  kept_by given (Switch c) g h = absurd (sent_later h)
  kept_by given (Read x) g h = absurd (sent_later h)
  kept_by given (Clear x) g h = absurd (sent_later h)
  kept_by given (Start x) g h =
      record { lengths = record { asked = q.len; given = given }; does = Start x; command = granted_command rs q given (Start x) g; waits = go_kept given x g }
  kept_by given (Transact j t) g h =
      record {
        lengths = record { asked = q.len; given = given };
        does = Transact j t;
        command = granted_command rs q given (Transact j t) g;
        waits = kept_start rs q sound bytes given j t g;
      }

  keeps_start : replied rs q ≡ None → KeptStart q (performed rs q)
  unfolding replied performed
  keeps_start =
      decoded_cases rs q (λ z. perform.reply_to rs z ≡ None → KeptStart q (perform.left_by rs q z)) (λ e _ h. absurd (sent_later h)) kept_by

-- GO's row
spi_row : (ch : ℕ) (l : Lengths) → ch ≡ 0x01 → l ≡ go → (b : Adapter) (trn v : ℕ) → replies b trn 0x01 0 go.given v ≡ replies b trn ch 0 l.given v
spi_row ch l e f b trn v = ap (λ (n : ℕ). replies b trn n 0 go.given v) (sym e) ∙ ap (λ (m : Lengths). replies b trn ch 0 m.given v) (sym f)

-- ---- what a request leaves of the link: the receive number up by one, the port and the loopbacks as they were

link_read : (s : List ℕ) → link_of s ≡ (state_in s).link
unfolding state_in
link_read s = refl

record OneUp (l m : Link) : Type 0 where
  port : m.port ≡ l.port
  primary : m.primary ≡ l.primary
  auxiliary : m.auxiliary ≡ l.auxiliary
  receive : receive_number m ≡ (receive_number l + 1) % 8

loops_alike : (l m : Link) (port : ℕ) → m.primary ≡ l.primary → m.auxiliary ≡ l.auxiliary → in_loopback m port ≡ in_loopback l port
loops_alike l m port e f = rw (e, f) refl

one_up : (a : Adapter) (rs : List ℕ) (trn ch : ℕ) (p : Option Reply) → OneUp a.link (finished (with_registers (counted a) rs) trn ch p).adapter.link
unfolding replies
one_up a rs trn ch (Some reply) = record { port = refl; primary = refl; auxiliary = refl; receive = omega arith }
one_up a rs trn ch None = record { port = refl; primary = refl; auxiliary = refl; receive = omega arith }

good_bytes : (a : Adapter) → Good a → AreBytes (state_bytes a)
unfolding state_bytes
good_bytes a g =
    let s = g.send in
    let r = g.receive in
    let p = g.port in
    bytes_append (link_image a.link) a.registers
    (each_byte (link_image a.link)
    (omega arith, (omega arith, (omega arith, (a_digit a.link.primary.loopback, (a_digit a.link.auxiliary.loopback, tt))))))
    g.registers.fits.bytes
  where
    a_digit : (t : Bool) → digit t < 256
    a_digit true = lit< tt
    a_digit false = lit< tt

-- ---- THE PROMISE

module _ (way : List ℕ → List ℕ) (brings : (b : List ℕ) → Framable b → AreBytes b → way b ≡ b) where
  -- a request that is open in a record is matched by a reply with its TRN and channel, whose answer has its command
  module _ (trn ch cmd : ℕ) (t : Among 1 254 trn) (listed : is_listed (command_at ch cmd) ≡ true) (r : List ℕ) (open-here : HasOpen r trn ch cmd) where
    it_matches : is_open_to r trn ch ≡ true
    it_matches = open_to r trn ch t (λ z. entry_open ch cmd listed (sym open-here ∙ z)) (ap channel_in open-here ∙ entry_channel ch cmd (known_bytes ch cmd listed).0)

    its_command : command_in (number_at r trn) ≡ cmd
    its_command = let b = known_bytes ch cmd listed in ap command_in open-here ∙ entry_command ch cmd b.0 b.1

  module _ (trn ch cmd : ℕ) (t : Among 1 254 trn) (l : Lengths) where
    module _ (s journal : List ℕ) (c : Completion) (o₂ r o₃ : List ℕ) (h : is_record r ≡ true) (state : is_state s ≡ true)
        (formed : well_formed journal ≡ true) (open-here : HasOpen r trn ch cmd) (right : wrong_completion c ≡ false)
        (types : CompletionOfTypes c) (l₂ : 16 ≤ length o₂) (l₃ : 16 ≤ length o₃) where
      -- what completes is read back
      ended_by : (does : Does) → command_at ch cmd ≡ known l does → (rs : List ℕ) (v : ℕ)
          → reaction (state_in s) (completion c) ≡ replies (with_registers (state_in s) rs) trn ch 0 l.given v → Ended way trn ch cmd l.given s journal c o₂ r o₃
      unfolding replies
      ended_by does k rs v due =
          let listed : is_listed (command_at ch cmd) ≡ true = rw k refl in
          let after = with_registers (state_in s) rs in
          record {
            value = v;
            back =
                read_back way brings s (completion c) (completion_fits c o₂ right types l₂) (reply_control after.link) trn ch 0 l.given v
                (with_link after (send_up after.link)) after.link.port due journal o₂ r o₃ cmd (completion_passes s journal c o₂ state formed right l₂) h
                (it_matches trn ch cmd t listed r open-here) (its_command trn ch cmd t listed r open-here) l₃ (state_port s rs);
          }

    completes : (does : Does) → command_at ch cmd ≡ known l does → (s journal : List ℕ) (c : Completion) (o₂ r o₃ : List ℕ) → is_record r ≡ true
        → is_state s ≡ true → well_formed journal ≡ true → Waiting (state_in s).registers trn cmd does → HasOpen r trn ch cmd
        → Ends ch does c → wrong_completion c ≡ false → CompletionOfTypes c → 16 ≤ length o₂ → 16 ≤ length o₃
        → Ended way trn ch cmd l.given s journal c o₂ r o₃
    completes (Write x) k s journal c o₂ r o₃ h state formed w open-here e right types l₂ l₃ = absurd w
    completes (Switch x) k s journal c o₂ r o₃ h state formed w open-here e right types l₂ l₃ = absurd w
    completes (Read x) k s journal c o₂ r o₃ h state formed w open-here e right types l₂ l₃ = absurd w
    completes (Clear x) k s journal c o₂ r o₃ h state formed w open-here e right types l₂ l₃ = absurd w
    completes (Start x) k s journal (spi received) o₂ r o₃ h state formed w open-here e right types l₂ l₃ =
        let row = go_row ch cmd l x k in
        let one : ch ≡ 0x01 = subst (Numbered ch) row.0 (numbered ch) in
        let go_kept : registers.read (state_in s).registers SpiGo ≡ trn =
        subst (λ (g : Register). registers.read (state_in s).registers g ≡ trn) row.2 w in
        let after = completed (state_in s).registers received in
        ended_by s journal (spi received) o₂ r o₃ h state formed open-here right types l₂ l₃ (Start x) k after (registers.read after SpiData0)
        (spi_due (state_in s) received trn go_kept t ∙ spi_row ch l one row.1 (with_registers (state_in s) after) trn (registers.read after SpiData0))
    completes (Start x) k s journal (i2c n a b received) o₂ r o₃ h state formed w open-here e right types l₂ l₃ = absurd e
    completes (Transact j x) k s journal (spi received) o₂ r o₃ h state formed w open-here e right types l₂ l₃ = absurd e
    completes (Transact j x) k s journal (i2c n a b received) o₂ r o₃ h state formed w open-here e right types l₂ l₃ =
        let row = master_row ch cmd l j x k in
        let its : ch - first_master ≡ j = (subst (Numbered ch) row.0 (numbered ch)).2 in
        let listed : is_listed (command_at ch cmd) ≡ true = rw k refl in
        ended_by s journal (i2c n a b received) o₂ r o₃ h state formed open-here right types l₂ l₃ (Transact j x) k _ _
        (subst
        (λ (m : ℕ). reaction (state_in s) (completion (i2c m a b received))
        ≡ replies (with_registers (state_in s) (ended j (started_by (known l (Transact j x))) a b received (state_in s).registers)) trn ch 0 l.given
        (end_data j (started_by (known l (Transact j x))) a b received (state_in s).registers))
        (sym e) (i2c_due trn cmd t (known_bytes ch cmd listed).1 (state_in s) ch j a b received l (Transact j x) its w row.1))

  module _ (r s journal : List ℕ) (port ch cmd d : ℕ) (o₁ o₂ : List ℕ) (i : InStep r s journal port) (listed : is_listed (command_at ch cmd) ≡ true)
      (free : free_trn r ≡ 0xFF → ⊥) (fits : d < 2 ^ 32) (l₁ : 16 ≤ length o₁) (l₂ : 16 ≤ length o₂) where
    abbrev body : List ℕ
    body = request_body (2 * frame_number r) (free_trn r) ch (len_of (command_at ch cmd)) cmd d

    written_is : request_written r ch cmd d o₁ ≡ taken r ch (len_of (command_at ch cmd)) cmd d o₁
    unfolding request_written written
    written_is = rw (i.ours, le-ltb (length o₁) 16 l₁, listed, ne_eqb (free_trn r) 0xFF free) refl

    takes : Taken r ch cmd d o₁ (request_written r ch cmd d o₁)
    takes = request_takes r ch cmd d o₁ (ap (λ (x : Outcome). x.given.number) written_is)

    body_bytes : AreBytes body
    body_bytes =
        let b = known_bytes ch cmd listed in
        let t = takes.range in
        request_bytes (frame_number r) (free_trn r) ch (len_of (command_at ch cmd)) cmd d (its_frame r i.ours) (omega arith) b.0 (len_byte ch cmd) b.1

    arrives : way (written_body (request_written r ch cmd d o₁)) ≡ body
    arrives =
        ap (λ (x : Outcome). way (written_body x)) written_is ∙ ap way (front_of body o₁) ∙ brings body (record { least = lit≤ tt; most = lit≤ tt }) body_bytes

    typed : EventFits (frame port body)
    typed = record { port = port_range r s journal port i; short = lit≤ tt; long = lit≤ tt; bytes = body_bytes }

    closes_again : closed (request_written r ch cmd d o₁).kept (free_trn r) ≡ counted_up r
    closes_again =
        let n = its_length r i.ours in
        let t = takes.range in
        ap (λ (x : Outcome). closed x.kept (free_trn r)) written_is
        ∙ stored_and_back (counted_up r) (free_trn r) (ch + 0x100 * cmd) (length_with r 0 ((frame_number r + 1) % 8) n (lit< tt)) t.1
        (number_other r 0 ((frame_number r + 1) % 8) n (lit< tt) (free_trn r) (λ e. omega arith) ∙ closed_is r (free_trn r) takes.free)

    -- the chip after it, but for the send number of a reply
    abbrev after : Adapter
    after = with_registers (counted (state_in s)) (performed (state_in s).registers (asked r ch cmd d))

    due : reaction (state_in s) (frame port body) ≡ finished after (free_trn r) ch (replied (state_in s).registers (asked r ch cmd d))
    due = request_due r s journal port i (free_trn r) ch (len_of (command_at ch cmd)) cmd d fits

    passes : verdict s journal (frame port body) o₂ ≡ Passed
    passes = request_passes r s journal port i body o₂ refl l₂

    at_once : (p : Reply) → replied (state_in s).registers (asked r ch cmd d) ≡ Some p
        → AtOnce way r s journal port ch cmd d o₁ o₂ body p.error p.length p.value
    unfolding replies
    at_once p h =
        record {
          opens = takes.opens;
          reads = λ r₂ o₃ k open-here l₃.
              read_back way brings s (frame port body) typed (reply_control after.link) (free_trn r) ch p.error p.length p.value
              (with_link after (send_up after.link)) after.link.port (due ∙ ap (finished after (free_trn r) ch) h) journal o₂ r₂ o₃ cmd passes k
              (it_matches (free_trn r) ch cmd takes.range listed r₂ open-here) (its_command (free_trn r) ch cmd takes.range listed r₂ open-here) l₃
              (counted_port r s journal port i);
          leaves = closes_again;
        }

    good : Good (state_in s)
    good = its_good s i.state i.bytes

    good_after : Good (reaction (state_in s) (frame port body)).adapter
    good_after = good_stays (state_in s) (frame port body) good typed

    -- the state that the call leaves
    left_state : state_in (called s journal (frame port body) o₂).state ≡ (reaction (state_in s) (frame port body)).adapter
    unfolding done
    left_state =
        ap (λ (x : adapter.Outcome). state_in x.state) (called_done s journal (frame port body) o₂ passes)
        ∙ state_back (reaction (state_in s) (frame port body)).adapter good_after.registers.fits.long

    kept_start_of : replied (state_in s).registers (asked r ch cmd d) ≡ None → KeptStart (asked r ch cmd d) after.registers
    kept_start_of =
        let b = known_bytes ch cmd listed in
        let t = takes.range in
        let short : free_trn r < 256 = omega arith in
        keeps_start (state_in s).registers (asked r ch cmd d) good.registers (record { trn = short; cmd = b.1 })

    later_on : replied (state_in s).registers (asked r ch cmd d) ≡ None → Started way r s journal port ch cmd d o₁ o₂ body
    unfolding done
    later_on h =
        let k = kept_start_of h in
        let e : reaction (state_in s) (frame port body) ≡ silent after 17 = due ∙ ap (finished after (free_trn r) ch) h in
        let c = called_done s journal (frame port body) o₂ passes in
        let back : state_in (called s journal (frame port body) o₂).state ≡ after = left_state ∙ ap (λ (x : Reaction). x.adapter) e in
        record {
          lengths = k.lengths;
          does = k.does;
          command = k.command;
          quiet = ap (λ (x : adapter.Outcome). x.answer) c ∙ ap (λ (x : Reaction). adapter.shown (response x)) e;
          output = ap (λ (x : adapter.Outcome). x.output) c ∙ ap (λ (x : Reaction). laid x.frames o₂) e;
          waits = subst (λ (x : Adapter). Waiting x.registers (free_trn r) cmd k.does) (sym back) k.waits;
          opens = takes.opens;
          ends = completes (free_trn r) ch cmd takes.range k.lengths k.does k.command;
        }

    -- "A request written here with the number the active, unlooped port expects and answered by the adapter is read back as that request's answer, errors
    -- included."
    pub conversation : Answered way r s journal port ch cmd d o₁ o₂ (way (written_body (request_written r ch cmd d o₁)))
        (replied (state_in s).registers (asked r ch cmd d))
    conversation =
        subst (λ (b : List ℕ). Answered way r s journal port ch cmd d o₁ o₂ b (replied (state_in s).registers (asked r ch cmd d))) (sym arrives)
        (by (replied (state_in s).registers (asked r ch cmd d)) refl)
      where
        by : (p : Option Reply) → replied (state_in s).registers (asked r ch cmd d) ≡ p → Answered way r s journal port ch cmd d o₁ o₂ body p
        by (Some p) h = at_once p h
        by None h = later_on h

    -- And both ends are in step again, for the next request.
    step_again : InStep (request_written r ch cmd d o₁).kept (called s journal (frame port body) o₂).state (called s journal (frame port body) o₂).journal port
    unfolding done
    step_again =
        let c = called_done s journal (frame port body) o₂ passes in
        let g = good_after in
        let l : (state_in s).link ≡ link_of s = sym (link_read s) in
        let m : OneUp (state_in s).link (reaction (state_in s) (frame port body)).adapter.link =
        subst (λ (x : Reaction). OneUp (state_in s).link x.adapter.link) (sym due)
        (one_up (state_in s) (performed (state_in s).registers (asked r ch cmd d)) (free_trn r) ch (replied (state_in s).registers (asked r ch cmd d))) in
        let w : link_of (called s journal (frame port body) o₂).state ≡ (reaction (state_in s) (frame port body)).adapter.link =
        link_read (called s journal (frame port body) o₂).state ∙ ap (λ (a : Adapter). a.link) left_state in
        record {
          ours = stays_a_record r (request ch cmd d o₁) i.ours;
          state = subst (λ (x : adapter.Outcome). is_state x.state ≡ true) (sym c) (state_bytes_lem (reaction (state_in s) (frame port body)).adapter g);
          bytes = subst (λ (x : adapter.Outcome). AreBytes x.state) (sym c) (good_bytes (reaction (state_in s) (frame port body)).adapter g);
          formed =
              subst (λ (x : adapter.Outcome). well_formed x.journal ≡ true) (sym c)
              (well_of (recorded_well s (frame port body) journal (of_well journal i.formed)));
          active = i.active ∙ sym (ap (λ (x : Link). x.port) w ∙ m.port ∙ ap (λ (x : Link). x.port) l);
          unlooped =
              ap (λ (x : Link). in_loopback x port) w
              ∙ loops_alike (state_in s).link (reaction (state_in s) (frame port body)).adapter.link port m.primary m.auxiliary
              ∙ ap (λ (x : Link). in_loopback x port) l ∙ i.unlooped;
          expected =
              takes.counts ∙ ap (λ (n : ℕ). (n + 1) % 8) (i.expected ∙ sym (ap receive_number l))
              ∙ sym (ap receive_number w ∙ m.receive);
        }

    pub in_step_again : let e = frame port (way (written_body (request_written r ch cmd d o₁))) in
        InStep (request_written r ch cmd d o₁).kept (called s journal e o₂).state (called s journal e o₂).journal port
    in_step_again =
        subst (λ (b : List ℕ). InStep (request_written r ch cmd d o₁).kept (called s journal (frame port b) o₂).state (called s journal (frame port b) o₂).journal port)
        (sym arrives) step_again

-- A record with the same frame number is in step too, as every one is that reading replies leaves (`Closes`, `Apart`).
pub same_number : (r r₂ s journal : List ℕ) (port : ℕ) → InStep r s journal port → is_record r₂ ≡ true → frame_number r₂ ≡ frame_number r → InStep r₂ s journal port
same_number r r₂ s journal port i h e =
    record {
      ours = h;
      state = i.state;
      bytes = i.bytes;
      formed = i.formed;
      active = i.active;
      unlooped = i.unlooped;
      expected = e ∙ i.expected;
    }

fresh_link_lem : (id : ℕ) → (power_on id).link ≡ fresh_link 0
unfolding powered_on
fresh_link_lem id = refl

power_on_link : (id : ℕ) → link_of (state_bytes (power_on id)) ≡ fresh_link 0
power_on_link id =
    link_read (state_bytes (power_on id)) ∙ ap (λ (a : Adapter). a.link) (state_back (power_on id) (power_on_good id).registers.fits.long) ∙ fresh_link_lem id

zero_record : frame_number (replicate record_size 0) ≡ 0
unfolding number_at part number_of
zero_record = refl

fresh_in_step : (id : ℕ) (journal : List ℕ) → well_formed journal ≡ true → InStep (replicate record_size 0) (state_bytes (power_on id)) journal 0
fresh_in_step id journal w =
    record {
      ours = zeros;
      state = state_bytes_lem (power_on id) (power_on_good id);
      bytes = good_bytes (power_on id) (power_on_good id);
      formed = w;
      active = sym (ap (λ (l : Link). l.port) (power_on_link id));
      unlooped = ap (λ (l : Link). in_loopback l 0) (power_on_link id);
      expected = zero_record ∙ sym (ap receive_number (power_on_link id));
    }

-- A new record, a new adapter and a journal made empty are in step, on port 0.
pub new_in_step : (bytes state journal : List ℕ) (id : ℕ) → length bytes ≡ record_size → length state ≡ state_size → id ≤ number.id_most
    → wrong_length journal ≡ false → InStep (record_made bytes).bytes (created state id).bytes (made_empty journal).bytes 0
unfolding created made_empty record_made
new_in_step bytes state journal id n m h w =
    rw (eq-eqb (length bytes) record_size n, eq-eqb (length state) state_size m, le-ltb number.id_most id h, w)
    (fresh_in_step id (emptied journal) (well_of (emptied_well journal w)))

-- ---- CONNECT and RESET, written here and taken by the chip, bring both ends in step, on their port, whatever went before

-- without and with bit 4
abbrev pub Anew : ℕ → Type 0
Anew n = (n ≡ 0x2F) ⊎ (n ≡ 0x3F) ⊎ (n ≡ 0x8F) ⊎ (n ≡ 0x9F)

-- what holds of the four
anew_cases : (P : ℕ → Type 0) → P 0x2F → P 0x3F → P 0x8F → P 0x9F → (n : ℕ) → Anew n → P n
anew_cases P a b c d n (inl e) = subst P (sym e) a
anew_cases P a b c d n (inr (inl e)) = subst P (sym e) b
anew_cases P a b c d n (inr (inr (inl e))) = subst P (sym e) c
anew_cases P a b c d n (inr (inr (inr e))) = subst P (sym e) d

anew_six : (n : ℕ) → Anew n → Six n
anew_six n (inl e) = inl e
anew_six n (inr (inl e)) = inr (inl e)
anew_six n (inr (inr (inl e))) = inr (inr (inl e))
anew_six n (inr (inr (inr e))) = inr (inr (inr (inl e)))

anew_link : (a : Adapter) (port n : ℕ) → Anew n → (reaction a (frame port (0x00 ∷ n ∷ []))).adapter.link ≡ fresh_link port
unfolding reaction on_frame addressed commanded powered_on
anew_link a port = anew_cases (λ n. (reaction a (frame port (0x00 ∷ n ∷ []))).adapter.link ≡ fresh_link port) refl refl refl refl

module _ (way : List ℕ → List ℕ) (brings : (b : List ℕ) → Framable b → AreBytes b → way b ≡ b) where
  module _ (r s journal : List ℕ) (port control : ℕ) (o₁ o₂ : List ℕ) (ours : is_record r ≡ true) (state : is_state s ≡ true) (bytes : AreBytes s)
      (formed : well_formed journal ≡ true) (two : port ≤ 1) (anew : Anew control) (l₁ : 16 ≤ length o₁) (l₂ : 16 ≤ length o₂) where
    abbrev commanding : List ℕ
    commanding = 0x00 ∷ control ∷ []

    done_here : Commands r control o₁ (command_written r control o₁)
    done_here = command_done r control o₁ ((command_in_order r control o₁).else ours l₁ (anew_six control anew))

    commanding_bytes : AreBytes commanding
    commanding_bytes = each_byte commanding (lit< tt, (anew_cases (λ n. n < 256) (lit< tt) (lit< tt) (lit< tt) (lit< tt) control anew, tt))

    it_arrives : way (written_body (command_written r control o₁)) ≡ commanding
    it_arrives =
        ap (λ (g : Given). way (take g.length (command_written r control o₁).output)) done_here.given
        ∙ ap (λ (t : List ℕ). way (take 2 t)) done_here.body ∙ ap way (front_of commanding o₁)
        ∙ brings commanding (record { least = lit≤ tt; most = lit≤ tt }) commanding_bytes

    command_passes : verdict s journal (frame port commanding) o₂ ≡ Passed
    unfolding verdict in_order
    command_passes = rw (state, formed, le-ltb (length o₂) 16 l₂, le-ltb 1 port two) refl

    in_step_there : InStep (command_written r control o₁).kept (called s journal (frame port commanding) o₂).state
        (called s journal (frame port commanding) o₂).journal port
    unfolding done
    in_step_there =
        let e = frame port commanding in
        let c = called_done s journal e o₂ command_passes in
        let g : Good (reaction (state_in s) e).adapter =
        good_stays (state_in s) e (its_good s state bytes) (record { port = two; short = lit≤ tt; long = lit≤ tt; bytes = commanding_bytes }) in
        let w : link_of (called s journal e o₂).state ≡ fresh_link port =
        link_read (called s journal e o₂).state
        ∙ ap (λ (a : Adapter). a.link)
        (ap (λ (x : adapter.Outcome). state_in x.state) c ∙ state_back (reaction (state_in s) e).adapter g.registers.fits.long)
        ∙ anew_link (state_in s) port control anew in
        record {
          ours = stays_a_record r (command control o₁) ours;
          state = subst (λ (x : adapter.Outcome). is_state x.state ≡ true) (sym c) (state_bytes_lem (reaction (state_in s) e).adapter g);
          bytes = subst (λ (x : adapter.Outcome). AreBytes x.state) (sym c) (good_bytes (reaction (state_in s) e).adapter g);
          formed = subst (λ (x : adapter.Outcome). well_formed x.journal ≡ true) (sym c) (well_of (recorded_well s e journal (of_well journal formed)));
          active = sym (ap (λ (x : Link). x.port) w);
          unlooped = ap (λ (x : Link). in_loopback x port) w ∙ cond_cases (λ (t : Bool). t ≡ false) (eqb port 0) (λ _. refl) (λ _. refl);
          expected = done_here.anew (anew_cases (λ n. is_test n ≡ false) refl refl refl refl control anew) ∙ sym (ap receive_number w);
        }

    pub connected_in_step : let e = frame port (way (written_body (command_written r control o₁))) in
        InStep (command_written r control o₁).kept (called s journal e o₂).state (called s journal e o₂).journal port
    connected_in_step =
        subst (λ (b : List ℕ). InStep (command_written r control o₁).kept (called s journal (frame port b) o₂).state (called s journal (frame port b) o₂).journal port)
        (sym it_arrives) in_step_there

-- ---- through the wire, and handed over

-- Both ways framed by the transmitter and read by a new receiver.
pub over_the_wire_lem : (r s journal : List ℕ) (port ch cmd d : ℕ) (o₁ o₂ : List ℕ) → InStep r s journal port → is_listed (command_at ch cmd) ≡ true
    → (free_trn r ≡ 0xFF → ⊥) → d < 2 ^ 32 → 16 ≤ length o₁ → 16 ≤ length o₂
    → Answered over_the_wire r s journal port ch cmd d o₁ o₂ (over_the_wire (written_body (request_written r ch cmd d o₁)))
    (replied (state_in s).registers (asked r ch cmd d))
over_the_wire_lem = conversation over_the_wire wire_brings

-- Handed from call to call.
pub hand_to_hand : (r s journal : List ℕ) (port ch cmd d : ℕ) (o₁ o₂ : List ℕ) → InStep r s journal port → is_listed (command_at ch cmd) ≡ true
    → (free_trn r ≡ 0xFF → ⊥) → d < 2 ^ 32 → 16 ≤ length o₁ → 16 ≤ length o₂
    → Answered (λ b. b) r s journal port ch cmd d o₁ o₂ (written_body (request_written r ch cmd d o₁)) (replied (state_in s).registers (asked r ch cmd d))
hand_to_hand = conversation (λ b. b) (λ b _ _. refl)

-- ---- ITS ERRORS: never a wrong TRN, channel, CMD or LEN. What is left are the chip's own: not enabled, busy, and NBYTE outside 1 to 16.

pub data OwnError (rs : List ℕ) (ch cmd : ℕ) : ℕ → Type 0 where
  none : OwnError rs ch cmd 0
  disabled : (c : Channel) → channel_of ch ≡ Some c → is_enabled rs c ≡ false → OwnError rs ch cmd 0x20
  working : (c : Channel) → channel_of ch ≡ Some c → is_busy rs c ≡ true → OwnError rs ch cmd 0x40
  nbyte : (l : Lengths) (does : Does) → command_at ch cmd ≡ known l does → can_move rs does ≡ false → OwnError rs ch cmd 0x10

pub own_errors : (r rs : List ℕ) (ch cmd d : ℕ) → is_listed (command_at ch cmd) ≡ true → (free_trn r ≡ 0xFF → ⊥)
    → OwnError rs ch cmd (first_error rs (asked r ch cmd d))
unfolding decoded
own_errors r rs ch cmd d listed free =
    let t = free_among r free in
    rw (ne_eqb (free_trn r) 0x00 (λ e. omega arith), ne_eqb (free_trn r) 0xFF free) (by (channel_of ch) refl refl listed)
  where
    by : (o : Option Channel) → channel_of ch ≡ o → command_at ch cmd ≡ option_and_then (λ c. command_of c cmd) o
        → is_listed (option_and_then (λ c. command_of c cmd) o) ≡ true → OwnError rs ch cmd (error_of (of_channel rs o (asked r ch cmd d)))
    by None n e h = absurd (false≢true h)
    by (Some c) n e h =
        cond_cases (λ (z : Result Command Fault). OwnError rs ch cmd (error_of z)) (not (is_enabled rs c)) (λ off. disabled c n (not-true _ off))
        (λ _. cond_cases (λ (z : Result Command Fault). OwnError rs ch cmd (error_of z)) (is_busy rs c) (working c n)
        (λ _. of (command_of c cmd) e h))
      where
        of : (k : Option Command) → command_at ch cmd ≡ k → is_listed k ≡ true → OwnError rs ch cmd (error_of (of_command rs k (len_of (command_at ch cmd))))
        of None e h = absurd (false≢true h)
        of (Some k) e h =
            rw (e, eq-eqb k.lengths.asked k.lengths.asked refl)
            (cond_cases (λ (z : Result Command Fault). OwnError rs ch cmd (error_of z)) (not (can_move rs k.does)) (λ m. nbyte k.lengths k.does e (not-true _ m))
            (λ _. none))

-- And what the tables don't have (35) the chip would not carry out either: 0x02 or 0x04, where its channel is enabled and idle.
pub unlisted_errors : (rs : List ℕ) (q : Request) → is_listed (command_at q.ch q.cmd) ≡ false → first_error rs q ≡ 0 → ⊥
unlisted_errors rs q h =
    decoded_cases rs q (λ z. error_of z ≡ 0 → ⊥) (λ f e z. e.bit.set z)
    (λ given does g z. true≢false (sym (ap is_listed (granted_command rs q given does g)) ∙ h))

-- ---- a start and its completion, with nothing between

module _ (way : List ℕ → List ℕ) (brings : (b : List ℕ) → Framable b → AreBytes b → way b ≡ b) where
  pub ends_right_after : (r s journal : List ℕ) (port ch cmd d : ℕ) (o₁ o₂ : List ℕ) (i : InStep r s journal port) (listed : is_listed (command_at ch cmd) ≡ true)
      (free : free_trn r ≡ 0xFF → ⊥) (fits : d < 2 ^ 32) (l₁ : 16 ≤ length o₁) (l₂ : 16 ≤ length o₂)
      → let w = request_written r ch cmd d o₁ in let x = called s journal (frame port (way (written_body w))) o₂ in
      (z : Started way r s journal port ch cmd d o₁ o₂ (way (written_body w))) (c : Completion) (o₄ o₃ : List ℕ) → Ends ch z.does c → wrong_completion c ≡ false
      → CompletionOfTypes c → 16 ≤ length o₄ → 16 ≤ length o₃ → Ended way (free_trn r) ch cmd z.lengths.given x.state x.journal c o₄ w.kept o₃
  ends_right_after r s journal port ch cmd d o₁ o₂ i listed free fits l₁ l₂ z c o₄ o₃ e right types l₄ l₃ =
      let again = in_step_again way brings r s journal port ch cmd d o₁ o₂ i listed free fits l₁ l₂ in
      let w = request_written r ch cmd d o₁ in
      let x = called s journal (frame port (way (written_body w))) o₂ in
      z.ends x.state x.journal c o₄ w.kept o₃ again.ours again.state again.formed z.waits z.opens e right types l₄ l₃

-- ---- one channel or another

spi_or_not : (o : Option Channel) → (o ≡ Some channel.Spi) ⊎ (o ≡ Some channel.Spi → ⊥)
spi_or_not None = inr (λ e. let z : ◌≡◌ {A = ℕ} 0 1 = cc in omega arith)
spi_or_not (Some channel.Controller) = inr (λ e. let z : ◌≡◌ {A = ℕ} 0 1 = cc in omega arith)
spi_or_not (Some channel.Spi) = inl refl
spi_or_not (Some channel.Gpio) = inr (λ e. let z : ◌≡◌ {A = ℕ} 0 1 = cc in omega arith)
spi_or_not (Some (channel.Master i)) = inr (λ e. let z : ◌≡◌ {A = ℕ} 0 1 = cc in omega arith)
spi_or_not (Some channel.Seu) = inr (λ e. let z : ◌≡◌ {A = ℕ} 0 1 = cc in omega arith)
spi_or_not (Some channel.Id) = inr (λ e. let z : ◌≡◌ {A = ℕ} 0 1 = cc in omega arith)
spi_or_not (Some channel.Dac) = inr (λ e. let z : ◌≡◌ {A = ℕ} 0 1 = cc in omega arith)

master_or_not : (o : Option Channel) (j : ℕ) → (o ≡ Some (channel.Master j)) ⊎ (o ≡ Some (channel.Master j) → ⊥)
master_or_not None j = inr (λ e. let z : ◌≡◌ {A = ℕ} 0 1 = cc in omega arith)
master_or_not (Some channel.Controller) j = inr (λ e. let z : ◌≡◌ {A = ℕ} 0 1 = cc in omega arith)
master_or_not (Some channel.Spi) j = inr (λ e. let z : ◌≡◌ {A = ℕ} 0 1 = cc in omega arith)
master_or_not (Some channel.Gpio) j = inr (λ e. let z : ◌≡◌ {A = ℕ} 0 1 = cc in omega arith)
master_or_not (Some (channel.Master i)) j =
    split (eqb i j) (λ h. inl (ap (λ (k : ℕ). Some (channel.Master k)) (eqb-true i j h))) (λ h. inr (λ e. let z : i ≡ j = cc in eqb-false i j h z))
master_or_not (Some channel.Seu) j = inr (λ e. let z : ◌≡◌ {A = ℕ} 0 1 = cc in omega arith)
master_or_not (Some channel.Id) j = inr (λ e. let z : ◌≡◌ {A = ℕ} 0 1 = cc in omega arith)
master_or_not (Some channel.Dac) j = inr (λ e. let z : ◌≡◌ {A = ℕ} 0 1 = cc in omega arith)

-- ---- the chip keeps a start through every request but the controller's, whatever comes of it

module _ (rs : List ℕ) (long : length rs ≡ registers.size) (q : Request) (quiet : channel_of q.ch ≡ Some channel.Controller → ⊥) where
  -- of its own channel, which is busy
  same_channel : (c : Channel) → channel_of q.ch ≡ Some c → is_busy rs c ≡ true → performed rs q ≡ rs
  unfolding performed perform.marked
  same_channel c named busy =
      decoded_cases rs q (λ z. perform.left_by rs q z ≡ rs)
      (λ f e. cond_cases (λ (x : List ℕ). x ≡ rs) (eqb (fault_bit f) cmd_unknown)
      (λ h. let u = e.unlisted (eqb-true (fault_bit f) cmd_unknown h) in absurd (never u.which u.named u.idle)) (λ _. refl))
      (λ given does g. absurd (never g.which g.named g.idle))
    where
      never : (d : Channel) → channel_of q.ch ≡ Some d → is_busy rs d ≡ false → ⊥
      never d its idle =
          let same : c ≡ d = let e : ◌≡◌ {A = Option Channel} (Some c) (Some d) = sym named ∙ its in cc in
          true≢false (sym busy ∙ ap (λ (k : Channel). is_busy rs k) same ∙ idle)

  -- of another
  other_channel : (ch : ℕ) (c : Channel) → channel_of ch ≡ Some c → (channel_of q.ch ≡ Some c → ⊥) → (x : Register) → Own c x
      → registers.read (performed rs q) x ≡ registers.read rs x
  other_channel ch c e other x own = own_read c (performed rs q) rs (others_stay rs long q ch c e other quiet) x own

  -- by a register of the channel that makes it busy
  kept_through : (ch : ℕ) (c : Channel) (x : Register) → channel_of ch ≡ Some c → is_busy rs c ≡ true → Own c x
      → (channel_of q.ch ≡ Some c) ⊎ (channel_of q.ch ≡ Some c → ⊥) → registers.read (performed rs q) x ≡ registers.read rs x
  kept_through ch c x e busy own (inl f) = ap (λ (s : List ℕ). registers.read s x) (same_channel c f busy)
  kept_through ch c x e busy own (inr f) = other_channel ch c e f x own

  pub waits_through_requests : (trn ch cmd : ℕ) → Among 1 254 trn → (l : Lengths) (does : Does) → command_at ch cmd ≡ known l does → Waiting rs trn cmd does
      → Waiting (performed rs q) trn cmd does
  waits_through_requests trn ch cmd t l (Write x) k w = absurd w
  waits_through_requests trn ch cmd t l (Switch x) k w = absurd w
  waits_through_requests trn ch cmd t l (Read x) k w = absurd w
  waits_through_requests trn ch cmd t l (Clear x) k w = absurd w
  waits_through_requests trn ch cmd t l (Start x) k w =
      let row = go_row ch cmd l x k in
      let kept : registers.read rs SpiGo ≡ trn = subst (λ (g : Register). registers.read rs g ≡ trn) row.2 w in
      subst (λ (g : Register). registers.read (performed rs q) g ≡ trn) (sym row.2)
      (kept_through ch channel.Spi SpiGo row.0 (ap not (ne_eqb (registers.read rs SpiGo) 0 (λ z. omega arith))) refl (spi_or_not (channel_of q.ch)) ∙ kept)
  waits_through_requests trn ch cmd t l (Transact j x) k w =
      kept_through ch (channel.Master j) (master j Open) (master_row ch cmd l j x k).0
      (ap not (ne_eqb (registers.read rs (master j Open)) 0 (λ z. omega arith))) (field_own j Open) (master_or_not (channel_of q.ch) j) ∙ w
