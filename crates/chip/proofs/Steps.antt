-- What an event comes to: the shape of its answer, and beside it what changed of the state. A law about answers goes through the shapes
-- (`shapes`), a law about the state through what can move it (`state_cases`).
use Rattle.std.proofs.Common.{◌≡◌, ℕ, ◌+◌, ◌-◌, ◌%◌, ◌^◌, ◌<◌, ◌≤◌, Bool, true, false, cond, not, ◌&&◌, eqb, List, [], ◌∷◌, length, drop, refl, ap₂, mod-lt, arith, lit<, lit≤}
use borrow.Author.Tests.{not-false}
use Rattle.bits.proofs.Tests.{cond_cases}
use Rattle.commands.specs.declared.channel.Channel.TheVariants.{Spi, Gpio, Master}
use Rattle.commands.specs.declared.command.Command.{Command}
use Rattle.std.specs.Prelude.{Option, None, Some}
use Rattle.commands.specs.declared.command.Transaction.{Transaction}
use Rattle.commands.specs.Channels.{first_master, command_of}
use Rattle.commands.specs.declared.command.Register.TheVariants.{Seu}
use Rattle.commands.specs.declared.request.Reply.{Reply}
use Rattle.registers.specs.Registers.{read, store}
use Rattle.registers.specs.Pins.{sampled}
use Rattle.registers.specs.Transfer.{completed}
use Rattle.registers.specs.Transaction.{ended}
use Rattle.channels.specs.Rows.{is_enabled, is_busy}
use Rattle.channels.specs.Perform as perform
use Rattle.channels.proofs.Laws.{ReplyBytes, replied_bytes, GivenByte, given_byte}
use Rattle.commands.specs.Request.{interrupt_transaction}
use Rattle.commands.specs.Spi.{go}
use Rattle.chip.specs.Numbers.{spi_channel, gpio_channel, interrupt_length}
use Rattle.chip.specs.Event.{Event, frame, completion, sample, upset, spi, i2c}
use Rattle.parts.proofs.Laws.{bytes_drop}
use Rattle.chip.proofs.EventFits.{EventFits}
use Rattle.numbers.specs.Numbers.{no_frame}
use Rattle.packets.specs.Packets.{address, request_of}
use Rattle.state.specs.State.{Adapter, with_link, with_registers}
use Rattle.chip.specs.Answer.{Reaction, sends, gives}
use Rattle.link.specs.Link.{reject_control, acknowledge_control, receive_number, send_up, number_in, is_connect, is_reset, is_test}
use Rattle.chip.specs.Request.{replies, finished, requested}
use Rattle.chip.specs.Frame.{is_reset_frame, address_of, control_of, information_of, connected, reset, looped, counted, commanded, numbered}
use Rattle.chip.specs.Frame.{carried, addressed, on_frame}
use Rattle.chip.specs.Chip.{transferred, on_spi, given_by, transacted, on_i2c, on_sample, on_upset, reaction}

-- ---- how an event can change the state, but for the send number of a reply

-- CONNECT, RESET and TEST
pub data Commanded (a : Adapter) (port : ℕ) (body : List ℕ) : Adapter → Type 0 where
  connects : is_connect (control_of body) ≡ true → Commanded a port body (connected a port)
  resets : is_reset_frame body ≡ true → Commanded a port body (reset a port)
  tests : is_test (control_of body) ≡ true → Commanded a port body (looped a port)

-- the registers that a request leaves
abbrev pub left_by : Adapter → List ℕ → List ℕ
left_by a body = perform.performed a.registers (request_of (information_of body))

-- the registers anew, by a request, a completion, a pin sample or an upset
pub data Moved (a : Adapter) : Event → Adapter → Type 0 where
  requests : (port : ℕ) (body : List ℕ) → eqb (length (information_of body)) 8 ≡ true → Moved a (frame port body) (with_registers (counted a) (left_by a body))
  completes : (received : List ℕ) → is_busy a.registers Spi ≡ true
      → Moved a (completion (spi received)) (with_registers a (completed a.registers received))
  -- the state before it holds what the end of its start needs; its channel is looked at with the event
  ends : (channel : ℕ) (acknowledge lineLow : Bool) (received : List ℕ) (t : Transaction) → is_busy a.registers (Master (channel - first_master)) ≡ true
      → Moved a (completion (i2c channel acknowledge lineLow received))
      (with_registers a (ended (channel - first_master) t acknowledge lineLow received a.registers))
  samples : (levels kind : ℕ) → is_enabled a.registers Gpio ≡ true → Moved a (sample levels kind) (with_registers a (sampled a.registers levels kind))
  counts : Moved a upset (with_registers a (store a.registers Seu ((read a.registers Seu + 1) % 2 ^ 32)))

-- none of these moves the send number or the active port
pub moved_link : (a : Adapter) (e : Event) (b : Adapter) → Moved a e b → (b.link.send ≡ a.link.send) × (b.link.port ≡ a.link.port)
moved_link a e b (requests port body h) = (refl, refl)
moved_link a e b (completes received h) = (refl, refl)
moved_link a e b (ends channel acknowledge lineLow received t h) = (refl, refl)
moved_link a e b (samples levels kind h) = (refl, refl)
moved_link a e b counts = (refl, refl)

pub moved_port : (a : Adapter) (e : Event) (b : Adapter) → Moved a e b → b.link.port ≡ a.link.port
moved_port a e b m = (moved_link a e b m).1

-- ---- the shapes of an answer

-- TRN, CH, ERR and LEN of a reply are bytes
pub record HeaderBytes (t c e l : ℕ) : Type 0 where
  pub trn : t < 256
  pub ch : c < 256
  pub err : e < 256
  pub len : l < 256

pub data Shape (a : Adapter) (e : Event) : Reaction → Type 0 where
  -- 11 to 16
  dropped : (n : ℕ) → 11 ≤ n → n ≤ 16 → Shape a e (gives a n)
  -- the answer of a command
  acknowledged : (port : ℕ) (body : List ℕ) → e ≡ frame port body → (b : Adapter) → Commanded a port body b
      → Shape a e (sends b port (address ∷ acknowledge_control (control_of body) ∷ []))
  -- a loopback's, and SREJ
  echoed : (port : ℕ) (body : List ℕ) → e ≡ frame port body → Shape a e (sends a port body)
  rejected : (port : ℕ) (body : List ℕ) → e ≡ frame port body → Shape a e (sends a port (address ∷ reject_control a.link ∷ []))
  -- a reply or an interrupt
  replied : (b : Adapter) (trn ch err len d : ℕ) → Moved a e b → (EventFits e → HeaderBytes trn ch err len)
      → Shape a e (replies b trn ch err len d)
  -- 17
  quiet : (b : Adapter) → Moved a e b → Shape a e (gives b no_frame)

-- a choice of answers has a shape where each of them has one when it is made
by_test : {a : Adapter} {e : Event} (t : Bool) {r s : Reaction} → (t ≡ true → Shape a e r) → (t ≡ false → Shape a e s) → Shape a e (cond t r s)
by_test {a} {e} t f g = cond_cases (Shape a e) t f g

-- a check: what it drops is 11 to 16
ruleset check = (by_test, not-false, dropped, lit≤, tt)

module _ (a : Adapter) (port : ℕ) (body : List ℕ) where
  of_command_lem : (b : Adapter) → (eqb (length (information_of body)) 0 ≡ true → Commanded a port body b) → Shape a (frame port body) (commanded a b port body)
  unfolding commanded
  of_command_lem b c = search (check, acknowledged)

  of_reply : eqb (length (information_of body)) 8 ≡ true → (r : Option Reply) → ReplyBytes r
      → Shape a (frame port body)
      (finished (with_registers (counted a) (left_by a body)) (request_of (information_of body)).trn (request_of (information_of body)).ch r)
  of_reply h (Some r) t =
      replied _ _ _ r.error r.length r.value (requests port body h)
      (λ f. record { trn = bytes_drop 2 body f.bytes 0; ch = bytes_drop 2 body f.bytes 1; err = t.0; len = t.1 })
  of_reply h None t = quiet _ (requests port body h)

  of_request : eqb (length (information_of body)) 8 ≡ true → Shape a (frame port body) (requested (counted a) (drop 2 body))
  unfolding requested
  of_request h = of_reply h (perform.replied a.registers (request_of (drop 2 body))) (replied_bytes a.registers (request_of (drop 2 body)))

  of_order : eqb (length (information_of body)) 8 ≡ true → Shape a (frame port body) (numbered a port (control_of body) (drop 2 body))
  unfolding numbered
  of_order h = by_test (not (eqb (number_in (control_of body)) (receive_number a.link))) (λ _. rejected port body refl) (λ _. of_request h)

  of_carried : Shape a (frame port body) (carried a port body)
  unfolding carried
  of_carried = search (check, echoed, of_order) depth 8

  of_reset : eqb (address_of body) address ≡ true → is_reset (control_of body) ≡ true → eqb (length (information_of body)) 0 ≡ true
      → Commanded a port body (reset a port)
  unfolding is_reset_frame
  of_reset here h empty = resets (ap₂ ◌&&◌ (ap₂ ◌&&◌ here h) empty)

  of_addressed : eqb (address_of body) address ≡ true → Shape a (frame port body) (addressed a port body)
  unfolding addressed
  of_addressed here = search (check, of_command_lem, connects, of_reset, tests, of_carried) depth 8

  of_frame : Shape a (frame port body) (on_frame a port body)
  unfolding on_frame
  of_frame = search (check, of_addressed)

of_transfer : (a : Adapter) (e : Event) (b : Adapter) (n d : ℕ) → Moved a e b → Shape a e (replies b (n % 0x100) spi_channel 0 go.given d)
of_transfer a e b n d m = replied b _ _ _ _ d m (λ _. record { trn = mod-lt n (lit< tt); ch = lit< tt; err = lit< tt; len = lit< tt })

-- the LEN of a kept code's reply is a byte
given_small : (i code : ℕ) → given_by (command_of (Master i) code) < 256
given_small i code = by (command_of (Master i) code) (given_byte (Master i) code)
  where
    by : (k : Option Command) → GivenByte k → given_by k < 256
    by None g = lit< tt
    by (Some command) g = g

of_ended : (a : Adapter) (channel : ℕ) (acknowledge lineLow : Bool) (received : List ℕ) (b : Adapter) (n i code d : ℕ)
    → Moved a (completion (i2c channel acknowledge lineLow received)) b
    → Shape a (completion (i2c channel acknowledge lineLow received)) (replies b (n % 0x100) channel 0 (given_by (command_of (Master i) code)) d)
of_ended a channel acknowledge lineLow received b n i code d m =
    replied b _ _ _ _ d m (λ f. record { trn = mod-lt n (lit< tt); ch = small channel f.last; err = lit< tt; len = given_small i code })
  where
    small : (n : ℕ) → n ≤ 0x12 → n < 256
    small n l = omega arith

of_interrupt : (a : Adapter) (e : Event) (b : Adapter) (d : ℕ) → Moved a e b → Shape a e (replies b interrupt_transaction gpio_channel 0 interrupt_length d)
of_interrupt a e b d m = replied b _ _ _ _ d m (λ _. record { trn = lit< tt; ch = lit< tt; err = lit< tt; len = lit< tt })

-- every event's answer has one of them
pub shapes : (a : Adapter) (e : Event) → Shape a e (reaction a e)
unfolding reaction on_spi transferred on_i2c transacted on_sample on_upset
shapes a (frame port body) = of_frame a port body
shapes a (completion (spi received)) = search (check, of_transfer, completes)
shapes a (completion (i2c channel acknowledge lineLow received)) = search (check, of_ended, ends)
shapes a (sample levels kind) = search (check, of_interrupt, quiet, samples)
shapes a upset = quiet _ counts

-- ---- the state after an event

module _ (a : Adapter) (e : Event) (P : Adapter → Type 0) (stays : P a)
    (commands : (port : ℕ) (body : List ℕ) (b : Adapter) → e ≡ frame port body → Commanded a port body b → P b)
    (moves : (b : Adapter) → Moved a e b → P b) (raises : (b : Adapter) → P b → P (with_link b (send_up b.link))) where
  of_shape : (r : Reaction) → Shape a e r → P r.adapter
  unfolding replies
  of_shape r (dropped n l u) = stays
  of_shape r (acknowledged port body h b c) = commands port body b h c
  of_shape r (echoed port body h) = stays
  of_shape r (rejected port body h) = stays
  of_shape r (replied b trn ch err len d m f) = raises b (moves b m)
  of_shape r (quiet b m) = moves b m

  -- what the state has, each change keeps, and so does a raised send number, the state after the event has
  pub state_cases : P (reaction a e).adapter
  state_cases = of_shape (reaction a e) (shapes a e)
