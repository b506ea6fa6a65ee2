-- Worked examples, computed: document 01's listing, its table of commands row by row, its errors, frame checks, transfers and pins, whose
-- interrupts are by request 2026-02. The lengths of channels 0x00, 0x13 and 0x14 are document 01's house lengths: the manual's Table 5.7
-- prints none.
use Rattle.std.proofs.Common.{◌≡◌, ℕ, ◌*◌, List, [], ◌∷◌, ◌++◌, map, get_or, replicate, refl}
use Rattle.bits.specs.Bits.{word}
use Rattle.commands.specs.Channels.{channel_of}
use Rattle.commands.specs.Command.{code_of}
use Rattle.commands.specs.declared.command.Register.TheVariants.{Datain, Seu}
use Rattle.registers.specs.Registers as registers
use Rattle.registers.specs.Pins.{interrupts, sampled, datain_after, firing_lines}
use Rattle.registers.specs.Transfer.{completed, with_data, data_after, completed_word}
use Rattle.channels.specs.Rows.{master_control, master_bit, held, held_all}
use Rattle.channels.specs.Errors.{decoded}
use Rattle.channels.specs.Perform.{marked, replied, performed}
use Rattle.chip.specs.Event.{spi, Event, frame, completion, sample, upset}
use Rattle.state.specs.State.{Adapter, powered_on, power_on, with_registers}
use Rattle.parts.specs.Parts.{part, put}
use Rattle.parts.specs.Digits.{word as fourBytes, number, digits}
use Rattle.chip.specs.Answer.{Reaction, laid}
use Rattle.packets.specs.Packets.{byte_of}
use Rattle.chip.specs.Request.{replies, requested}
use Rattle.chip.specs.Frame.{commanded, numbered, carried, addressed, on_frame}
use Rattle.chip.specs.Chip.{reaction, transferred, on_spi, on_sample, on_upset}

-- the bench's chip
abbrev pub fresh : Adapter
fresh = power_on 0x00000A

-- the state after a run of events
abbrev pub after : Adapter → List Event → Adapter
after a [] = a
after a (e ∷ es) = after (reaction a e).adapter es

-- the body of the frame that an answer sends, none where it sends none
abbrev body_of : List (List ℕ) → List ℕ
body_of [] = []
body_of (body ∷ more) = body

-- what the listing shows of an answer: the number, the port and the body
abbrev shown : Reaction → List ℕ
shown r = r.number ∷ r.port ∷ body_of r.frames

abbrev pub run : Adapter → List Event → List (List ℕ)
run a [] = []
run a (e ∷ es) = shown (reaction a e) ∷ run (reaction a e).adapter es

-- ---- document 01's listing, body to body

abbrev line1 : Event
line1 = frame 0 (0x00 ∷ 0x00 ∷ 0x01 ∷ 0x00 ∷ 0x04 ∷ 0x02 ∷ 0x00 ∷ 0x04 ∷ 0x00 ∷ 0x00 ∷ [])

abbrev line2 : Event
line2 = frame 0 (0x00 ∷ 0x02 ∷ 0x02 ∷ 0x02 ∷ 0x04 ∷ 0x10 ∷ 0x34 ∷ 0x12 ∷ 0x78 ∷ 0x56 ∷ [])

abbrev line3 : Event
line3 = frame 0 (0x00 ∷ 0x04 ∷ 0x03 ∷ 0x02 ∷ 0x01 ∷ 0x11 ∷ 0x00 ∷ 0x00 ∷ 0x00 ∷ 0x00 ∷ [])

abbrev line4 : Event
line4 = frame 0 (0x00 ∷ 0x06 ∷ 0x04 ∷ 0x01 ∷ 0x02 ∷ 0x41 ∷ 0x00 ∷ 0x00 ∷ 0x00 ∷ 0x00 ∷ [])

-- the first five lines; the two steps back then leave the state after line 3, where line 8 goes on
abbrev line8 : Event
line8 = frame 0 (0x00 ∷ 0x06 ∷ 0x05 ∷ 0x02 ∷ 0x01 ∷ 0x11 ∷ 0x00 ∷ 0x00 ∷ 0x00 ∷ 0x00 ∷ [])

-- ---- requests one after the other

-- CH, LEN, CMD and D of a request with TRN 0x01
pub record Ask : Type 0 where
  pub ch : ℕ
  pub len : ℕ
  pub cmd : ℕ
  pub value : ℕ

abbrev pub ask : ℕ → ℕ → ℕ → ℕ → Ask
ask ch len cmd value = record { ch = ch; len = len; cmd = cmd; value = value }

-- as a frame on port 0, with its frame number and a TRN
abbrev pub framed : ℕ → ℕ → Ask → Event
framed n trn q =
    frame 0 (0x00 ∷ 2 * n ∷ trn ∷ q.ch ∷ q.len ∷ q.cmd ∷ byte_of q.value 2 ∷ byte_of q.value 3 ∷ byte_of q.value 0 ∷ byte_of q.value 1 ∷ [])

-- an answer's number and its reply's ERR, LEN and D
abbrev pub told : Reaction → List ℕ
told r =
    let s = body_of r.frames in
    r.number ∷ get_or s 4 0 ∷ get_or s 5 0 ∷ fourBytes (get_or s 8 0) (get_or s 9 0) (get_or s 6 0) (get_or s 7 0) ∷ []

abbrev pub asked : Adapter → List Ask → List (List ℕ)
asked a [] = []
asked a (q ∷ qs) = let r = reaction a (framed a.link.receive.0 0x01 q) in told r ∷ asked r.adapter qs

-- the state after them
abbrev pub left : Adapter → List Ask → Adapter
left a [] = a
left a (q ∷ qs) = left (reaction a (framed a.link.receive.0 0x01 q)).adapter qs

-- ---- rows of document 01's table of commands

-- a request to a channel, and what is told of its answer
pub record Line : Type 0 where
  pub asks : ℕ → Ask
  pub gives : List ℕ

-- CMD, LEN request/reply, D: sent and kept by a write, given by a read; ERR is 0
abbrev pub write : ℕ → ℕ → ℕ → ℕ → Line
write cmd len given d = record { asks = λ ch. ask ch len cmd d; gives = 0 ∷ 0 ∷ given ∷ 0 ∷ [] }

abbrev pub read : ℕ → ℕ → ℕ → ℕ → Line
read cmd len given d = record { asks = λ ch. ask ch len cmd 0xFFFFFFFF; gives = 0 ∷ 0 ∷ given ∷ d ∷ [] }

-- GO: no reply yet
abbrev pub start : ℕ → ℕ → Line
start cmd len = record { asks = λ ch. ask ch len cmd 0xFFFFFFFF; gives = 17 ∷ 0 ∷ 0 ∷ 0 ∷ [] }

-- the channel's requests, one after the other from this state, have these answers
abbrev pub Rows : Adapter → ℕ → List Line → Type 0
Rows a ch rows = asked a (map (λ (l : Line). l.asks ch) rows) ≡ map (λ (l : Line). l.gives) rows

-- ---- states

-- SPI and GPIO, and the channels 0x13 and 0x14, enabled
abbrev enabled : Adapter
enabled = left fresh (ask 0x00 4 0x02 0x06000000 ∷ ask 0x00 4 0x06 0x18000000 ∷ [])

-- a GO of 8 bits open
abbrev busy : Adapter
busy = left enabled (ask 0x01 6 0x40 0x00000008 ∷ ask 0x01 6 0x00 0x11223344 ∷ ask 0x01 2 0x72 0 ∷ [])

-- SPI disabled, and enabled again
abbrev off : Adapter
off = left busy (ask 0x00 4 0x02 0 ∷ [])

abbrev again : Adapter
again = left off (ask 0x00 4 0x02 0x02000000 ∷ [])

-- a GO of length 0, which is 128 bits, open over words of ones
abbrev whole : Adapter
whole =
    left enabled
    (ask 0x01 6 0x00 0xFFFFFFFF ∷ ask 0x01 6 0x10 0xFFFFFFFF ∷ ask 0x01 6 0x20 0xFFFFFFFF ∷ ask 0x01 6 0x30 0xFFFFFFFF ∷ ask 0x01 2 0x72 0 ∷ [])

-- 16 received bytes
abbrev received : Event
received =
    completion (spi (0xAA ∷ 0xBB ∷ 0xCC ∷ 0xDD ∷ 0x11 ∷ 0x22 ∷ 0x33 ∷ 0x44 ∷ 0x55 ∷ 0x66 ∷ 0x77 ∷ 0x88 ∷ 0x01 ∷ 0x02 ∷ 0x03 ∷ 0x04 ∷ []))

-- INTSEL, INTTRIG and INTENABLE written
abbrev armed : ℕ → ℕ → ℕ → Adapter
armed intsel inttrig intenable = left enabled (ask 0x02 4 0x30 intsel ∷ ask 0x02 4 0x40 inttrig ∷ ask 0x02 4 0x60 intenable ∷ [])

-- line 0 rises, and falls
abbrev pulse : List Event
pulse = sample 0x00000001 0 ∷ sample 0x00000000 0 ∷ []

-- the answer that sends nothing; line 0's interrupt, the first after `armed`: Table 9.10, TRN 0xFF, CH 0x02, ERR 0, LEN 4, INTS
abbrev none : List ℕ
none = 17 ∷ 0 ∷ []

abbrev interrupt : List ℕ
interrupt = 0 ∷ 0 ∷ 0x00 ∷ 0xAA ∷ 0xFF ∷ 0x02 ∷ 0x00 ∷ 0x04 ∷ 0x00 ∷ 0x00 ∷ 0x01 ∷ 0x00 ∷ []

-- line 0 with the system clock, line 1 with the strobe rising, line 2 with it falling, line 3 an output
abbrev clocked : Adapter
clocked = left enabled (ask 0x02 4 0x20 0x00000008 ∷ ask 0x02 4 0x80 0x00000006 ∷ ask 0x02 4 0x90 0x00000004 ∷ [])

-- ---- the tables

pub record Tables : Type 0 where
  pub listing : run fresh (line1 ∷ line2 ∷ line3 ∷ line4 ∷ line4 ∷ [])
      ≡ (0 ∷ 0 ∷ 0x00 ∷ 0x20 ∷ 0x01 ∷ 0x00 ∷ 0x00 ∷ 0x02 ∷ 0x00 ∷ 0x00 ∷ 0x00 ∷ 0x00 ∷ [])
      ∷ (0 ∷ 0 ∷ 0x00 ∷ 0x42 ∷ 0x02 ∷ 0x02 ∷ 0x00 ∷ 0x02 ∷ 0x00 ∷ 0x00 ∷ 0x00 ∷ 0x00 ∷ [])
      ∷ (0 ∷ 0 ∷ 0x00 ∷ 0x64 ∷ 0x03 ∷ 0x02 ∷ 0x00 ∷ 0x04 ∷ 0x34 ∷ 0x12 ∷ 0x78 ∷ 0x56 ∷ [])
      ∷ (0 ∷ 0 ∷ 0x00 ∷ 0x86 ∷ 0x04 ∷ 0x01 ∷ 0x20 ∷ 0x02 ∷ 0x00 ∷ 0x00 ∷ 0x00 ∷ 0x00 ∷ [])
      ∷ (0 ∷ 0 ∷ 0x00 ∷ 0x8d ∷ [])
      ∷ []
  pub listing_8 : run (after fresh (line1 ∷ line2 ∷ line3 ∷ [])) (line8 ∷ [])
      ≡ (0 ∷ 0 ∷ 0x00 ∷ 0x86 ∷ 0x05 ∷ 0x02 ∷ 0x00 ∷ 0x04 ∷ 0x34 ∷ 0x12 ∷ 0x78 ∷ 0x56 ∷ []) ∷ []
  -- frames in an output: each at the front of its own 16 bytes, the bytes behind it as they were
  pub two_frames : laid ((0x00 ∷ 0x63 ∷ []) ∷ (0x00 ∷ 0x73 ∷ []) ∷ []) (replicate 34 0xAA)
      ≡ 0x00 ∷ 0x63 ∷ replicate 14 0xAA ++ (0x00 ∷ 0x73 ∷ replicate 16 0xAA)
  -- Table 4.2: TRN 0x00 and 0xFF have bit 3, whatever else is wrong; 0x01 and 0xFE pass
  pub trn_00 : told (reaction fresh (framed 0 0x00 (ask 0x16 9 0xEE 0))) ≡ 0 ∷ 0x08 ∷ 2 ∷ 0 ∷ []
  pub trn_ff : told (reaction fresh (framed 0 0xFF (ask 0x00 2 0x03 0))) ≡ 0 ∷ 0x08 ∷ 2 ∷ 0 ∷ []
  pub trn_01 : told (reaction fresh (framed 0 0x01 (ask 0x00 2 0x03 0))) ≡ 0 ∷ 0x00 ∷ 4 ∷ 0 ∷ []
  pub trn_fe : told (reaction fresh (framed 0 0xFE (ask 0x00 2 0x03 0))) ≡ 0 ∷ 0x00 ∷ 4 ∷ 0 ∷ []
  -- bit 1 before bit 2; 0x15 is known, 0x16 is not; 0x03 to 0x12 are, and not enabled yet
  pub channels : asked fresh (ask 0x15 1 0x11 0 ∷ ask 0x16 9 0xEE 0 ∷ ask 0x03 1 0x30 0 ∷ ask 0x12 9 0xEE 0 ∷ [])
      ≡ (0 ∷ 0x00 ∷ 4 ∷ 0 ∷ []) ∷ (0 ∷ 0x02 ∷ 2 ∷ 0 ∷ []) ∷ (0 ∷ 0x20 ∷ 2 ∷ 0 ∷ []) ∷ (0 ∷ 0x20 ∷ 2 ∷ 0 ∷ []) ∷ []
  -- bit 5 before bit 2, bit 6 before bit 2, bit 2 before bit 4
  pub not_enabled_lem : asked fresh (ask 0x01 9 0xEE 0 ∷ ask 0x02 1 0x11 0 ∷ ask 0x13 4 0xF1 0 ∷ ask 0x14 4 0xD1 0 ∷ [])
      ≡ (0 ∷ 0x20 ∷ 2 ∷ 0 ∷ []) ∷ (0 ∷ 0x20 ∷ 2 ∷ 0 ∷ []) ∷ (0 ∷ 0x20 ∷ 2 ∷ 0 ∷ []) ∷ (0 ∷ 0x20 ∷ 2 ∷ 0 ∷ []) ∷ []
  pub is_busy_lem : asked busy (ask 0x01 9 0xEE 0 ∷ ask 0x01 2 0x41 0 ∷ []) ≡ (0 ∷ 0x40 ∷ 2 ∷ 0 ∷ []) ∷ (0 ∷ 0x40 ∷ 2 ∷ 0 ∷ []) ∷ []
  pub unknown_command : asked enabled (ask 0x02 9 0xEE 0 ∷ ask 0x02 2 0x11 0 ∷ []) ≡ (0 ∷ 0x04 ∷ 2 ∷ 0 ∷ []) ∷ (0 ∷ 0x10 ∷ 2 ∷ 0 ∷ []) ∷ []
  -- 0x00, values in D[31:24]; CRB bit 0 and CRD bits 7 to 5 read 0
  pub controller : Rows fresh 0x00
      (write 0x02 4 2 0xFF000000 ∷ write 0x04 4 2 0xC3FFFFFF ∷ write 0x06 4 2 0xFF000000
      ∷ read 0x03 2 4 0xFE000000 ∷ read 0x05 2 4 0xC3000000 ∷ read 0x07 2 4 0x1F000000 ∷ [])
  -- 0x01, Table 7.7: CONTROL and FREQ in D[15:0], SS in D[7:0], DATA words 0 to 3, GO
  pub spi : Rows enabled 0x01
      (write 0x40 6 2 0xFFFF1234 ∷ write 0x50 6 2 0xFFFF5678 ∷ write 0x60 6 2 0xFFFFFF9A
      ∷ write 0x00 6 2 0x01020304 ∷ write 0x10 6 2 0x11121314 ∷ write 0x20 6 2 0x21222324 ∷ write 0x30 6 2 0x89ABCDEF
      ∷ read 0x41 2 6 0x1234 ∷ read 0x51 2 6 0x5678 ∷ read 0x61 2 6 0x9A
      ∷ read 0x01 2 6 0x01020304 ∷ read 0x11 2 6 0x11121314 ∷ read 0x21 2 6 0x21222324 ∷ read 0x31 2 6 0x89ABCDEF
      ∷ start 0x72 2 ∷ [])
  -- 0x02, Table 9.11: INTENABLE in D[0]; DATAIN is what the lines had
  pub gpio : Rows (after enabled (sample 0x00C0FFEE 0 ∷ [])) 0x02
      (write 0x10 4 2 0x00000010 ∷ write 0x20 4 2 0xF0000001 ∷ write 0x30 4 2 0x00000030 ∷ write 0x40 4 2 0x00000040
      ∷ write 0x70 4 2 0x00000070 ∷ write 0x80 4 2 0x00000080 ∷ write 0x90 4 2 0x00000090 ∷ write 0x60 4 2 0xFFFFFFFF
      ∷ read 0x11 1 4 0x00000010 ∷ read 0x21 1 4 0xF0000001 ∷ read 0x31 1 4 0x00000030 ∷ read 0x41 1 4 0x00000040
      ∷ read 0x71 1 4 0x00000070 ∷ read 0x81 1 4 0x00000080 ∷ read 0x91 1 4 0x00000090 ∷ read 0x61 1 4 0x00000001
      ∷ read 0x01 1 4 0x00C0FFEE ∷ [])
  -- 0x13 after two upsets, with its clear
  pub seu : Rows (after enabled (upset ∷ upset ∷ [])) 0x13 (read 0xF1 4 4 2 ∷ write 0xF0 4 2 0 ∷ read 0xF1 4 4 0 ∷ [])
  -- 0x14
  pub chip_id_lem : Rows enabled 0x14 (read 0xD1 4 4 0x00000A ∷ [])
  -- 0x15, Table 10.2: values in D[7:0]
  pub dac : Rows fresh 0x15
      (write 0x10 4 1 0x15A ∷ write 0x20 4 1 0x15B ∷ write 0x30 4 1 0x15C ∷ write 0x40 4 1 0x15D
      ∷ read 0x11 1 4 0x5A ∷ read 0x21 1 4 0x5B ∷ read 0x31 1 4 0x5C ∷ read 0x41 1 4 0x5D ∷ [])
  -- the counter wraps to 0
  pub wraps : Rows (after (with_registers enabled (registers.store enabled.registers Seu 0xFFFFFFFF)) (upset ∷ [])) 0x13 (read 0xF1 4 4 0 ∷ [])
  -- a completion gives the GO's reply, LEN 6, with its TRN and DATA[31:0], of which 8 bits are received; then SPI is no more busy
  pub completed : run busy (received ∷ []) ≡ (0 ∷ 0 ∷ 0x00 ∷ 0xA8 ∷ 0x01 ∷ 0x01 ∷ 0x00 ∷ 0x06 ∷ 0x22 ∷ 0x11 ∷ 0xAA ∷ 0x33 ∷ []) ∷ []
  pub idle_again : Rows (after busy (received ∷ [])) 0x01 (read 0x01 2 6 0x112233AA ∷ [])
  -- a length of 0: all 128 bits are received, byte 0 holding bits 7 to 0
  pub all_bits : told (reaction whole received) ≡ 0 ∷ 0 ∷ 6 ∷ 0xDDCCBBAA ∷ []
  pub four_words : Rows (after whole (received ∷ [])) 0x01
      (read 0x01 2 6 0xDDCCBBAA ∷ read 0x11 2 6 0x44332211 ∷ read 0x21 2 6 0x88776655 ∷ read 0x31 2 6 0x04030201 ∷ [])
  -- Table 9.7, rising and falling: with INTTRIG 1 the interrupt goes out on rising, with 0 on falling; a line beside it goes by its own bit
  pub on_rising : run (armed 0x00000001 0x00000001 1) pulse ≡ interrupt ∷ none ∷ []
  pub on_falling : run (armed 0x00000001 0x00000000 1) pulse ≡ none ∷ interrupt ∷ []
  pub line_by_line : run (armed 0x00000003 0x00000001 1) (sample 0x00000003 0 ∷ []) ≡ interrupt ∷ []
  -- with INTSEL 0 on neither
  pub unselected : map (λ inttrig. run (armed 0x00000000 inttrig 1) pulse) (0x00000000 ∷ 0x00000001 ∷ []) ≡ (none ∷ none ∷ []) ∷ (none ∷ none ∷ []) ∷ []
  -- INTENABLE 0: a line fires, no interrupt goes out and INTS stays; DATAIN has it
  pub no_interrupt : run (armed 0x00000001 0x00000001 0) (sample 0x00000001 0 ∷ []) ≡ none ∷ []
  pub ints_stays : Rows (after (armed 0x00000001 0x00000001 0) (sample 0x00000001 0 ∷ [])) 0x02 (read 0x71 1 4 0 ∷ read 0x01 1 4 1 ∷ [])
  -- CLKSEL, EDGESEL and DIRECTION: which of the lines 0 to 3, all high, a sample of kind 0, 1 and 2 takes
  pub kinds : map (λ kind. registers.read (after clocked (sample 0x0000000F kind ∷ [])).registers Datain) (0 ∷ 1 ∷ 2 ∷ []) ≡ 0x01 ∷ 0x02 ∷ 0x04 ∷ []
  -- the frame checks: another address, a command with information, another odd control, the other port, a wrong length; the acknowledgements
  pub checks : run fresh (frame 0 (0x01 ∷ 0x00 ∷ []) ∷ frame 0 (0x00 ∷ 0x2F ∷ 0x00 ∷ []) ∷ frame 0 (0x00 ∷ 0x0D ∷ []) ∷ frame 1 (0x00 ∷ 0x00 ∷ []) ∷ frame 0 (0x00 ∷ 0x00 ∷ []) ∷ [])
      ≡ (11 ∷ 0 ∷ []) ∷ (14 ∷ 0 ∷ []) ∷ (13 ∷ 0 ∷ []) ∷ (12 ∷ 0 ∷ []) ∷ (14 ∷ 0 ∷ []) ∷ []
  pub commands : run fresh (frame 1 (0x00 ∷ 0x3F ∷ []) ∷ frame 0 (0x00 ∷ 0xE3 ∷ []) ∷ frame 0 (0x00 ∷ 0x00 ∷ 0x77 ∷ []) ∷ frame 1 (0x00 ∷ 0x8F ∷ []) ∷ [])
      ≡ (0 ∷ 1 ∷ 0x00 ∷ 0x73 ∷ []) ∷ (0 ∷ 0 ∷ 0x00 ∷ 0x63 ∷ []) ∷ (0 ∷ 0 ∷ 0x00 ∷ 0x00 ∷ 0x77 ∷ []) ∷ (0 ∷ 1 ∷ 0x00 ∷ 0x63 ∷ []) ∷ []
  -- disabling drops an open GO for good: its completion is 15, also when SPI is enabled again, and the registers read 0
  pub dropped : run off (received ∷ []) ≡ (15 ∷ 0 ∷ []) ∷ []
  pub dropped_for_good : run again (received ∷ []) ≡ (15 ∷ 0 ∷ []) ∷ []
  pub registers_zero : Rows again 0x01 (read 0x41 2 6 0 ∷ read 0x01 2 6 0 ∷ [])
  -- so does RESET; CONNECT keeps it
  pub reset_drops : run (after busy (frame 0 (0x00 ∷ 0x8F ∷ []) ∷ [])) (received ∷ []) ≡ (15 ∷ 0 ∷ []) ∷ []
  pub kept : told (reaction (after busy (frame 0 (0x00 ∷ 0x2F ∷ []) ∷ [])) received) ≡ 0 ∷ 0 ∷ 6 ∷ 0x112233AA ∷ []

pub tables : Tables
unfolding
    reaction on_frame addressed commanded carried numbered requested replied performed decoded replies on_spi transferred on_sample on_upset put powered_on word
    channel_of code_of registers.read registers.store registers.zeroed held held_all completed with_data data_after completed_word
    interrupts sampled datain_after firing_lines part number digits marked registers.bank master_control master_bit
tables =
    record {
      listing = refl;
      listing_8 = refl;
      two_frames = refl;
      trn_00 = refl;
      trn_ff = refl;
      trn_01 = refl;
      trn_fe = refl;
      channels = refl;
      not_enabled_lem = refl;
      is_busy_lem = refl;
      unknown_command = refl;
      controller = refl;
      spi = refl;
      gpio = refl;
      seu = refl;
      chip_id_lem = refl;
      dac = refl;
      wraps = refl;
      completed = refl;
      idle_again = refl;
      all_bits = refl;
      four_words = refl;
      on_rising = refl;
      on_falling = refl;
      line_by_line = refl;
      unselected = refl;
      no_interrupt = refl;
      ints_stays = refl;
      kinds = refl;
      checks = refl;
      commands = refl;
      dropped = refl;
      dropped_for_good = refl;
      registers_zero = refl;
      reset_drops = refl;
      kept = refl;
    }
