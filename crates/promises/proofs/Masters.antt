-- THE SIXTEEN I2C MASTERS: what document 02 says of them, each sentence once, for the master of every number; the wrong adapters that demand 3 shuts out
-- for them; and worked examples, a row of each kind. Assumes nothing.
use Prim.Native.Nat.{ℕ, ◌+◌, ◌*◌, ◌-◌, ◌<◌}
use mathlib.Core.Bool.{Bool, true, false, ◌||◌, cond, true≢false}
use mathlib.Core.List.{List, [], ◌∷◌, map}
use mathlib.Core.Logic.{inl, inr}
use Rattle.std.specs.Prelude.{None}
use mathlib.Core.Path.{◌≡◌, refl, sym, ap, ◌∙◌}
use native.Mathlib.Omega.{arith}
use borrow.Author.Tests.{eq-eqb, eqb-true, eqb-false}
use lib.Dec.{eqb}
use lib.ListN.{length, replicate}
use Rattle.bits.proofs.Tests.{cond_cases}
use Rattle.parts.specs.Parts.{part, put, all_zero}
use Rattle.parts.specs.Digits.{number, digits}
use Rattle.numbers.specs.Numbers as numbers
use Rattle.commands.specs.Channels.{channel_of, first_master}
use Rattle.commands.specs.Command.{code_of}
use Rattle.commands.specs.Field.{Field, Open, master}
use Rattle.commands.specs.declared.channel.Channel.{Channel}
use Rattle.commands.specs.declared.channel.Channel.TheVariants.{Controller, Spi, Gpio, Master, Seu, Id, Dac}
use Rattle.commands.specs.declared.command.Control.{Control}
use Rattle.commands.specs.declared.command.Does.TheVariants.{Transact}
use Rattle.commands.specs.declared.command.Register.TheVariants.{ChipId}
use Rattle.commands.specs.declared.command.Transaction.{Transaction}
use Rattle.commands.specs.declared.request.Request.{Request}
use Rattle.registers.specs.Registers.{size, bank, read, store, written, zeroed, are_zero, each_master}
use Rattle.registers.specs.Transaction.{word_after, filled_word, filled, ended, end_data}
use Rattle.registers.proofs.Rows.{bank_from, bank_to, among}
use Rattle.registers.proofs.Laws.{length_store, read_zero, each_at}
use Rattle.channels.specs.Rows.{master_control, master_bit, register_of, dropping, is_enabled, held, held_all, settled}
use Rattle.channels.specs.Errors.{decoded}
use Rattle.channels.specs.Perform.{marked, replied, performed}
use Rattle.channels.proofs.Laws.{Sound, RequestBytes, Granted, granted_decoded, kept_start, settled_drops, settled_zero, own_elsewhere, controls_own, among as amongChannels}
use Rattle.channels.proofs.Owners.{field_own}
use Rattle.state.specs.State.{Adapter, with_registers, powered_on}
use Rattle.chip.specs.Answer.{gives}
use Rattle.chip.specs.Event.{Event, frame, completion, spi, i2c, sample, upset}
use Rattle.chip.specs.Request.{replies, requested}
use Rattle.chip.specs.Frame.{reset, is_reset_frame, commanded, numbered, carried, addressed, on_frame}
use Rattle.chip.specs.Chip.{reaction, on_i2c, transacted}
use Rattle.chip.proofs.Examples.{fresh, after, run, Ask, ask, asked, told, left, Rows, write, read as reads}
use Rattle.promises.specs.Runs.{Call, event, batch, back, empty, enlarge, Given, Calls, left as paired, Demand3}
use Rattle.promises.specs.Ours.{Handed, gives_ours, leaves_ours, ours}
use Rattle.promises.proofs.Examples.{below, literal, typed}
use Rattle.promises.proofs.ShutOut.{ran, output, number_of}

-- ---- "A start makes its channel busy": it answers 17 and keeps TRN and code

pub start_kept : (rs : List ℕ) (q : Request) → Sound rs → RequestBytes q → (given i : ℕ) (t : Transaction) → Granted rs q given (Transact i t)
    → (replied rs q ≡ None) × (read (performed rs q) (master i Open) ≡ q.trn + 256 * q.cmd)
unfolding replied performed
start_kept rs q s b given i t g = rw (granted_decoded rs q given (Transact i t) g) (refl, kept_start rs q s b given i t g)

-- ---- "a disabled one holds zeros and drops its start", "completion when idle is 15"

-- `channel` is one of 0x03 to 0x12, whose master has this number
abbrev number_of_lem : ℕ → ℕ
number_of_lem channel = channel - first_master

pub idle : (a : Adapter) (channel : ℕ) (acknowledge low : Bool) (received : List ℕ) → read a.registers (master (number_of_lem channel) Open) ≡ 0
    → reaction a (completion (i2c channel acknowledge low received)) ≡ gives a numbers.not_busy
unfolding reaction on_i2c
idle a channel acknowledge low received e = simp (eq-eqb _ 0 e)

-- each is among those that its register drops
is_master_of : ℕ → Channel → Bool
is_master_of i Controller = false
is_master_of i Spi = false
is_master_of i Gpio = false
is_master_of i (Master j) = eqb i j
is_master_of i Seu = false
is_master_of i Id = false
is_master_of i Dac = false

the_master : (i : ℕ) (ch : Channel) → is_master_of i ch ≡ true → Master i ≡ ch
unfolding is_master_of
the_master i Controller h = absurd (true≢false (sym h))
the_master i Spi h = absurd (true≢false (sym h))
the_master i Gpio h = absurd (true≢false (sym h))
the_master i (Master j) h = ap Master (eqb-true i j h)
the_master i Seu h = absurd (true≢false (sym h))
the_master i Id h = absurd (true≢false (sym h))
the_master i Dac h = absurd (true≢false (sym h))

member : ℕ → List Channel → Bool
member i [] = false
member i (ch ∷ chs) = is_master_of i ch || member i chs

in_list : (i : ℕ) (chs : List Channel) → member i chs ≡ true → amongChannels (Master i) chs
unfolding member
in_list i [] h = true≢false (sym h)
in_list i (ch ∷ chs) h = by (is_master_of i ch) refl h (in_list i chs)
  where
    by : (t : Bool) → is_master_of i ch ≡ t → (t || member i chs) ≡ true → (member i chs ≡ true → amongChannels (Master i) chs) → amongChannels (Master i) (ch ∷ chs)
    by true e f rest = inl (the_master i ch e)
    by false e f rest = inr (rest f)

all_dropping_lem : each_master (λ (i : ℕ). member i (dropping (master_control i))) ≡ true
unfolding member is_master_of master_control
all_dropping_lem = refl

-- A write of the controller that disables a master leaves all its registers 0, its open start too (`off` are the registers as it writes them).
pub disabling_drops : (off : List ℕ) → length off ≡ size → (i : ℕ) → i < 16 → is_enabled off (Master i) ≡ false
    → (f : Field) → read (settled (master_control i) off) (master i f) ≡ 0
disabling_drops off n i l e f =
    let m = in_list i (dropping (master_control i)) (each_at 16 0 (λ (j : ℕ). member j (dropping (master_control j))) all_dropping_lem i (omega arith) l) in
    settled_drops (master_control i) off n (Master i) m e (master i f) (field_own i f)

-- And no later write of the controller, of whichever register, brings a start back, though it may enable the master again: a completion is 15.
pub dropped_for_good : (a : Adapter) (rs : List ℕ) (channel : ℕ) (acknowledge low : Bool) (received : List ℕ) (c : Control) (d : ℕ) → length rs ≡ size
    → read rs (master (number_of_lem channel) Open) ≡ 0
    → let b = with_registers a (settled c (written rs (register_of c) d)) in
    (read b.registers (master (number_of_lem channel) Open) ≡ 0) × (reaction b (completion (i2c channel acknowledge low received)) ≡ gives b numbers.not_busy)
dropped_for_good a rs channel acknowledge low received c d n z = (still, idle _ channel acknowledge low received still)
  where
    elsewhere : read (written rs (register_of c) d) (master (number_of_lem channel) Open) ≡ 0
    elsewhere =
        own_elsewhere (Master (number_of_lem channel)) Controller rs (register_of c) (master (number_of_lem channel) Open) _ n (field_own (number_of_lem channel) Open)
        (controls_own c) (inr (let f = bank_from (number_of_lem channel) in omega arith)) ∙ z

    still : read (settled c (written rs (register_of c) d)) (master (number_of_lem channel) Open) ≡ 0
    still =
        settled_zero c (written rs (register_of c) d) (length_store rs (register_of c) _ n) (Master (number_of_lem channel)) (master (number_of_lem channel) Open)
        (field_own (number_of_lem channel) Open) elsewhere

-- RESET drops it too; that CONNECT changes no register is `connect_keeps` of Sentences.
all_zero_lem : are_zero 0 size (replicate size 0) ≡ true
unfolding are_zero part all_zero
all_zero_lem = refl

pub reset_drops : (a : Adapter) (port channel : ℕ) (acknowledge low : Bool) (received : List ℕ)
    → reaction (reset a port) (completion (i2c channel acknowledge low received)) ≡ gives (reset a port) numbers.not_busy
unfolding powered_on
reset_drops a port channel acknowledge low received =
    let i = number_of_lem channel in
    let f = bank_from i in
    let p = among i Open in
    let r = read a.registers ChipId in
    idle (reset a port) channel acknowledge low received
    (own_elsewhere (Master i) Id (replicate size 0) ChipId (master i Open) r refl (field_own i Open) refl (inr (omega arith))
    ∙ read_zero 0 size (replicate size 0) (master i Open) all_zero_lem (omega arith) (omega (arith, p.1, bank_to i)))

-- ---- what demand 3 shuts out

-- master 0 and its neighbour enabled, and a start on master 0
abbrev enabling : Event
enabling = frame 0 (0x00 ∷ 0x00 ∷ 0x01 ∷ 0x00 ∷ 0x04 ∷ 0x02 ∷ 0x00 ∷ 0x18 ∷ 0x00 ∷ 0x00 ∷ [])

abbrev starting : Event
starting = frame 0 (0x00 ∷ 0x02 ∷ 0x02 ∷ 0x03 ∷ 0x04 ∷ 0x86 ∷ 0x00 ∷ 0x50 ∷ 0x00 ∷ 0x00 ∷ [])

abbrev ending : ℕ → Event
ending channel = completion (i2c channel true false (0xA5 ∷ []))

abbrev enabled_calls : List Call
enabled_calls = event enabling output ∷ []

abbrev started_calls : List Call
started_calls = event enabling output ∷ event starting output ∷ []

module _ (c : Calls) (d : Demand3 c) where
  -- answer every frame at once
  pub at_once : ((p : c.Pair) (port : ℕ) (body o : List ℕ) → (c.gives p (event (frame port body) o)).number ≡ 17 → ⊥) → ⊥
  unfolding
      reaction on_frame addressed commanded carried numbered requested replied performed decoded replies powered_on is_reset_frame put channel_of code_of
      read store zeroed held held_all part number digits bank master_control master_bit marked literal below
  at_once h = h _ _ _ _ (ap number_of (d.reply (ran enabled_calls (typed enabled_calls refl)) starting output))

  -- give the completion of a channel its neighbour's answer
  pub neighbours : ((p : c.Pair) → c.gives p (event (ending 0x03) output) ≡ c.gives p (event (ending 0x04) output)) → ⊥
  unfolding
      reaction on_frame addressed commanded carried numbered requested replied performed decoded replies powered_on is_reset_frame put channel_of code_of
      read store zeroed held held_all part number digits bank master_control master_bit marked literal below on_i2c transacted ended filled end_data
  neighbours h =
      let r = ran started_calls (typed started_calls refl) in
      omega (arith, ap number_of (d.reply r (ending 0x03) output), ap number_of (d.reply r (ending 0x04) output), ap number_of (h (paired c r)))

-- A START THAT REPLIES AT ONCE: an adapter like ours that gives 0 where a frame gets 17.
prompt : Given → Given
prompt g = record { number = cond (eqb g.number 17) 0 g.number; port = g.port; length = g.length; frames = g.frames; sum = g.sum; output = g.output }

hasty : Handed → Call → Given
hasty p (event (frame port body) o) = prompt (gives_ours p (event (frame port body) o))
hasty p (event (completion c) o) = gives_ours p (event (completion c) o)
hasty p (event (sample levels kind) o) = gives_ours p (event (sample levels kind) o)
hasty p (event upset o) = gives_ours p (event upset o)
hasty p (batch list o) = gives_ours p (batch list o)
hasty p back = gives_ours p back
hasty p empty = gives_ours p empty
hasty p (enlarge second) = gives_ours p (enlarge second)

pub replying_at_once : Calls
replying_at_once = record { Pair = Handed; start = ours.start; gives = hasty; leaves = leaves_ours; state = ours.state; kept = ours.kept }

pub replies_at_once : Demand3 replying_at_once → ⊥
unfolding replying_at_once hasty prompt
replies_at_once d = at_once replying_at_once d (λ p port body o e. never (gives_ours p (event (frame port body) o)).number e)
  where
    never : (n : ℕ) → cond (eqb n 17) 0 n ≡ 17 → ⊥
    never n = cond_cases (λ (m : ℕ). m ≡ 17 → ⊥) (eqb n 17) (λ _ z. omega arith) (λ f e. eqb-false n 17 f e)

-- A MASTER THAT ANSWERS FOR ITS NEIGHBOUR: an adapter like ours that takes the completion of every I2C channel for that of channel 0x04.
crossed : Event → Event
crossed (frame port body) = frame port body
crossed (completion (spi received)) = completion (spi received)
crossed (completion (i2c channel acknowledge low received)) = completion (i2c 0x04 acknowledge low received)
crossed (sample levels kind) = sample levels kind
crossed upset = upset

neighbourly : Handed → Call → Given
neighbourly p (event e o) = gives_ours p (event (crossed e) o)
neighbourly p (batch list o) = gives_ours p (batch list o)
neighbourly p back = gives_ours p back
neighbourly p empty = gives_ours p empty
neighbourly p (enlarge second) = gives_ours p (enlarge second)

pub answering_for_another : Calls
answering_for_another =
    record { Pair = Handed; start = ours.start; gives = neighbourly; leaves = leaves_ours; state = ours.state; kept = ours.kept }

pub answers_for_its_neighbour : Demand3 answering_for_another → ⊥
unfolding answering_for_another neighbourly crossed
answers_for_its_neighbour d = neighbours answering_for_another d (λ p. refl)

-- ---- worked examples, on master 7: channel 0x0A, which CRC bit 2 enables

abbrev ready : Adapter
ready = left fresh (ask 0x00 4 0x04 0x04000000 ∷ [])

-- a single read open
abbrev reading : Adapter
reading = left ready (ask 0x0A 4 0x86 0x50000000 ∷ [])

-- a multi-byte read of 5 bytes open, DATA holding other bytes
abbrev reading_five : Adapter
reading_five =
    left ready (ask 0x0A 1 0x30 0x14000000 ∷ ask 0x0A 4 0x40 0x11111111 ∷ ask 0x0A 4 0x50 0x22222222 ∷ ask 0x0A 4 0xDE 0x50000000 ∷ [])

abbrev ends : Bool → Bool → List ℕ → Event
ends acknowledge low received = completion (i2c 0x0A acknowledge low received)

-- a command of the master that is unknown
abbrev refused : Adapter
refused = left ready (ask 0x0A 9 0xEE 0 ∷ [])

-- disabled while busy, and enabled again
abbrev off : Adapter
off = left reading_five (ask 0x00 4 0x04 0 ∷ [])

abbrev again : Adapter
again = left off (ask 0x00 4 0x04 0x04000000 ∷ [])

pub record Worked : Type 0 where
  -- Table 6.15: registers written and read back, VALUE in D[31:24], BYTE0 of DATA in D[31:24]
  pub registers : Rows ready 0x0A
      (write 0x20 1 0 0xA5FFFFFF ∷ write 0x30 1 0 0xFF000000 ∷ write 0x40 4 0 0x01020304 ∷ write 0x70 4 0 0x0D0E0F10
      ∷ reads 0x21 0 1 0xA5000000 ∷ reads 0x31 0 1 0xFF000000 ∷ reads 0x11 0 1 0x00000000 ∷ reads 0x41 0 4 0x01020304 ∷ reads 0x71 0 4 0x0D0E0F10 ∷ [])
  -- LEN of the starts, Tables 6.6 to 6.14: each answers 17 from the idle master
  pub starts : map (λ (q : Ask). asked ready (ask 0x0A 1 0x30 0x04000000 ∷ q ∷ []))
      (ask 0x0A 4 0x82 0 ∷ ask 0x0A 6 0x8A 0 ∷ ask 0x0A 4 0xDA 0 ∷ ask 0x0A 2 0xE2 0 ∷ ask 0x0A 2 0xC2 0 ∷ [])
      ≡ replicate 5 ((0 ∷ 0 ∷ 0 ∷ 0 ∷ []) ∷ (17 ∷ 0 ∷ 0 ∷ 0 ∷ []) ∷ [])
  -- Table 6.7: a single read's reply has STATUS and DATA; with SUCC (0x04) the byte, 0 where it lacks; without, NOACK 0x40, LEVERR 0x08, both
  pub single : map (λ (e : Event). told (reaction reading e))
      (ends true false (0xA5 ∷ []) ∷ ends true false [] ∷ ends false false (0xA5 ∷ []) ∷ ends true true (0xA5 ∷ []) ∷ ends false true (0xA5 ∷ []) ∷ [])
      ≡ (0 ∷ 0 ∷ 4 ∷ 0x04A50000 ∷ []) ∷ (0 ∷ 0 ∷ 4 ∷ 0x04000000 ∷ []) ∷ (0 ∷ 0 ∷ 4 ∷ 0x40000000 ∷ []) ∷ (0 ∷ 0 ∷ 4 ∷ 0x08000000 ∷ [])
      ∷ (0 ∷ 0 ∷ 4 ∷ 0x48000000 ∷ []) ∷ []
  -- a multi-byte read of 5 with 3 bytes, with 7, and without SUCC: lacking ones 0, extra ones ignored, DATA past NBYTE stays
  pub too_few : Rows (after reading_five (ends true false (0xA1 ∷ 0xA2 ∷ 0xA3 ∷ []) ∷ [])) 0x0A (reads 0x41 0 4 0xA1A2A300 ∷ reads 0x51 0 4 0x00222222 ∷ [])
  pub too_many : Rows (after reading_five (ends true false (0xA1 ∷ 0xA2 ∷ 0xA3 ∷ 0xA4 ∷ 0xA5 ∷ 0xA6 ∷ 0xA7 ∷ []) ∷ [])) 0x0A
      (reads 0x41 0 4 0xA1A2A3A4 ∷ reads 0x51 0 4 0xA5222222 ∷ [])
  pub none_taken : Rows (after reading_five (ends false false (0xA1 ∷ 0xA2 ∷ 0xA3 ∷ []) ∷ [])) 0x0A
      (reads 0x41 0 4 0x11111111 ∷ reads 0x51 0 4 0x22222222 ∷ reads 0x11 0 1 0x40000000 ∷ [])
  -- NBYTE 0 and 17 at a multi-byte start give 0x10 and start nothing; a single start does not look
  pub nbyte : asked ready
      (ask 0x0A 4 0xDA 0 ∷ ask 0x0A 1 0x30 0x44000000 ∷ ask 0x0A 4 0xDE 0 ∷ ask 0x0A 0 0x31 0 ∷ ask 0x0A 4 0x82 0 ∷ [])
      ≡ (0 ∷ 0x10 ∷ 2 ∷ 0 ∷ []) ∷ (0 ∷ 0 ∷ 0 ∷ 0 ∷ []) ∷ (0 ∷ 0x10 ∷ 2 ∷ 0 ∷ []) ∷ (0 ∷ 0 ∷ 1 ∷ 0x44000000 ∷ []) ∷ (17 ∷ 0 ∷ 0 ∷ 0 ∷ []) ∷ []
  -- an unknown code is 0x04 and sets INVCOM, which R_STR and every later STATUS show
  pub invcom : asked ready (ask 0x0A 9 0xEE 0 ∷ ask 0x0A 0 0x11 0 ∷ ask 0x0A 9 0x11 0 ∷ [])
      ≡ (0 ∷ 0x04 ∷ 2 ∷ 0 ∷ []) ∷ (0 ∷ 0 ∷ 1 ∷ 0x20000000 ∷ []) ∷ (0 ∷ 0x10 ∷ 2 ∷ 0 ∷ []) ∷ []
  pub invcom_stays : told (reaction (left refused (ask 0x0A 4 0x82 0 ∷ [])) (ends true false [])) ≡ 0 ∷ 0 ∷ 4 ∷ 0x24000000 ∷ []
  -- busy comes before CMD and sets no INVCOM; another channel is not busy
  pub busy : asked reading (ask 0x0A 9 0xEE 0 ∷ ask 0x0B 9 0xEE 0 ∷ []) ≡ (0 ∷ 0x40 ∷ 2 ∷ 0 ∷ []) ∷ (0 ∷ 0x20 ∷ 2 ∷ 0 ∷ []) ∷ []
  -- disabling while busy drops the start for good, and the registers
  pub dropped : run off (ends true false [] ∷ []) ≡ (15 ∷ 0 ∷ []) ∷ []
  pub dropped_again : run again (ends true false [] ∷ []) ≡ (15 ∷ 0 ∷ []) ∷ []
  pub zeros_again : Rows again 0x0A (reads 0x31 0 1 0 ∷ reads 0x41 0 4 0 ∷ reads 0x11 0 1 0 ∷ [])

pub worked : Worked
unfolding
    reaction on_frame addressed commanded carried numbered requested replied performed decoded replies powered_on put channel_of code_of read store zeroed
    held held_all part number digits bank master_control master_bit marked on_i2c transacted ended end_data filled filled_word word_after
worked =
    record {
      registers = refl;
      starts = refl;
      single = refl;
      too_few = refl;
      too_many = refl;
      none_taken = refl;
      nbyte = refl;
      invcom = refl;
      invcom_stays = refl;
      busy = refl;
      dropped = refl;
      dropped_again = refl;
      zeros_again = refl;
    }
