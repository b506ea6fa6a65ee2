-- The chip: one function from a state and an event to the one state and the one answer that the tables fix.
use Rattle.std.specs.Prelude.{ℕ, ◌+◌, ◌-◌, ◌%◌, ◌^◌, Bool, false, cond, not, List, Option, None, Some}
use Rattle.numbers.specs.Numbers.{not_busy, lines_disabled, no_frame}
use Rattle.commands.specs.declared.channel.Channel.TheVariants.{Spi, Gpio, Master}
use Rattle.commands.specs.declared.command.Command.{Command}
use Rattle.commands.specs.declared.command.Does.{Does}
use Rattle.commands.specs.declared.command.Does.TheVariants as does
use Rattle.commands.specs.declared.command.Transaction.{Transaction}
use Rattle.commands.specs.declared.command.Transaction.TheVariants.{Modify}
use Rattle.commands.specs.Channels.{first_master, command_of}
use Rattle.commands.specs.declared.command.Register.TheVariants.{SpiData0, SpiGo, Ints, Seu}
use Rattle.commands.specs.Spi.{go}
use Rattle.registers.specs.Registers.{read, store}
use Rattle.registers.specs.Transfer.{completed}
use Rattle.registers.specs.Transaction.{ended, end_data}
use Rattle.registers.specs.Pins.{interrupts, sampled}
use Rattle.channels.specs.Rows.{is_enabled, is_busy}
use Rattle.channels.specs.Starts.{open_trn, open_code}
use Rattle.commands.specs.Request.{interrupt_transaction}
use Rattle.chip.specs.Event.{Completion, spi, i2c, Event, frame, completion, sample, upset}
use Rattle.chip.specs.Numbers.{spi_channel, gpio_channel, interrupt_length}
use Rattle.state.specs.State.{Adapter, with_registers}
use Rattle.chip.specs.Answer.{Reaction, gives}
use Rattle.chip.specs.Request.{replies}
use Rattle.chip.specs.Frame.{on_frame, is_reset_frame}

-- The GO's reply, with its own TRN, carries DATA[31:0]. Byte 0 of the received ones holds bits 7 to 0.
-- (A TRN is a byte: in a state in range the remainder takes nothing away.)
unfoldable pub transferred : Adapter → List ℕ → Reaction
transferred a received =
    let after = completed a.registers received in
    replies (with_registers a after) (read a.registers SpiGo % 0x100) spi_channel 0 go.given (read after SpiData0)

-- Completion when not busy: 15.
unfoldable pub on_spi : Adapter → List ℕ → Reaction
on_spi a received = cond (not (is_busy a.registers Spi)) (gives a not_busy) (transferred a received)

-- ---- the end of a start

-- what a kept code did, and the LEN of its reply. In a state in range it is a start's; any other stands as Modify, which takes no bytes.
abbrev pub transaction_of : Does → Transaction
transaction_of (does.Write r) = Modify
transaction_of (does.Switch c) = Modify
transaction_of (does.Read r) = Modify
transaction_of (does.Clear r) = Modify
transaction_of (does.Start r) = Modify
transaction_of (does.Transact i transaction) = transaction

abbrev pub started_by : Option Command → Transaction
started_by None = Modify
started_by (Some command) = transaction_of command.does

abbrev pub given_by : Option Command → ℕ
given_by None = 0
given_by (Some command) = command.lengths.given

-- The start's reply, with its own TRN: ERR 0 whatever STATUS says, LEN of its row, STATUS in D[31:24].
unfoldable pub transacted : Adapter → ℕ → Bool → Bool → List ℕ → Reaction
transacted a channel acknowledge lineLow received =
    let i = channel - first_master in
    let rs = a.registers in
    let command = command_of (Master i) (open_code rs i) in
    replies (with_registers a (ended i (started_by command) acknowledge lineLow received rs)) (open_trn rs i) channel 0 (given_by command)
    (end_data i (started_by command) acknowledge lineLow received rs)

-- Completion when idle is 15; in a state in range a disabled master is idle.
unfoldable pub on_i2c : Adapter → ℕ → Bool → Bool → List ℕ → Reaction
on_i2c a channel acknowledge lineLow received =
    cond (not (is_busy a.registers (Master (channel - first_master)))) (gives a not_busy) (transacted a channel acknowledge lineLow received)

abbrev pub on_completion : Adapter → Completion → Reaction
on_completion a (spi received) = on_spi a received
on_completion a (i2c channel acknowledge lineLow received) = on_i2c a channel acknowledge lineLow received

-- A pin sample with GPIO disabled: 16. Else an interrupt with data INTS where one goes out, or 17.
unfoldable pub on_sample : Adapter → ℕ → ℕ → Reaction
on_sample a levels kind =
    cond (not (is_enabled a.registers Gpio)) (gives a lines_disabled)
    (let after = sampled a.registers levels kind in
    cond (interrupts a.registers levels kind)
    (replies (with_registers a after) interrupt_transaction gpio_channel 0 interrupt_length (read after Ints))
    (gives (with_registers a after) no_frame))

-- An upset adds 1 to a 32-bit counter that wraps to 0, and gives 17.
unfoldable pub on_upset : Adapter → Reaction
on_upset a = gives (with_registers a (store a.registers Seu ((read a.registers Seu + 1) % 2 ^ 32))) no_frame

unfoldable pub reaction : Adapter → Event → Reaction
reaction a (frame port body) = on_frame a port body
reaction a (completion c) = on_completion a c
reaction a (sample levels kind) = on_sample a levels kind
reaction a upset = on_upset a

-- A frame that resets whatever the state is; an event of another kind never does.
abbrev pub accepted_reset : Event → Bool
accepted_reset (frame port body) = is_reset_frame body
accepted_reset (completion c) = false
accepted_reset (sample levels kind) = false
accepted_reset upset = false
