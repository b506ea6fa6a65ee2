-- The first error of a request.
use Rattle.std.specs.Prelude.{ℕ, Bool, true, not, ◌||◌, cond, List, eqb, Option, Some, None}
use Rattle.std.specs.Prelude.{Result, Ok, Err}
use Rattle.commands.specs.declared.channel.Channel.{Channel}
use Rattle.commands.specs.declared.command.Command.{Command}
use Rattle.commands.specs.declared.command.Does.{Does}
use Rattle.commands.specs.declared.command.Does.TheVariants.{Write, Switch, Read, Clear, Start, Transact}
use Rattle.commands.specs.Field.{Ctrl, master}
use Rattle.commands.specs.declared.request.Fault.{Fault}
use Rattle.commands.specs.declared.request.Fault.TheVariants.{TrnWrong, ChUnknown, NotEnabled, Busy, CmdUnknown, LenWrong}
use Rattle.commands.specs.declared.request.Request.{Request}
use Rattle.commands.specs.Channels.{channel_of, command_of}
use Rattle.commands.specs.Request.{no_transaction, interrupt_transaction, fault_bit}
use Rattle.registers.specs.Registers.{read}
use Rattle.registers.specs.Transaction.{allows}
use Rattle.channels.specs.Rows.{is_enabled, is_busy}

-- NBYTE outside 1 to 16 at a multi-byte start moves nothing and gives 0x10
abbrev pub can_move : List ℕ → Does → Bool
can_move rs (Write r) = true
can_move rs (Switch c) = true
can_move rs (Read r) = true
can_move rs (Clear r) = true
can_move rs (Start r) = true
can_move rs (Transact i transaction) = allows (read rs (master i Ctrl)) transaction

-- CMD unknown 0x04; LEN wrong 0x10, NBYTE too; else the command
abbrev pub of_command : List ℕ → Option Command → ℕ → Result Command Fault
of_command rs None len = Err CmdUnknown
of_command rs (Some command) len =
    cond (not (eqb len command.lengths.asked)) (Err LenWrong)
    (cond (not (can_move rs command.does)) (Err LenWrong)
    (Ok command))

-- CH unknown 0x02; channel not enabled 0x20; busy 0x40
abbrev pub of_channel : List ℕ → Option Channel → Request → Result Command Fault
of_channel rs None q = Err ChUnknown
of_channel rs (Some ch) q =
    cond (not (is_enabled rs ch)) (Err NotEnabled)
    (cond (is_busy rs ch) (Err Busy)
    (of_command rs (command_of ch q.cmd) q.len))

-- One error bit is set (Table 4.2), the first that applies: TRN 0x00 or 0xFF 0x08; CH unknown 0x02; channel not enabled 0x20; busy 0x40;
-- CMD unknown 0x04; LEN wrong 0x10. NBYTE comes with LEN.
unfoldable pub decoded : List ℕ → Request → Result Command Fault
decoded rs q =
    cond (eqb q.trn no_transaction || eqb q.trn interrupt_transaction) (Err TrnWrong)
    (of_channel rs (channel_of q.ch) q)

-- ERR as a number, 0 where there is none
abbrev pub error_of : Result Command Fault → ℕ
error_of (Err fault) = fault_bit fault
error_of (Ok command) = 0

abbrev pub first_error : List ℕ → Request → ℕ
first_error rs q = error_of (decoded rs q)
