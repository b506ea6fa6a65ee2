-- What a request without an error comes to, and with it every request: its reply, and the registers that it leaves.
use Rattle.std.specs.Prelude.{ℕ, ◌+◌, ◌*◌, ◌^◌, cond, List, eqb, Option, Some, None}
use Rattle.std.specs.Prelude.{Result, Ok, Err}
use Rattle.std.specs.Int.Bits.{bit_or}
use Rattle.commands.specs.declared.channel.Channel.{Channel}
use Rattle.commands.specs.declared.channel.Channel.TheVariants as channel
use Rattle.commands.specs.declared.command.Command.{Command}
use Rattle.commands.specs.declared.command.Does.{Does}
use Rattle.commands.specs.declared.command.Does.TheVariants.{Write, Switch, Read, Clear, Start, Transact}
use Rattle.commands.specs.Field.{Status, Open, master}
use Rattle.commands.specs.declared.request.Request.{Request}
use Rattle.commands.specs.declared.request.Fault.{Fault}
use Rattle.commands.specs.declared.request.Reply.{Reply}
use Rattle.commands.specs.Channels.{channel_of}
use Rattle.commands.specs.Request.{granted, refusal, fault_bit, cmd_unknown}
use Rattle.registers.specs.Registers.{read, store, shown, written}
use Rattle.channels.specs.Rows.{register_of, settled}
use Rattle.channels.specs.Errors.{decoded}

-- the reply, from the registers as they were: a start's comes later
abbrev pub told : List ℕ → ℕ → Does → Option Reply
told rs given (Write r) = Some (granted given 0)
told rs given (Switch c) = Some (granted given 0)
told rs given (Read r) = Some (granted given (shown rs r))
told rs given (Clear r) = Some (granted given 0)
told rs given (Start r) = None
told rs given (Transact i transaction) = None

-- the registers after it; a start keeps its TRN, a master's start also its code, above the TRN
abbrev pub left : List ℕ → Request → Does → List ℕ
left rs q (Write r) = written rs r q.value
left rs q (Switch c) = settled c (written rs (register_of c) q.value)
left rs q (Read r) = rs
left rs q (Clear r) = store rs r 0
left rs q (Start r) = store rs r q.trn
left rs q (Transact i transaction) = store rs (master i Open) (q.trn + 0x100 * q.cmd)

-- ---- every request: an error reply has LEN 2, zero data, and no register changes, but for one bit

-- INVCOM, STATUS bit 5 of a master
abbrev pub with_invcom : List ℕ → Option Channel → List ℕ
with_invcom rs None = rs
with_invcom rs (Some channel.Controller) = rs
with_invcom rs (Some channel.Spi) = rs
with_invcom rs (Some channel.Gpio) = rs
with_invcom rs (Some (channel.Master i)) = store rs (master i Status) (bit_or (read rs (master i Status)) (2 ^ 5))
with_invcom rs (Some channel.Seu) = rs
with_invcom rs (Some channel.Id) = rs
with_invcom rs (Some channel.Dac) = rs

-- 0x04 sets INVCOM, the one change an error reply makes (it goes out only where the channel is enabled and not busy)
unfoldable pub marked : List ℕ → ℕ → ℕ → List ℕ
marked rs ch error = cond (eqb error cmd_unknown) (with_invcom rs (channel_of ch)) rs

abbrev pub reply_to : List ℕ → Result Command Fault → Option Reply
reply_to rs (Err fault) = Some (refusal (fault_bit fault))
reply_to rs (Ok command) = told rs command.lengths.given command.does

abbrev pub left_by : List ℕ → Request → Result Command Fault → List ℕ
left_by rs q (Err fault) = marked rs q.ch (fault_bit fault)
left_by rs q (Ok command) = left rs q command.does

unfoldable pub replied : List ℕ → Request → Option Reply
replied rs q = reply_to rs (decoded rs q)

unfoldable pub performed : List ℕ → Request → List ℕ
performed rs q = left_by rs q (decoded rs q)
