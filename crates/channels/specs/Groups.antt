-- A group is the registers that are held at 0 while CRB, CRC or CRD disables their channel, and goes by what switches them. All others are the
-- core's, the SEU counter and the ID too, which a disabled channel keeps. A request may change the core, and the registers of one group or of none.
use Rattle.std.specs.Prelude.{ℕ, Option, Some, None, option_and_then}
use Rattle.commands.specs.Channels.{channel_of, command_of}
use Rattle.commands.specs.declared.channel.Channel.{Channel}
use Rattle.commands.specs.declared.command.Command.{Command}
use Rattle.commands.specs.declared.command.Control.{Control}
use Rattle.commands.specs.declared.command.Control.TheVariants.{B, C, D}
use Rattle.commands.specs.declared.command.Does.{Does}
use Rattle.commands.specs.declared.command.Does.TheVariants.{Write, Switch, Read, Clear, Start, Transact}
use Rattle.commands.specs.declared.request.Request.{Request}
use Rattle.channels.specs.Rows.{row_of}
use Rattle.channels.specs.declared.groups.Span.{Span}

-- ---- the bytes of each among the registers

-- of the core but for the ID, which stands behind them: CRB, CRC, CRD, the SEU counter and the DAC
abbrev pub core_size : ℕ
core_size = 11

-- so many bytes, from a place on
abbrev pub span : ℕ → ℕ → Span
span first many = record { first = first; many = many }

-- CRB's: SPI, GPIO, masters 0 to 4; CRC's: masters 5 to 12; CRD's: masters 13 to 15
abbrev pub span_of : Option Control → Span
span_of None = span 15 0
span_of (Some B) = span 15 160
span_of (Some C) = span 175 168
span_of (Some D) = span 343 63

-- ---- the group that a request may change: the one that its command switches, else its channel's, whatever its answer is

abbrev pub by_does : Option Control → Does → Option Control
by_does g (Write r) = g
by_does g (Switch c) = Some c
by_does g (Read r) = g
by_does g (Clear r) = g
by_does g (Start r) = g
by_does g (Transact i t) = g

abbrev pub by_command : Option Control → Option Command → Option Control
by_command g None = g
by_command g (Some command) = by_does g command.does

unfoldable pub group_for : Request → Option Control
group_for q = option_and_then (λ (ch : Channel). by_command (row_of ch).group (command_of ch q.cmd)) (channel_of q.ch)
