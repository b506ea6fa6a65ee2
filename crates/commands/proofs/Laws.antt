-- No table has a channel or a code over a byte, nor command 0x00 of channel 0x00.
use Prim.Native.Nat.{ℕ, ◌≤◌}
use mathlib.Core.Bool.{true}
use mathlib.Core.Path.{◌≡◌, refl, ap}
use native.Mathlib.Omega.{arith}
use borrow.Author.Tests.{le-leb, lt-leb}
use Rattle.std.specs.Prelude.{Option, Some, None, option_and_then}
use Rattle.bits.proofs.Rows.{codes_below, look_beyond}
use Rattle.commands.specs.declared.channel.Channel.{Channel}
use Rattle.commands.specs.declared.channel.Channel.TheVariants.{Controller, Spi, Gpio, Master, Seu, Id, Dac}
use Rattle.commands.specs.Command.{code_of}
use Rattle.commands.specs.Channels.{channels, channel_of, commands_of, command_of, command_at}

codes : (ch : Channel) → codes_below 0x100 (commands_of ch) ≡ true
codes Controller = refl
codes Spi = refl
codes Gpio = refl
codes (Master i) = refl
codes Seu = refl
codes Id = refl
codes Dac = refl

pub code_beyond : (ch : Channel) (cmd : ℕ) → 0x100 ≤ cmd → command_of ch cmd ≡ None
unfolding code_of
code_beyond ch cmd h = look_beyond 0x100 (commands_of ch) None cmd (codes ch) h

pub channel_beyond : (ch : ℕ) → 0x100 ≤ ch → channel_of ch ≡ None
unfolding channel_of
channel_beyond ch h = simp (le-leb 0x03 ch (omega arith), lt-leb ch 0x12 (omega arith)) (look_beyond 0x100 channels None ch refl h)

-- nor has a channel over a byte a command
pub none_beyond : (ch cmd : ℕ) → 0x100 ≤ ch → command_at ch cmd ≡ None
none_beyond ch cmd h = ap (option_and_then (λ (c : Channel). command_of c cmd)) (channel_beyond ch h)

pub no_zero : command_at 0 0 ≡ None
unfolding channel_of code_of
no_zero = refl

-- and no channel has a code over a byte
pub code_at_beyond : (ch cmd : ℕ) → 0x100 ≤ cmd → command_at ch cmd ≡ None
code_at_beyond ch cmd h = by (channel_of ch)
  where
    by : (o : Option Channel) → option_and_then (λ (c : Channel). command_of c cmd) o ≡ None
    by None = refl
    by (Some c) = code_beyond c cmd h
