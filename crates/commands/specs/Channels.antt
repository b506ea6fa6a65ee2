-- The channels by their numbers; 0x03 to 0x12 are the sixteen I2C masters. And the command of a channel's code, by the channel's table.
use Rattle.std.specs.Prelude.{ℕ, ◌-◌, Bool, ◌&&◌, cond, List, [], ◌∷◌, leb, Option, Some, None, option_and_then}
use Rattle.bits.specs.Table.{Row, row, look}
use Rattle.commands.specs.declared.channel.Channel.{Channel}
use Rattle.commands.specs.declared.channel.Channel.TheVariants.{Controller, Spi, Gpio, Master, Seu, Id, Dac}
use Rattle.commands.specs.declared.command.Command.{Command}
use Rattle.commands.specs.Command.{code_of}
use Rattle.commands.specs.Controller.{controller_commands}
use Rattle.commands.specs.Spi.{spi_commands}
use Rattle.commands.specs.Gpio.{gpio_commands}
use Rattle.commands.specs.I2c.{i2c_commands}
use Rattle.commands.specs.Seu.{seu_commands}
use Rattle.commands.specs.ChipId.{id_commands}
use Rattle.commands.specs.Dac.{dac_commands}

abbrev pub channels : List (Row (Option Channel))
channels =
    row 0x00 (Some Controller)
    ∷ row 0x01 (Some Spi)
    ∷ row 0x02 (Some Gpio)
    ∷ row 0x13 (Some Seu)
    ∷ row 0x14 (Some Id)
    ∷ row 0x15 (Some Dac)
    ∷ []

-- the channel of master 0
abbrev pub first_master : ℕ
first_master = 0x03

abbrev pub is_master : ℕ → Bool
is_master n = leb first_master n && leb n 0x12

-- a number that no row has is unknown
unfoldable pub channel_of : ℕ → Option Channel
channel_of n = cond (is_master n) (Some (Master (n - first_master))) (look channels None n)

-- ---- their commands

abbrev pub commands_of : Channel → List (Row (Option Command))
commands_of Controller = controller_commands
commands_of Spi = spi_commands
commands_of Gpio = gpio_commands
commands_of (Master i) = i2c_commands i
commands_of Seu = seu_commands
commands_of Id = id_commands
commands_of Dac = dac_commands

abbrev pub command_of : Channel → ℕ → Option Command
command_of ch cmd = code_of (commands_of ch) cmd

-- of a channel's number and a code: an unknown channel has none
abbrev pub command_at : ℕ → ℕ → Option Command
command_at n cmd = option_and_then (λ ch. command_of ch cmd) (channel_of n)
