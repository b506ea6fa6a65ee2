-- The commands of channel 0x13, the counter of single event upsets.
use Rattle.std.specs.Prelude.{List, [], ◌∷◌, Option}
use Rattle.bits.specs.Table.{Row, row}
use Rattle.commands.specs.declared.command.Command.{Command}
use Rattle.commands.specs.declared.command.Does.TheVariants.{Read, Clear}
use Rattle.commands.specs.declared.command.Lengths.{Lengths}
use Rattle.commands.specs.declared.command.Register.TheVariants.{Seu}
use Rattle.commands.specs.Command.{lengths, known}

-- LEN: read 4/4, clear 4/2
abbrev read : Lengths
read = lengths 4 4

abbrev clear : Lengths
clear = lengths 4 2

abbrev pub seu_commands : List (Row (Option Command))
seu_commands =
    row 0xf1 (known read (Read Seu))
    ∷ row 0xf0 (known clear (Clear Seu))
    ∷ []
