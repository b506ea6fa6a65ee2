-- The commands of channel 0x14, the chip ID in D[23:0].
use Rattle.std.specs.Prelude.{List, [], ◌∷◌, Option}
use Rattle.bits.specs.Table.{Row, row}
use Rattle.commands.specs.declared.command.Command.{Command}
use Rattle.commands.specs.declared.command.Does.TheVariants.{Read}
use Rattle.commands.specs.declared.command.Lengths.{Lengths}
use Rattle.commands.specs.declared.command.Register.TheVariants.{ChipId}
use Rattle.commands.specs.Command.{lengths, known}

-- LEN: read 4/4
abbrev read : Lengths
read = lengths 4 4

abbrev pub id_commands : List (Row (Option Command))
id_commands =
    row 0xd1 (known read (Read ChipId))
    ∷ []
