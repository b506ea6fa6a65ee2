-- The commands of channel 0x00, the controller.
use Rattle.std.specs.Prelude.{List, [], ◌∷◌, Option}
use Rattle.bits.specs.Table.{Row, row}
use Rattle.commands.specs.declared.command.Command.{Command}
use Rattle.commands.specs.declared.command.Control.TheVariants.{B, C, D}
use Rattle.commands.specs.declared.command.Does.TheVariants.{Switch, Read}
use Rattle.commands.specs.declared.command.Lengths.{Lengths}
use Rattle.commands.specs.declared.command.Register.TheVariants.{Crb, Crc, Crd}
use Rattle.commands.specs.Command.{lengths, known}

-- LEN: write 4/2, read 2/4
abbrev write : Lengths
write = lengths 4 2

abbrev read : Lengths
read = lengths 2 4

-- a write switches other channels
abbrev pub controller_commands : List (Row (Option Command))
controller_commands =
    row 0x02 (known write (Switch B))
    ∷ row 0x04 (known write (Switch C))
    ∷ row 0x06 (known write (Switch D))
    ∷ row 0x03 (known read (Read Crb))
    ∷ row 0x05 (known read (Read Crc))
    ∷ row 0x07 (known read (Read Crd))
    ∷ []
