-- The commands of channel 0x15, the four DAC outputs.
use Rattle.std.specs.Prelude.{List, [], ◌∷◌, Option}
use Rattle.bits.specs.Table.{Row, row}
use Rattle.commands.specs.declared.command.Command.{Command}
use Rattle.commands.specs.declared.command.Does.TheVariants.{Write, Read}
use Rattle.commands.specs.declared.command.Lengths.{Lengths}
use Rattle.commands.specs.declared.command.Register.TheVariants.{DacA, DacB, DacC, DacD}
use Rattle.commands.specs.Command.{lengths, known}

-- LEN: write 4/1, read 1/4
abbrev write : Lengths
write = lengths 4 1

abbrev read : Lengths
read = lengths 1 4

abbrev pub dac_commands : List (Row (Option Command))
dac_commands =
    row 0x10 (known write (Write DacA))
    ∷ row 0x20 (known write (Write DacB))
    ∷ row 0x30 (known write (Write DacC))
    ∷ row 0x40 (known write (Write DacD))
    ∷ row 0x11 (known read (Read DacA))
    ∷ row 0x21 (known read (Read DacB))
    ∷ row 0x31 (known read (Read DacC))
    ∷ row 0x41 (known read (Read DacD))
    ∷ []
