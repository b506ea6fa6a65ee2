-- The commands of channel 0x02, the 32 parallel lines.
use Rattle.std.specs.Prelude.{List, [], ◌∷◌, Option}
use Rattle.bits.specs.Table.{Row, row}
use Rattle.commands.specs.declared.command.Command.{Command}
use Rattle.commands.specs.declared.command.Does.TheVariants.{Write, Read}
use Rattle.commands.specs.declared.command.Lengths.{Lengths}
use Rattle.commands.specs.declared.command.Register.TheVariants.{Dataout, Direction, Intsel, Inttrig, Ints, Clksel, Edgesel, Intenable, Datain}
use Rattle.commands.specs.Command.{lengths, known}

-- LEN: write 4/2, read 1/4
abbrev write : Lengths
write = lengths 4 2

abbrev read : Lengths
read = lengths 1 4

-- DATAIN is only read
abbrev pub gpio_commands : List (Row (Option Command))
gpio_commands =
    row 0x10 (known write (Write Dataout))
    ∷ row 0x11 (known read (Read Dataout))
    ∷ row 0x20 (known write (Write Direction))
    ∷ row 0x21 (known read (Read Direction))
    ∷ row 0x30 (known write (Write Intsel))
    ∷ row 0x31 (known read (Read Intsel))
    ∷ row 0x40 (known write (Write Inttrig))
    ∷ row 0x41 (known read (Read Inttrig))
    ∷ row 0x70 (known write (Write Ints))
    ∷ row 0x71 (known read (Read Ints))
    ∷ row 0x80 (known write (Write Clksel))
    ∷ row 0x81 (known read (Read Clksel))
    ∷ row 0x90 (known write (Write Edgesel))
    ∷ row 0x91 (known read (Read Edgesel))
    ∷ row 0x60 (known write (Write Intenable))
    ∷ row 0x61 (known read (Read Intenable))
    ∷ row 0x01 (known read (Read Datain))
    ∷ []
