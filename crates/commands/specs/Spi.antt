-- The commands of channel 0x01, the SPI master.
use Rattle.std.specs.Prelude.{List, [], ◌∷◌, Option}
use Rattle.bits.specs.Table.{Row, row}
use Rattle.commands.specs.declared.command.Command.{Command}
use Rattle.commands.specs.declared.command.Does.TheVariants.{Write, Read, Start}
use Rattle.commands.specs.declared.command.Lengths.{Lengths}
use Rattle.commands.specs.declared.command.Register.TheVariants.{SpiControl, SpiFreq, SpiSs, SpiData0, SpiData1, SpiData2, SpiData3, SpiGo}
use Rattle.commands.specs.Command.{lengths, known}

-- LEN: write 6/2, read 2/6, GO 2/6
abbrev write : Lengths
write = lengths 6 2

abbrev read : Lengths
read = lengths 2 6

abbrev pub go : Lengths
go = lengths 2 6

abbrev pub spi_commands : List (Row (Option Command))
spi_commands =
    row 0x40 (known write (Write SpiControl))
    ∷ row 0x41 (known read (Read SpiControl))
    ∷ row 0x50 (known write (Write SpiFreq))
    ∷ row 0x51 (known read (Read SpiFreq))
    ∷ row 0x60 (known write (Write SpiSs))
    ∷ row 0x61 (known read (Read SpiSs))
    ∷ row 0x00 (known write (Write SpiData0))
    ∷ row 0x01 (known read (Read SpiData0))
    ∷ row 0x10 (known write (Write SpiData1))
    ∷ row 0x11 (known read (Read SpiData1))
    ∷ row 0x20 (known write (Write SpiData2))
    ∷ row 0x21 (known read (Read SpiData2))
    ∷ row 0x30 (known write (Write SpiData3))
    ∷ row 0x31 (known read (Read SpiData3))
    ∷ row 0x72 (known go (Start SpiGo))
    ∷ []
