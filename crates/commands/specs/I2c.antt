-- The commands of channels 0x03 to 0x12, the I2C masters (000, tables 6.6 to 6.15), for the master of this number, 0 to 15.
use Rattle.std.specs.Prelude.{ℕ, List, [], ◌∷◌, Option}
use Rattle.bits.specs.Table.{Row, row}
use Rattle.commands.specs.declared.command.Command.{Command}
use Rattle.commands.specs.declared.command.Does.TheVariants.{Write, Read, Transact}
use Rattle.commands.specs.Field.{Mask, Ctrl, Status, Data0, Data1, Data2, Data3, master}
use Rattle.commands.specs.declared.command.Lengths.{Lengths}
use Rattle.commands.specs.declared.command.Transaction.{Transaction}
use Rattle.commands.specs.declared.command.Transaction.TheVariants.{WriteOne, ReadOne, WriteMany, ReadMany, Modify}
use Rattle.commands.specs.Command.{lengths, known}

-- LEN counts the data bytes: of a register of one byte, and of a word of DATA
abbrev write : Lengths
write = lengths 1 0

abbrev read : Lengths
read = lengths 0 1

abbrev write_word : Lengths
write_word = lengths 4 0

abbrev read_word : Lengths
read_word = lengths 0 4

-- a start, with its LEN: request, reply
abbrev pub start : ℕ → ℕ → ℕ → Transaction → Option Command
start i asked given transaction = known (lengths asked given) (Transact i transaction)

abbrev pub i2c_commands : ℕ → List (Row (Option Command))
i2c_commands i =
    -- the registers
    row 0x30 (known write (Write (master i Ctrl)))
    ∷ row 0x31 (known read (Read (master i Ctrl)))
    ∷ row 0x11 (known read (Read (master i Status)))
    ∷ row 0x20 (known write (Write (master i Mask)))
    ∷ row 0x21 (known read (Read (master i Mask)))
    ∷ row 0x40 (known write_word (Write (master i Data0)))
    ∷ row 0x41 (known read_word (Read (master i Data0)))
    ∷ row 0x50 (known write_word (Write (master i Data1)))
    ∷ row 0x51 (known read_word (Read (master i Data1)))
    ∷ row 0x60 (known write_word (Write (master i Data2)))
    ∷ row 0x61 (known read_word (Read (master i Data2)))
    ∷ row 0x70 (known write_word (Write (master i Data3)))
    ∷ row 0x71 (known read_word (Read (master i Data3)))
    -- one byte: 7-bit address, 10-bit address
    ∷ row 0x82 (start i 4 4 WriteOne)
    ∷ row 0x86 (start i 4 4 ReadOne)
    ∷ row 0x8a (start i 6 4 WriteOne)
    ∷ row 0x8e (start i 4 4 ReadOne)
    -- NBYTE bytes: 7-bit address, 10-bit address
    ∷ row 0xda (start i 4 6 WriteMany)
    ∷ row 0xde (start i 4 4 ReadMany)
    ∷ row 0xe2 (start i 2 2 WriteMany)
    ∷ row 0xe6 (start i 2 2 ReadMany)
    -- read-modify-write: AND, OR, XOR
    ∷ row 0xc2 (start i 2 2 Modify)
    ∷ row 0xc6 (start i 2 2 Modify)
    ∷ row 0xca (start i 2 2 Modify)
    ∷ []
