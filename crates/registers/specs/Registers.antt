-- The registers of all channels, as bytes: a row for each, with its place, its width, the bits that it keeps, and the bit of D where its lowest
-- one stands. First those of the core, then those of the channels that CRB, CRC and CRD switch. docs/JOURNAL.md has them byte by byte.
use Rattle.std.specs.Prelude.{ℕ, zero, suc, ◌+◌, ◌*◌, ◌/◌, ◌%◌, ◌^◌, Bool, true, ◌&&◌, List, eqb, replicate}
use Rattle.std.specs.Int.Bits.{bit_and}
use Rattle.parts.specs.Parts.{part, put, all_zero}
use Rattle.parts.specs.Digits.{number, digits, bytes_in}
use Rattle.parts.specs.declared.Width.{Width}
use Rattle.parts.specs.declared.Width.TheVariants.{Byte, Half, Word}
use Rattle.commands.specs.Field.{Status, master}
use Rattle.commands.specs.declared.command.Register.{Register}
use Rattle.commands.specs.declared.command.Register.TheVariants.{Crb, Crc, Crd, SpiControl, SpiFreq, SpiSs, SpiData0, SpiData1, SpiData2, SpiData3}
use Rattle.commands.specs.declared.command.Register.TheVariants.{SpiGo, Dataout, Datain, Direction, Intsel, Inttrig, Ints, Clksel, Edgesel}
use Rattle.commands.specs.declared.command.Register.TheVariants.{Intenable, Seu, DacA, DacB, DacC, DacD, ChipId}
use Rattle.commands.specs.declared.command.Register.TheVariants.{I2cMask, I2cCtrl, I2cStatus, I2cOpen, I2cData0, I2cData1, I2cData2, I2cData3}
use Rattle.registers.specs.declared.Row.{Row}

-- ---- the rows

-- the bytes of all of them
abbrev pub size : ℕ
size = 406

abbrev pub row : ℕ → Width → ℕ → ℕ → Row
row place width mask low = record { place = place; width = width; mask = mask; low = low }

-- where the bytes of an I2C master start: sixteen, one behind the other, 21 bytes each. A number counts modulo 16, so that any number names a master;
-- only 0 to 15 are used.
unfoldable pub bank : ℕ → ℕ
bank i = 70 + 21 * (i % 16)

abbrev pub row_of : Register → Row
-- the controller, in D[31:24]: CRB bit 0 and CRD bits 7 to 5 read 0
row_of Crb = row 0 Byte 0xFE 24
row_of Crc = row 1 Byte 0xFF 24
row_of Crd = row 2 Byte 0x1F 24
-- the SEU counter
row_of Seu = row 3 Word 0xFFFFFFFF 0
-- DAC, in D[7:0]
row_of DacA = row 7 Byte 0xFF 0
row_of DacB = row 8 Byte 0xFF 0
row_of DacC = row 9 Byte 0xFF 0
row_of DacD = row 10 Byte 0xFF 0
-- the chip's ID, 24 bits
row_of ChipId = row 11 Word 0xFFFFFF 0
-- SPI: CONTROL and FREQ in D[15:0], SS in D[7:0], the words of DATA; and the TRN of an open GO, 0 where none is open
row_of SpiControl = row 15 Half 0xFFFF 0
row_of SpiFreq = row 17 Half 0xFFFF 0
row_of SpiSs = row 19 Byte 0xFF 0
row_of SpiData0 = row 20 Word 0xFFFFFFFF 0
row_of SpiData1 = row 24 Word 0xFFFFFFFF 0
row_of SpiData2 = row 28 Word 0xFFFFFFFF 0
row_of SpiData3 = row 32 Word 0xFFFFFFFF 0
row_of SpiGo = row 36 Byte 0xFF 0
-- GPIO: 32 lines; INTENABLE in D[0]
row_of Dataout = row 37 Word 0xFFFFFFFF 0
row_of Datain = row 41 Word 0xFFFFFFFF 0
row_of Direction = row 45 Word 0xFFFFFFFF 0
row_of Intsel = row 49 Word 0xFFFFFFFF 0
row_of Inttrig = row 53 Word 0xFFFFFFFF 0
row_of Ints = row 57 Word 0xFFFFFFFF 0
row_of Clksel = row 61 Word 0xFFFFFFFF 0
row_of Edgesel = row 65 Word 0xFFFFFFFF 0
row_of Intenable = row 69 Byte 0x1 0
-- the I2C masters: MASK, CTRL and STATUS (bits 0, 1, 4 and 7 read 0) in D[31:24]; TRN of an open start, and its code above it, 0 where none is open;
-- the words of DATA, the first byte of each (BYTE0, 4, 8, 12) in D[31:24], so that the bytes stand as BYTE3, 2, 1, 0, 7, ..
row_of (I2cMask i) = row (bank i) Byte 0xFF 24
row_of (I2cCtrl i) = row (bank i + 1) Byte 0xFF 24
row_of (I2cStatus i) = row (bank i + 2) Byte 0x6C 24
row_of (I2cOpen i) = row (bank i + 3) Half 0xFFFF 0
row_of (I2cData0 i) = row (bank i + 5) Word 0xFFFFFFFF 0
row_of (I2cData1 i) = row (bank i + 9) Word 0xFFFFFFFF 0
row_of (I2cData2 i) = row (bank i + 13) Word 0xFFFFFFFF 0
row_of (I2cData3 i) = row (bank i + 17) Word 0xFFFFFFFF 0

-- ---- one register

-- its bytes, low byte first
unfoldable pub read : List ℕ → Register → ℕ
read rs r = number (part (row_of r).place (bytes_in (row_of r).width) rs)

-- a value stored, without the bits that the register does not keep; every other byte stays
unfoldable pub store : List ℕ → Register → ℕ → List ℕ
store rs r v = put (row_of r).place (digits (bytes_in (row_of r).width) (bit_and v (row_of r).mask)) rs

-- a register in D, which has 32 bits; and from D
abbrev pub shown : List ℕ → Register → ℕ
shown rs r = read rs r * 2 ^ (row_of r).low % 2 ^ 32

abbrev pub written : List ℕ → Register → ℕ → List ℕ
written rs r d = store rs r (d / 2 ^ (row_of r).low)

-- ---- some bytes: so many, from a place on

unfoldable pub zeroed : ℕ → ℕ → List ℕ → List ℕ
zeroed first many rs = put first (replicate many 0) rs

unfoldable pub are_zero : ℕ → ℕ → List ℕ → Bool
are_zero first many rs = all_zero (part first many rs)

-- ---- no bit is set that reads 0

abbrev pub is_within : List ℕ → Register → Bool
is_within rs r = eqb (bit_and (read rs r) (row_of r).mask) (read rs r)

-- those that do not keep every bit of their bytes: four, and STATUS of every master
abbrev pub four_within : List ℕ → Bool
four_within rs = is_within rs Crb && is_within rs Crd && is_within rs ChipId && is_within rs Intenable

-- so many in a row, from the first on
abbrev pub each : ℕ → ℕ → (ℕ → Bool) → Bool
each zero first f = true
each (suc n) first f = f first && each n (suc first) f

abbrev pub each_master : (ℕ → Bool) → Bool
each_master f = each 16 0 f

abbrev pub within : List ℕ → Bool
within rs = four_within rs && each_master (λ i. is_within rs (master i Status))
