-- The registers of an I2C master. Open is none of the manual: it has the TRN of an open start and, above it, the start's code.
use Rattle.std.specs.Prelude.{ℕ}
use Rattle.commands.specs.declared.command.Register.{Register}
use Rattle.commands.specs.declared.command.Register.TheVariants.{I2cMask, I2cCtrl, I2cStatus, I2cOpen, I2cData0, I2cData1, I2cData2, I2cData3}

pub data Field : Type 0 where
  Mask : Field
  Ctrl : Field
  Status : Field
  Open : Field
  Data0 : Field
  Data1 : Field
  Data2 : Field
  Data3 : Field

-- of the master of this number, 0 to 15
abbrev pub master : ℕ → Field → Register
master i Mask = I2cMask i
master i Ctrl = I2cCtrl i
master i Status = I2cStatus i
master i Open = I2cOpen i
master i Data0 = I2cData0 i
master i Data1 = I2cData1 i
master i Data2 = I2cData2 i
master i Data3 = I2cData3 i
