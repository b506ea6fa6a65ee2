-- The chip's state: at power-on, in range, and with one part of it anew.
use Rattle.std.specs.Prelude.{ℕ, Bool, ◌&&◌, List, leb, replicate}
use Rattle.commands.specs.declared.command.Register.TheVariants.{ChipId}
use Rattle.registers.specs.Registers.{size, store}
use Rattle.channels.specs.Starts.{sound_registers}
use Rattle.link.specs.Link.{fresh_link}
use Rattle.link.specs.declared.Link.{Link}

pub record Adapter : Type 0 where
  pub link : Link
  -- those of all channels, the SEU counter and the chip's ID among them
  pub registers : List ℕ

abbrev pub adapter : Link → List ℕ → Adapter
adapter l rs = record { link = l; registers = rs }

-- Power-on: all registers and the SEU counter 0; the chip ID as given.
abbrev pub blank : ℕ → List ℕ
blank id = store (replicate size 0) ChipId id

-- Power-on with a port active: the numbers 0, no loopback.
unfoldable pub powered_on : ℕ → ℕ → Adapter
powered_on port id = adapter (fresh_link port) (blank id)

-- Power-on: port 0 active.
abbrev pub power_on : ℕ → Adapter
power_on id = powered_on 0 id

-- Not one of these, which are what 6 means exactly:
unfoldable pub in_range : Adapter → Bool
in_range a =
    -- a link number over 7
    leb a.link.send.0 7
    && leb a.link.receive.0 7
    -- port over 1
    && leb a.link.port 1
    -- ID over 24 bits, or another set bit that reads 0; a disabled SPI, GPIO or I2C register not 0, a GO or a start open with its channel disabled;
    -- exactly one of an open start's TRN and code 0; a kept code that is no start; an open multi-byte start with NBYTE outside 1 to 16
    && sound_registers a.registers

-- ---- one part anew

abbrev pub with_link : Adapter → Link → Adapter
with_link a l = adapter l a.registers

abbrev pub with_registers : Adapter → List ℕ → Adapter
with_registers a rs = adapter a.link rs
