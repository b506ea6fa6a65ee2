-- Bytes of document 01's frames, by name. The numbers given back are those of the crate numbers.
use Rattle.std.specs.Prelude.{ℕ}

-- the channel of a GO's reply
abbrev pub spi_channel : ℕ
spi_channel = 0x01

-- the channel of an interrupt
abbrev pub gpio_channel : ℕ
gpio_channel = 0x02

-- an interrupt's LEN
abbrev pub interrupt_length : ℕ
interrupt_length = 4
