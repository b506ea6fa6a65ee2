-- What can happen to the chip.
use Rattle.std.specs.Prelude.{ℕ, Bool, List}

-- What a channel was waiting for is complete: an SPI transfer with 16 received bytes, byte 0 holding bits 7 to 0; the start of one named I2C channel,
-- 0x03 to 0x12, with an acknowledge bit, a line-low bit and up to 16 bytes. (Any other channel, or over 16 bytes, is refused with 3: no event.)
pub data Completion : Type 0 where
  spi : (received : List ℕ) → Completion
  i2c : (channel : ℕ) (acknowledge lineLow : Bool) (received : List ℕ) → Completion

-- A frame body on a port (0 primary, 1 auxiliary); a completion; a pin sample with 32 levels and an edge kind (0 system clock,
-- 1 strobe rising, 2 strobe falling); an upset.
pub data Event : Type 0 where
  frame : (port : ℕ) (body : List ℕ) → Event
  completion : (c : Completion) → Event
  sample : (levels kind : ℕ) → Event
  upset : Event
