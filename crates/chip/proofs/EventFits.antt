-- What an event holds that is not refused with 2 or 3: document 01's lengths, and what the language's types hold.
use Rattle.std.proofs.Common.{◌≡◌, ℕ, ◌^◌, ◌<◌, ◌≤◌, List, length}
use Rattle.parts.proofs.Laws.{AreBytes}
use Rattle.chip.specs.Event.{Completion, spi, i2c, Event, frame, completion, sample, upset}

pub record FrameFits (p : ℕ) (s : List ℕ) : Type 0 where
  pub port : p ≤ 1
  pub short : 2 ≤ length s
  pub long : length s ≤ 16
  pub bytes : AreBytes s

pub record SpiReceived (s : List ℕ) : Type 0 where
  pub sixteen : length s ≡ 16
  pub bytes : AreBytes s

pub record I2cReceived (channel : ℕ) (s : List ℕ) : Type 0 where
  pub first : 0x03 ≤ channel
  pub last : channel ≤ 0x12
  pub sixteen : length s ≤ 16
  pub bytes : AreBytes s

pub record SampleFits (l k : ℕ) : Type 0 where
  pub levels : l < 2 ^ 32
  pub kind : k ≤ 2

abbrev pub CompletionFits : Completion → Type 0
CompletionFits (spi received) = SpiReceived received
CompletionFits (i2c channel acknowledge lineLow received) = I2cReceived channel received

abbrev pub EventFits : Event → Type 0
EventFits (frame port body) = FrameFits port body
EventFits (completion c) = CompletionFits c
EventFits (sample levels kind) = SampleFits levels kind
EventFits upset = Unit
