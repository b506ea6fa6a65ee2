-- What an inner function's contract cites, and no promise: an event as code has it, and what the chip asks of one.
use Rattle.std.specs.Prelude.{ℕ, ◌≡◌, ◌≤◌, ◌<◌, length}
use Rattle.numbers.specs.Numbers.{body_least, body_most, reply_bytes, output_least, transfer_bytes}
use Rattle.commands.specs.Channels.{first_master}
use Rattle.chip.specs.Event.{spi, i2c, Event, frame, completion, sample, upset}
use Rattle.adapter.specs.declared.events.Event.{Event as Told}
use Rattle.adapter.specs.declared.events.Event.TheVariants.{Frame, Spi, I2c, Sample, Upset}

abbrev pub event_of : Told → Event
event_of (Frame port body) = frame port body.now
event_of (Spi received) = completion (spi received.now)
event_of (I2c channel acknowledge low received) = completion (i2c channel acknowledge low received.now)
event_of (Sample levels kind) = sample levels kind
event_of Upset = upset

-- what the chip can be handed
abbrev pub Fits : Event → Type 0
Fits (frame port body) = (port < 256) × (body_least ≤ length body) × (length body ≤ body_most)
Fits (completion (spi received)) = length received ≡ transfer_bytes
Fits (completion (i2c channel acknowledge lineLow received)) = (first_master ≤ channel) × (channel < 256)
Fits (sample levels kind) = kind < 256
Fits upset = Unit

-- and in an output of how many bytes at least
abbrev pub room_for : Event → ℕ
room_for (frame port body) = output_least
room_for (completion c) = output_least
room_for (sample levels kind) = reply_bytes
room_for upset = 0
