-- The group of an event: the registers that it may change besides the core. It follows from the event alone.
use Rattle.std.specs.Prelude.{ℕ, ◌-◌, cond, List, Option, None, length, ◌==◌}
use Rattle.commands.specs.declared.channel.Channel.TheVariants.{Spi, Gpio, Master}
use Rattle.commands.specs.Channels.{first_master}
use Rattle.commands.specs.declared.command.Control.{Control}
use Rattle.channels.specs.Rows.{row_of}
use Rattle.channels.specs.Groups.{group_for}
use Rattle.packets.specs.Packets.{request_of}
use Rattle.chip.specs.Event.{Completion, spi, i2c, Event, frame, completion, sample, upset}
use Rattle.chip.specs.Frame.{information_of}

-- Information of 8 bytes is a request's. Without one, a frame changes the link alone. (An accepted RESET changes all, and leaves no record.)
unfoldable pub group_of_frame : List ℕ → Option Control
group_of_frame body = cond (length (information_of body) == 8) (group_for (request_of (information_of body))) None

abbrev pub group_of_completion : Completion → Option Control
group_of_completion (spi received) = (row_of Spi).group
group_of_completion (i2c channel acknowledge lineLow received) = (row_of (Master (channel - first_master))).group

abbrev pub group_of : Event → Option Control
group_of (frame port body) = group_of_frame body
group_of (completion c) = group_of_completion c
group_of (sample levels kind) = (row_of Gpio).group
group_of upset = None
