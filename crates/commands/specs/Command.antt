-- A command: the LEN that it asks and gives, and what it does. What a code stands for, by a channel's table.
use Rattle.std.specs.Prelude.{ℕ, List, Option, Some, None}
use Rattle.bits.specs.Table.{Row, look}
use Rattle.commands.specs.declared.command.Command.{Command}
use Rattle.commands.specs.declared.command.Does.{Does}
use Rattle.commands.specs.declared.command.Lengths.{Lengths}

-- LEN of a command, request/reply
abbrev pub lengths : ℕ → ℕ → Lengths
lengths asked given = record { asked = asked; given = given }

-- what a table has at a code
abbrev pub known : Lengths → Does → Option Command
known lengths does = Some (record { lengths = lengths; does = does })

-- a code that no row has is unknown
unfoldable pub code_of : List (Row (Option Command)) → ℕ → Option Command
code_of commands cmd = look commands None cmd
