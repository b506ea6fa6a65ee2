-- What an inner function's contract cites, and no promise.
use Rattle.std.specs.Prelude.{ℕ, ◌+◌, cond, eqb, Option, None, Some}
use Rattle.journal.specs.declared.Format.{Format}
use Rattle.journal.specs.Layout.{format_of}
use Rattle.commands.specs.declared.command.Control.TheVariants.{C}
use Rattle.journal.specs.Record.{core_bytes, many_of}

-- the bytes of the longest record: CRC's group has the most
abbrev pub record_most : ℕ
record_most = 1 + core_bytes + many_of (Some C)

-- the format of as many bytes, where there is one
abbrev pub format_in : ℕ → Option Format
format_in n = cond (eqb (format_of n).slots 0) None (Some (format_of n))
