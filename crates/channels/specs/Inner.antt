-- What an inner function's contract cites, and no promise: a master's part of what is in range, as one test; what is said where there is no channel.
use Rattle.std.specs.Prelude.{ℕ, ◌+◌, ◌%◌, ◌^◌, ◌<◌, Bool, not, ◌&&◌, List, ◌≡◌, eqb, ltb, false, Option, Some, None}
use Rattle.std.specs.Int.Bits.{bit_and}
use Rattle.commands.specs.declared.channel.Channel.{Channel}
use Rattle.commands.specs.declared.channel.Channel.TheVariants as channel
use Rattle.commands.specs.Field.{Status, master}
use Rattle.commands.specs.declared.command.Control.{Control}
use Rattle.commands.specs.declared.command.Control.TheVariants.{B, C, D}
use Rattle.commands.specs.declared.command.Register.TheVariants.{Crb, Crc, Crd}
use Rattle.registers.specs.Registers.{read, is_within}
use Rattle.channels.specs.Rows.{is_enabled, is_busy, still_held}
use Rattle.channels.specs.Starts.{open_sound}

-- where there is no channel, nothing enables it and nothing makes it busy
abbrev pub is_enabled_at : List ℕ → Option Channel → Bool
is_enabled_at rs None = false
is_enabled_at rs (Some ch) = is_enabled rs ch

abbrev pub is_busy_at : List ℕ → Option Channel → Bool
is_busy_at rs None = false
is_busy_at rs (Some ch) = is_busy rs ch

unfoldable pub master_sound : List ℕ → ℕ → Bool
master_sound rs i = is_within rs (master i Status) && (still_held rs (channel.Master i) && open_sound rs i)

-- no master is enabled
abbrev pub none_on : List ℕ → Bool
none_on rs = ltb (read rs Crb) 8 && eqb (read rs Crc) 0 && eqb (read rs Crd % 8) 0

-- the masters that a register of the controller's switches: so many, from the first on
abbrev pub first_by : Control → ℕ
first_by B = 0
first_by C = 5
first_by D = 13

abbrev pub many_by : Control → ℕ
many_by B = 5
many_by C = 8
many_by D = 3

-- bit k of a number enables the k-th of so many masters, from the first on
abbrev pub Enables : List ℕ → ℕ → ℕ → ℕ → Type 0
Enables rs bits first many = (k : ℕ) → k < many → not (eqb (bit_and bits (2 ^ k)) 0) ≡ is_enabled rs (channel.Master (first + k))
