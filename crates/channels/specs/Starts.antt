-- The open starts of the masters: what one has to be, so that its completion has a reply.
use Rattle.std.specs.Prelude.{ℕ, ◌/◌, ◌%◌, Bool, false, not, ◌&&◌, ◌||◌, List, eqb, Option, Some, None}
use Rattle.commands.specs.Channels.{command_of}
use Rattle.commands.specs.declared.channel.Channel.TheVariants as channel
use Rattle.commands.specs.declared.command.Command.{Command}
use Rattle.commands.specs.declared.command.Does.{Does}
use Rattle.commands.specs.declared.command.Does.TheVariants.{Write, Switch, Read, Clear, Start, Transact}
use Rattle.commands.specs.Field.{Ctrl, Open, master}
use Rattle.registers.specs.Registers.{read, each_master, within}
use Rattle.registers.specs.Transaction.{allows}
use Rattle.channels.specs.Rows.{all_held}

-- the TRN of an open start, and its code, a byte each
abbrev pub open_trn : List ℕ → ℕ → ℕ
open_trn rs i = read rs (master i Open) % 0x100

abbrev pub open_code : List ℕ → ℕ → ℕ
open_code rs i = read rs (master i Open) / 0x100 % 0x100

-- a start that CTRL allows
abbrev pub start_does : ℕ → Does → Bool
start_does control (Write r) = false
start_does control (Switch c) = false
start_does control (Read r) = false
start_does control (Clear r) = false
start_does control (Start r) = false
start_does control (Transact i transaction) = allows control transaction

abbrev pub is_start : ℕ → Option Command → Bool
is_start control None = false
is_start control (Some command) = start_does control command.does

-- Not one of these: exactly one of the open start's TRN and code 0; a code other than 0 that is no start; an open multi-byte start with NBYTE
-- outside 1 to 16. (0 is no start's code.)
unfoldable pub open_sound : List ℕ → ℕ → Bool
open_sound rs i =
    eqb (read rs (master i Open)) 0
    || not (eqb (open_trn rs i) 0) && is_start (read rs (master i Ctrl)) (command_of (channel.Master i) (open_code rs i))

abbrev pub opens_sound : List ℕ → Bool
opens_sound rs = each_master (open_sound rs)

-- ---- registers in range

-- Not one of these: a set bit that reads 0; a disabled SPI or GPIO register, or a disabled master's, that is not 0, and so a GO or a start open with
-- its channel disabled; an open start that is none.
unfoldable pub sound_registers : List ℕ → Bool
sound_registers rs = within rs && all_held rs && opens_sound rs
