-- A row for each channel: what enables it, what makes it busy, the group that its registers are in, its own bytes among the registers. And what
-- follows from it: what a disabled channel holds.
use Rattle.std.specs.Prelude.{ℕ, ◌+◌, ◌-◌, ◌%◌, ◌^◌, Bool, true, false, not, ◌&&◌, ◌||◌, cond, List, [], ◌∷◌, ◌++◌, eqb, ltb, Option, Some, None}
use Rattle.std.specs.Int.Bits.{bit_and}
use Rattle.commands.specs.declared.channel.Channel.{Channel}
use Rattle.commands.specs.declared.channel.Channel.TheVariants.{Controller, Spi, Gpio, Master, Seu, Id, Dac}
use Rattle.commands.specs.declared.command.Control.{Control}
use Rattle.commands.specs.declared.command.Control.TheVariants.{B, C, D}
use Rattle.commands.specs.Field.{Open, master}
use Rattle.commands.specs.declared.command.Register.{Register}
use Rattle.commands.specs.declared.command.Register.TheVariants.{Crb, Crc, Crd, SpiGo}
use Rattle.registers.specs.Registers.{bank, read, zeroed, are_zero}
use Rattle.channels.specs.declared.rows.Row.{Row}
use Rattle.channels.specs.declared.rows.Switch.{Switch}

-- ---- the rows

-- what enables a channel: a bit of a register of the controller's, or none, where it is always enabled
abbrev pub by_bit : Control → ℕ → Option Switch
by_bit c b = Some (record { control = c; bit = b })

abbrev pub always : Option Switch
always = None

-- what makes it busy: a register that keeps the TRN of an open start
abbrev pub while_open : Register → Option Register
while_open r = Some r

abbrev pub never : Option Register
never = None

-- its group, by what switches it
abbrev pub in_group : Control → Option Control
in_group c = Some c

abbrev pub no_group : Option Control
no_group = None

-- its own bytes are so many, from a place on
abbrev pub row : Option Switch → Option Register → Option Control → ℕ → ℕ → Row
row switch busy group first many = record { switch = switch; busy = busy; group = group; first = first; many = many }

-- Master 0 to 15, modulo 16: CRB bits 3 to 7 are masters 0 to 4, CRC bits 0 to 7 are 5 to 12, CRD bits 0 to 2 are 13 to 15.
unfoldable pub master_control : ℕ → Control
master_control i = cond (ltb (i % 16) 5) B (cond (ltb (i % 16) 13) C D)

unfoldable pub master_bit : ℕ → ℕ
master_bit i = cond (ltb (i % 16) 5) (2 ^ (i % 16 + 3)) (cond (ltb (i % 16) 13) (2 ^ (i % 16 - 5)) (2 ^ (i % 16 - 13)))

abbrev pub master_group : ℕ → Option Control
master_group i = in_group (master_control i)

-- an open start makes it busy
abbrev pub master_row : ℕ → Row
master_row i = row (by_bit (master_control i) (master_bit i)) (while_open (master i Open)) (master_group i) (bank i) 21

-- CRB bits 1 SPI, 2 GPIO; CRD bit 3 serves 0x13, bit 4 serves 0x14. The controller and the DAC are always enabled. GO makes SPI busy.
abbrev pub row_of : Channel → Row
row_of Controller = row always never no_group 0 3
row_of Spi = row (by_bit B (2 ^ 1)) (while_open SpiGo) (in_group B) 15 22
row_of Gpio = row (by_bit B (2 ^ 2)) never (in_group B) 37 33
row_of (Master i) = master_row i
row_of Seu = row (by_bit D (2 ^ 3)) never no_group 3 4
row_of Id = row (by_bit D (2 ^ 4)) never no_group 11 4
row_of Dac = row always never no_group 7 4

-- THE CHANNELS THAT HOLD THEIR REGISTERS AT 0 WHILE THEY ARE DISABLED, and what switches them: SPI, GPIO and the masters. The SEU counter and ID
-- aren't touched.
abbrev pub dropping : Control → List Channel
dropping B = Spi ∷ Gpio ∷ Master 0 ∷ Master 1 ∷ Master 2 ∷ Master 3 ∷ Master 4 ∷ []
dropping C = Master 5 ∷ Master 6 ∷ Master 7 ∷ Master 8 ∷ Master 9 ∷ Master 10 ∷ Master 11 ∷ Master 12 ∷ []
dropping D = Master 13 ∷ Master 14 ∷ Master 15 ∷ []

abbrev pub all_dropping : List Channel
all_dropping = dropping B ++ (dropping C ++ dropping D)

-- ---- what they say of registers

abbrev pub register_of : Control → Register
register_of B = Crb
register_of C = Crc
register_of D = Crd

abbrev pub is_on : List ℕ → Option Switch → Bool
is_on rs None = true
is_on rs (Some switch) = not (eqb (bit_and (read rs (register_of switch.control)) switch.bit) 0)

-- a register keeps the TRN of an open start, a master's its code too; 0 where none is open, since no TRN that is answered is 0
abbrev pub is_at_work : List ℕ → Option Register → Bool
is_at_work rs None = false
is_at_work rs (Some r) = not (eqb (read rs r) 0)

abbrev pub is_enabled : List ℕ → Channel → Bool
is_enabled rs ch = is_on rs (row_of ch).switch

abbrev pub is_busy : List ℕ → Channel → Bool
is_busy rs ch = is_at_work rs (row_of ch).busy

-- ---- after a switch: each of its channels that is disabled drops what it had, and what it had open

unfoldable pub held : List ℕ → Channel → List ℕ
held rs ch = cond (is_enabled rs ch) rs (zeroed (row_of ch).first (row_of ch).many rs)

unfoldable pub held_all : List Channel → List ℕ → List ℕ
held_all [] rs = rs
held_all (ch ∷ chs) rs = held_all chs (held rs ch)

abbrev pub settled : Control → List ℕ → List ℕ
settled c rs = held_all (dropping c) rs

-- ---- in range: each of them is enabled, or its registers are 0

unfoldable pub still_held : List ℕ → Channel → Bool
still_held rs ch = is_enabled rs ch || are_zero (row_of ch).first (row_of ch).many rs

unfoldable pub are_held : List Channel → List ℕ → Bool
are_held [] rs = true
are_held (ch ∷ chs) rs = still_held rs ch && are_held chs rs

abbrev pub all_held : List ℕ → Bool
all_held rs = are_held all_dropping rs
