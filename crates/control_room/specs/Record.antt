-- THE RECORD of up to 254 open transactions, in bytes that the caller lends: 255 numbers of two bytes each, low byte first. Number 0 is the frame number.
-- Number TRN, 0x01 to 0xFE, is the request that is open with it: its channel below, its command above; 0 where none is. docs/RECORD.md has it
-- byte by byte.
use Rattle.std.specs.Prelude.{ℕ, zero, suc, ◌+◌, ◌*◌, ◌/◌, ◌%◌, Bool, true, false, not, ◌&&◌, ◌||◌, cond, List, Option, None, Some, eqb, leb, ltb, length}
use Rattle.parts.specs.Parts.{part, put}
use Rattle.parts.specs.Digits.{number, digits}
use Rattle.commands.specs.declared.command.Command.{Command}
pub use Rattle.commands.specs.Channels.{command_at}
use Rattle.commands.specs.Request.{interrupt_transaction}

abbrev pub record_size : ℕ
record_size = 510

unfoldable pub number_at : List ℕ → ℕ → ℕ
number_at r k = number (part (2 * k) 2 r)

unfoldable pub with_number : List ℕ → ℕ → ℕ → List ℕ
with_number r k v = put (2 * k) (digits 2 v) r

-- ---- "a frame number kept modulo 8 beside the record"

abbrev pub frame_number : List ℕ → ℕ
frame_number r = number_at r 0

-- it goes up by one modulo 8 with each request written
abbrev pub counted_up : List ℕ → List ℕ
counted_up r = with_number r 0 ((frame_number r + 1) % 8)

-- CONNECT and RESET set it to 0
abbrev pub counted_anew : List ℕ → List ℕ
counted_anew r = with_number r 0 0

-- ---- the commands that the tables have: those of the chip, by channel and code

abbrev pub is_listed : Option Command → Bool
is_listed None = false
is_listed (Some command) = true

-- LEN that a command asks
abbrev pub len_of : Option Command → ℕ
len_of None = 0
len_of (Some command) = command.lengths.asked

-- ---- the open transactions, "TRN 0x01 to 0xFE"

abbrev pub first_trn : ℕ
first_trn = 0x01

abbrev pub many_trns : ℕ
many_trns = 254

-- no table has command 0x00 of channel 0x00, so that an open one is not 0
abbrev pub is_open : List ℕ → ℕ → Bool
is_open r trn = not (eqb (number_at r trn) 0)

abbrev pub channel_in : ℕ → ℕ
channel_in entry = entry % 0x100

abbrev pub command_in : ℕ → ℕ
command_in entry = entry / 0x100 % 0x100

-- "A reply is matched by TRN and channel": a request to this channel is open with this TRN.
unfoldable pub is_open_to : List ℕ → ℕ → ℕ → Bool
is_open_to r trn ch = leb first_trn trn && ltb trn interrupt_transaction && is_open r trn && eqb (channel_in (number_at r trn)) ch

abbrev pub opened : List ℕ → ℕ → ℕ → ℕ → List ℕ
opened r trn ch cmd = with_number r trn (ch + 0x100 * cmd)

abbrev pub closed : List ℕ → ℕ → List ℕ
closed r trn = with_number r trn 0

-- the command that a reply with this TRN from this channel answers, if it does one
abbrev pub closing : List ℕ → ℕ → ℕ → Option ℕ
closing r trn ch = cond (is_open_to r trn ch) (Some (command_in (number_at r trn))) None

-- "A request takes the lowest free TRN", of so many from this one on; 0xFF, which is an interrupt's, where all are open.
unfoldable pub lowest_free : List ℕ → ℕ → ℕ → ℕ
lowest_free r trn zero = interrupt_transaction
lowest_free r trn (suc n) = cond (is_open r trn) (lowest_free r (suc trn) n) trn

abbrev pub free_trn : List ℕ → ℕ
free_trn r = lowest_free r first_trn many_trns

-- ---- what 6 refuses is all else

-- nothing is open, or a command that the tables have
abbrev pub is_sound : ℕ → Bool
is_sound entry = eqb entry 0 || is_listed (command_at (channel_in entry) (command_in entry))

-- each of so many transactions from this TRN on
unfoldable pub are_sound : List ℕ → ℕ → ℕ → Bool
are_sound r trn zero = true
are_sound r trn (suc n) = is_sound (number_at r trn) && are_sound r (suc trn) n

-- Not one of these: a record of another length; a frame number over 7, or a bit set beside it that no field has; an open entry that the tables don't
-- have.
unfoldable pub is_record : List ℕ → Bool
is_record r = eqb (length r) record_size && leb (frame_number r) 7 && are_sound r first_trn many_trns
