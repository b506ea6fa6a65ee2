-- THE CONTROL ROOM, WORKED OUT: the first four requests of document 01's listing, written from a new record, and the replies that the listing has to them,
-- read. Bytes are compared with document 01 by eye. Assumes nothing.
use Prim.Native.Nat.{ℕ}
use mathlib.Core.List.{List, [], ◌∷◌}
use mathlib.Core.Path.{◌≡◌, refl}
use lib.ListN.{take, replicate}
use Rattle.parts.specs.Parts.{part, put}
use Rattle.parts.specs.Digits.{number, digits}
use Rattle.commands.specs.Command.{code_of}
use Rattle.commands.specs.Channels.{channel_of}
use Rattle.control_room.specs.Record.{number_at, with_number, lowest_free, is_open_to, are_sound, is_record}
use Rattle.control_room.specs.Calls.{written, request_written, matched, read, reply_read}
use Rattle.promises.specs.ControlRoom.{RoomCall, request, reply, outcome_of}

-- what each call writes, one after the other
abbrev pub writes : List ℕ → List RoomCall → List (List ℕ)
writes r [] = []
writes r (c ∷ calls) = let x = outcome_of r c in take x.given.length x.output ∷ writes x.kept calls

abbrev room : List ℕ
room = replicate 16 0xAA

pub first_four : writes (replicate 510 0)
    (request 0x00 0x02 0x04000000 room
    ∷ request 0x02 0x10 0x12345678 room
    ∷ request 0x02 0x11 0x00000000 room
    ∷ request 0x01 0x41 0x00000000 room
    ∷ reply (0x00 ∷ 0x64 ∷ 0x03 ∷ 0x02 ∷ 0x00 ∷ 0x04 ∷ 0x34 ∷ 0x12 ∷ 0x78 ∷ 0x56 ∷ []) room
    ∷ reply (0x00 ∷ 0x86 ∷ 0x04 ∷ 0x01 ∷ 0x20 ∷ 0x02 ∷ 0x00 ∷ 0x00 ∷ 0x00 ∷ 0x00 ∷ []) room
    ∷ [])
    ≡ ((0x00 ∷ 0x00 ∷ 0x01 ∷ 0x00 ∷ 0x04 ∷ 0x02 ∷ 0x00 ∷ 0x04 ∷ 0x00 ∷ 0x00 ∷ [])
    ∷ (0x00 ∷ 0x02 ∷ 0x02 ∷ 0x02 ∷ 0x04 ∷ 0x10 ∷ 0x34 ∷ 0x12 ∷ 0x78 ∷ 0x56 ∷ [])
    ∷ (0x00 ∷ 0x04 ∷ 0x03 ∷ 0x02 ∷ 0x01 ∷ 0x11 ∷ 0x00 ∷ 0x00 ∷ 0x00 ∷ 0x00 ∷ [])
    ∷ (0x00 ∷ 0x06 ∷ 0x04 ∷ 0x01 ∷ 0x02 ∷ 0x41 ∷ 0x00 ∷ 0x00 ∷ 0x00 ∷ 0x00 ∷ [])
    ∷ (0x03 ∷ 0x02 ∷ 0x11 ∷ 0x00 ∷ 0x04 ∷ 0x78 ∷ 0x56 ∷ 0x34 ∷ 0x12 ∷ [])
    ∷ (0x04 ∷ 0x01 ∷ 0x41 ∷ 0x20 ∷ 0x02 ∷ 0x00 ∷ 0x00 ∷ 0x00 ∷ 0x00 ∷ [])
    ∷ [])
unfolding request_written written reply_read read matched is_record are_sound number_at with_number lowest_free is_open_to part put number digits channel_of code_of
first_four = refl
