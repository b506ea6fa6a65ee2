-- The words of the control room's promises: its calls, and a run of them.
use Rattle.std.specs.Prelude.{ℕ}
use mathlib.Core.List.{List, foldl}
use Rattle.control_room.specs.Calls.{Outcome, request_written, reply_read, command_written}

-- a call with its arguments and the bytes of the output that is lent to it
pub data RoomCall : Type 0 where
  request : (ch cmd d : ℕ) (output : List ℕ) → RoomCall
  reply : (body output : List ℕ) → RoomCall
  command : (control : ℕ) (output : List ℕ) → RoomCall

abbrev pub outcome_of : List ℕ → RoomCall → Outcome
outcome_of r (request ch cmd d output) = request_written r ch cmd d output
outcome_of r (reply body output) = reply_read r body output
outcome_of r (command control output) = command_written r control output

abbrev pub output_of : RoomCall → List ℕ
output_of (request ch cmd d output) = output
output_of (reply body output) = output
output_of (command control output) = output

-- the record after calls, each handed the one that the last left
abbrev pub leaves : List ℕ → RoomCall → List ℕ
leaves r c = (outcome_of r c).kept

abbrev pub record_after : List ℕ → List RoomCall → List ℕ
record_after r calls = foldl leaves r calls
