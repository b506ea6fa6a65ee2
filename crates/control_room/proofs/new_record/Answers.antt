-- A clone of a byte is that byte. Assumes nothing.
use Rattle.std.proofs.Common.{arith}
use Rattle.control_room.proofs.Cases.{made_new}
use Rattle.control_room.proofs.new_record.Goals as goal

pub returns : goal.returns
returns c = made_new _ _ _ (omega arith) (omega arith) (c.fill.ensures.after (λ y h. h))
