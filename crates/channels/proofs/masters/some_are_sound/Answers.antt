-- Where the bytes of those masters end.
use Rattle.channels.proofs.Laws.{part_inside}
use Rattle.channels.proofs.masters.some_are_sound.Goals as goal

pub are_zero-requires : goal.are_zero-requires
are_zero-requires c = rw c.from.ensures (part_inside _ _ _ _ c.switched_by-some.ensures.few c.bank.ensures c.told-registers)
