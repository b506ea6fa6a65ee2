-- `copy_kept` meets its contract: a slot more at each turn. Assumes nothing.
use Rattle.parts.proofs.Laws.{put_none}
use Rattle.journal.specs.Layout.{oldest}
use Rattle.journal.proofs.Enlarged.{store_room, copied_one}
use Rattle.journal.proofs.copy_kept.Goals as goal

pub loop-k-init : goal.loop-k-init
unfolding oldest
loop-k-init c = put_none 1024 _

pub store-requires : goal.store-requires
store-requires c = search store_room

pub loop-k-preserved : goal.loop-k-preserved
loop-k-preserved c = search copied_one
