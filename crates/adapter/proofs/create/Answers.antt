-- `create` meets its contract. Assumes nothing.
use Rattle.std.proofs.Common.{rules}
use Rattle.adapter.proofs.Cases.{created_in}
use Rattle.adapter.proofs.create.Goals as goal

pub returns : goal.returns
returns c =
    created_in c.args.state.now c.args.id (search rules) (search rules) c.split_at_mut-registers.result.0.now _ _ _ (search rules) c.power_on.ensures
    (search rules) c.store_link.ensures
