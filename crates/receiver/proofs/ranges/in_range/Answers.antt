-- The fields and the bytes together.
use Rattle.std.proofs.Common.{◌≡◌, true, rules, arith}
use Rattle.receiver.specs.Receiver.{in_range}
use Rattle.receiver.proofs.Fields.{good}
use Rattle.receiver.proofs.ranges.in_range.Goals as goal

pub returns-then-fields_fit-clause-good : goal.returns-then-fields_fit-clause-good
unfolding in_range
returns-then-fields_fit-clause-good c h =
    let e : in_range c.args.rx ≡ true = grind arith in
    good c.args.rx (search rules) c.clear_from.ensures.bytes e
