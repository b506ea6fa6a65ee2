use Rattle.std.proofs.Common.{◌≡◌, length, rules}
use Rattle.batch.proofs.Called.{refused_early, refused_list, nothing_refuses, long, fine, given_all}
use Rattle.batch.proofs.samples.Goals as goal

pub returns-in_err-judge : goal.returns-in_err-judge
returns-in_err-judge c = search (rules, refused_early)

pub unreachable-requires : goal.unreachable-requires
unreachable-requires c = let l : length c.args.state.now ≡ 411 = search (rules, nothing_refuses, long) in search (rules, l)

pub give-requires : goal.give-requires
give-requires c = search (rules, nothing_refuses, fine)

pub returns : goal.returns
returns c = given_all _ _ _ _ (search (rules, nothing_refuses)) _ _ _ _ _ (search rules) c.give.ensures _ c.finished.ensures

pub returns-then-is_wrong : goal.returns-then-is_wrong
returns-then-is_wrong c = search (rules, refused_list)
