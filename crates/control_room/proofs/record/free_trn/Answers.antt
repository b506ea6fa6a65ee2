-- The first TRN that is not open, in their order. Assumes nothing.
use Rattle.std.proofs.Common.{◌∙◌, refl, ap, rules, tests}
use lib.Dec.{eqb}
use Rattle.std.proofs.lemmas.Iterator.{YieldsList-from_range}
use Rattle.std.proofs.lemmas.Iterator.Search.{find_from_yields_List}
use Rattle.control_room.specs.Given.{trn_after}
use Rattle.control_room.specs.Record.{number_at}
use Rattle.control_room.proofs.Laws.{same_trn, free_walk}
use Rattle.control_room.proofs.record.free_trn.Goals as goal

pub returns-clause-lowest : goal.returns-clause-lowest
returns-clause-lowest c =
    let r = c.args.record.now in
    same_trn c.find.result
    ∙ ap trn_after (find_from_yields_List (λ trn. eqb (number_at r trn) 0) _ _ c.find.result c.find.ensures.ran (YieldsList-from_range 1 255 254 refl refl) (λ x b q k. search (rules, tests)))
    ∙ free_walk r 1 254
