-- Each TRN is walked, in their order. Assumes nothing.
use Rattle.std.proofs.Common.{◌∙◌, refl, rules, tests}
use Rattle.std.proofs.lemmas.Iterator.{YieldsList-from_range}
use Rattle.std.proofs.lemmas.Iterator.Search.{all_from_yields_List}
use Rattle.control_room.specs.Record.{number_at, is_sound}
use Rattle.control_room.proofs.Laws.{sound_walk}
use Rattle.control_room.proofs.record.are_sound.Goals as goal

pub returns : goal.returns
returns c =
    let r = c.args.record.now in
    all_from_yields_List (λ trn. is_sound (number_at r trn)) _ _ c.all.result c.all.ensures.ran (YieldsList-from_range 1 255 254 refl refl) (λ x b q k. search (rules, tests))
    ∙ sound_walk r 1 254
