use Rattle.std.proofs.Common.{◌≡◌, ltb, List, [], ◌∷◌, ◌||◌, refl, ap, ◌∙◌, rules, tests}
use Rattle.std.specs.List.{list_any}
use Rattle.std.proofs.lemmas.Iterator.{YieldsList-from_slice}
use Rattle.std.proofs.lemmas.Iterator.Search.{any_from_yields_List}
use Rattle.batch.specs.declared.Sample.{Sample}
use Rattle.batch.specs.Batch.{some_wrong}
use Rattle.batch.proofs.has_wrong_kind.Goals as goal

some_any : (l : List Sample) → list_any (λ (x : Sample). ltb 2 x.kind) l ≡ some_wrong l
unfolding some_wrong
some_any [] = refl
some_any (x ∷ l) = ap (λ t. ltb 2 x.kind || t) (some_any l)

pub returns : goal.returns
returns c =
    any_from_yields_List (λ (x : Sample). ltb 2 x.kind) _ _ _ c.any.ensures.ran (YieldsList-from_slice c.args.list.now cc) (λ x b q k. search (rules, tests))
    ∙ some_any c.args.list.now
