use Rattle.std.proofs.Common.{get_or, refl, arith, ap, sym, ◌∙◌}
use Rattle.std.proofs.lemmas.List.Sums.{fold_more}
use Rattle.batch.specs.Inner.{Going, given}
use Rattle.batch.proofs.Wrong.{dark, right_one}
use Rattle.batch.proofs.give.Goals as goal

pub loop-s-init : goal.loop-s-init
loop-s-init c = (refl, c.requires.formed, omega arith, omega arith)

pub step-sent-requires : goal.step-sent-requires
step-sent-requires c =
    let i = c.loop-s.invariant in (
      record {
        formed = i.1;
        room = omega arith;
        few = omega arith;
        small = omega arith;
      },
      right_one _ _ c.loop-s-test.true c.requires.kinds,
    )

pub loop-s-preserved : goal.loop-s-preserved
loop-s-preserved c =
    let i = c.loop-s.invariant in
    let e = c.step-sent.ensures in
    let at = c.loop-s.s-index in
    let l = c.args.list.now in (
      e.is ∙ ap (λ (g : Going). given g (get_or l at dark)) i.0 ∙ sym (fold_more given _ l at dark c.loop-s-test.true),
      e.formed,
      omega arith,
      omega arith,
    )
