use Rattle.batch.proofs.Given.{silent, counted}
use Rattle.batch.proofs.step.Goals as goal

pub returns-in-Ok : goal.returns-in-Ok
returns-in-Ok c =
    let r = c.requires.0 in
    counted _ _ _ _ _ _ _ _ _ _ c.from-first.ensures r.formed r.room c.sample.auto.output c.sample.ensures _ _ c.in-Ok.is c.lines_of.ensures

pub returns-in-Err : goal.returns-in-Err
returns-in-Err c =
    let r = c.requires.0 in
    silent _ _ _ _ _ _ _ _ _ _ c.from-first.ensures r.formed r.room c.sample.auto.output c.sample.ensures _ c.in-Err.is
