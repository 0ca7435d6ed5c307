-- `asking::ask`. Both sides, or with a refusal the side of nothing.
use Rattle.goals.specs.Refusals.{given}
use Rattle.asking.proofs.Asking.{asks-refused, asks-made}
use Rattle.asking.proofs.ask.Goals as goal

pub returns-in-Ok : goal.returns-in-Ok
returns-in-Ok c =
    let a = c.args in
    asks-made (given a.ls a.left.now a.rs a.right.now) _ _ _ c.both.ensures c.in-Ok.ensures

pub returns-in-Err : goal.returns-in-Err
returns-in-Err c =
    let a = c.args in
    asks-refused (given a.ls a.left.now a.rs a.right.now) _ _ _ c.in-Err.ensures c.no_side.ensures c.no_side-in-Err.ensures
