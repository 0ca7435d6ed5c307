-- `asking::sides_of`. The left decides first, then the right, then the two s.
use Rattle.std.proofs.lemmas.Result.{err_from_is_err_and}
use Rattle.goals.specs.Refusals.{given}
use Rattle.asking.proofs.Asking.{asks-left, asks-right, asks-14, asks-both}
use Rattle.asking.proofs.sides_of.Goals as goal

pub returns-in_err-on_left : goal.returns-in_err-on_left
returns-in_err-on_left c =
    let a = c.args in
    let p = err_from_is_err_and c.from_residual.result c.from_residual.ensures.1 in
    rw (p.1, p.2) (asks-left (given a.ls a.left.now a.rs a.right.now) c.prepare.result c.prepare.ensures _ c.in_err-on_left.ensures)

pub returns-in_err-on_right : goal.returns-in_err-on_right
returns-in_err-on_right c =
    let a = c.args in
    let p = err_from_is_err_and c.from_residual-in_err-on_right.result c.from_residual-in_err-on_right.ensures.1 in
    rw (p.1, p.2)
    (asks-right (given a.ls a.left.now a.rs a.right.now) c.prepare.result c.prepare-2.result c.prepare.ensures c.prepare-2.ensures
    _ c.in_ok-on_left.ensures _ c.in_err-on_right.ensures)

pub returns-in_err-naming : goal.returns-in_err-naming
returns-in_err-naming c =
    let a = c.args in
    let p = err_from_is_err_and c.from_residual-in_err-naming.result c.from_residual-in_err-naming.ensures.1 in
    rw (p.1, p.2)
    (asks-14 (given a.ls a.left.now a.rs a.right.now) c.prepare.result c.prepare-2.result c.prepare.ensures c.prepare-2.ensures
    _ c.in_ok-on_left.ensures _ c.in_ok-on_right.ensures c.same_signals.result c.same_signals.ensures _ c.in_err-naming.ensures)

pub returns : goal.returns
returns c =
    let a = c.args in
    asks-both (given a.ls a.left.now a.rs a.right.now) c.prepare.result c.prepare-2.result c.prepare.ensures c.prepare-2.ensures
    _ c.in_ok-on_left.ensures _ c.in_ok-on_right.ensures c.same_signals.result c.same_signals.ensures _ c.in_ok-naming.ensures
