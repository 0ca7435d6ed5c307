-- `places::prepare`: the two answers of the check.
use Rattle.std.proofs.lemmas.Result.{err_from_is_err_and}
use Rattle.places.proofs.Made.{accepted-formed, prepare-refused, prepare-accepted}
use Rattle.places.proofs.prepare.Goals as goal

pub returns-in_err-check : goal.returns-in_err-check
returns-in_err-check c =
    let p = err_from_is_err_and c.from_residual.result c.from_residual.ensures.1 in
    rw (p.1, p.2) (prepare-refused _ _ _ c.in_err-check.ensures)

pub side_of-requires : goal.side_of-requires
side_of-requires c = accepted-formed _ _ _ c.in_ok-check.ensures

pub returns : goal.returns
returns c = prepare-accepted _ _ _ _ c.in_ok-check.ensures c.side_of.ensures
