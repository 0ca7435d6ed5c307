-- What the check says decides: its refusal, or what is left of the sheet to be put.
use Rattle.std.proofs.lemmas.Result.{err_from_is_err_and}
use Rattle.sheet.proofs.Calls.{check-side, write-refused, write_checked}
use Rattle.sheet.proofs.write.Goals as goal

pub returns-in_err-check : goal.returns-in_err-check
returns-in_err-check c =
    let a = c.args in
    let p = err_from_is_err_and c.from_residual.result c.from_residual.ensures.1 in
    rw (p.1, p.2) (write-refused a.s a.nodes.now a.out.now _ c.in_err-check.ensures)

pub invariant_of-put : goal.invariant_of-put
invariant_of-put c =
    let a = c.args in
    record { few = (check-side a.s a.nodes.now _ c.in_ok-check.ensures).few }

pub returns : goal.returns
returns c =
    let a = c.args in
    write_checked a.s a.nodes.now a.out.now _ c.in_ok-check.ensures _ c.put.ensures
