-- `asking::why_not`. What is known of the sides already, or the first of 24, 24 and 14.
use Rattle.std.proofs.Common.{◌∙◌, sym}
use Rattle.std.proofs.lemmas.Result.{err_from_is_err_and}
use Rattle.asking.proofs.Refusing.{left-refused, right-refused, both-passed, both-answer}
use Rattle.asking.proofs.Asking.{why-here, why-next}
use Rattle.asking.proofs.why_not.Goals as goal

pub returns-then-asked-ne0 : goal.returns-then-asked-ne0
returns-then-asked-ne0 c = why-here c.args.asked c.if-asked-ne0.true

pub returns-in_err-naming : goal.returns-in_err-naming
returns-in_err-naming c =
    let p = err_from_is_err_and c.from_residual.result c.from_residual.ensures.1 in
    rw (p.1, p.2) (left-refused _ _ tt c.refusal_24.result c.refusal_24.ensures _ c.in_err-naming.ensures ∙ why-next c.args.asked c.if-asked-ne0.false)

pub returns-in_err-naming-2 : goal.returns-in_err-naming-2
returns-in_err-naming-2 c =
    let p = err_from_is_err_and c.from_residual-in_err-naming-2.result c.from_residual-in_err-naming-2.ensures.1 in
    rw (p.1, p.2)
    (right-refused _ _ _ tt c.refusal_24.result c.refusal_24-2.result c.refusal_24.ensures c.refusal_24-2.ensures _ c.in_ok-naming.ensures _ c.in_err-naming-2.ensures
    ∙ why-next c.args.asked c.if-asked-ne0.false)

pub returns : goal.returns
returns c =
    let b = both-passed _ _ _ tt c.refusal_24.result c.refusal_24-2.result c.refusal_24.ensures c.refusal_24-2.ensures _ c.in_ok-naming.ensures _ c.in_ok-naming-2.ensures in
    c.naming-3.ensures ∙ both-answer _ c.same_signals.result c.same_signals.ensures ∙ sym b.2 ∙ why-next c.args.asked c.if-asked-ne0.false
