-- `compare::trace`: the call on the sides that `ask` made of the two tables (`traces-given`).
use Rattle.goals.specs.Refusals.{given}
use Rattle.columns.specs.Calls.{tracing}
use Rattle.demands.specs.Calls.{lent}
use Rattle.compare.proofs.Calling.{traces-given}
use Rattle.compare.proofs.trace.Goals as goal

pub returns : goal.returns
returns c =
    let a = c.args in
    traces-given (given a.ls a.left.now a.rs a.right.now) c.ask-asked.result c.ask-asked.ensures (lent a.rows.now a.held.now) a.out.now (tracing c.trace_asked.result)
    c.trace_asked.new.out c.trace_asked.ensures
