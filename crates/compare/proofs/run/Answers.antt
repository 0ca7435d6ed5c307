-- `compare::run`: the call on the sides that `ask` made of the two tables (`runs-given`).
use Rattle.goals.specs.Refusals.{given}
use Rattle.demands.specs.Calls.{lent}
use Rattle.compare.specs.Calls.{answered}
use Rattle.compare.proofs.Calling.{runs-given}
use Rattle.compare.proofs.run.Goals as goal

pub returns : goal.returns
returns c =
    let a = c.args in
    runs-given (given a.ls a.left.now a.rs a.right.now) c.ask-asked.result c.ask-asked.ensures (lent a.rows.now a.held.now) a.budget (answered c.call.result)
    (lent c.call.new.rows c.call.new.held) c.call.ensures
