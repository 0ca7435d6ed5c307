-- `stepping::next_goal`. The lowest member of the first letter that has one comes first of what is to come.
use Rattle.std.proofs.Common.{◌∙◌}
use Rattle.stepping.proofs.Laws.{rest-same, rest-goal}
use Rattle.stepping.proofs.next_goal.Goals as goal

pub returns-clause-first : goal.returns-clause-first
returns-clause-first c =
    let a = c.args in
    let low = c.lowest-j.ensures.member c.if-members-eq0.false in
    rest-goal a.from c.at_goal-here.result _ _ low.0 low.1 low.2 c.single.ensures ∙ rest-same a.from a.at c.at_goal-here.result c.at_goal-here.ensures
