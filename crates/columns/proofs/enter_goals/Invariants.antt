-- `columns::enter_goals`. The loop keeps: the goals done stand in the columns, and what is to come at the cursor are the others.
use Rattle.std.proofs.Common.{length}
use Rattle.stepping.specs.Rest.{all_goals, rest}
use Rattle.columns.specs.Tables.{of_table, Same}
use Rattle.columns.proofs.Laws.{Standing}
use Rattle.columns.proofs.enter_goals.Given as goal

abbrev pub invariant-loop-goal : goal.invariant-loop-goal
invariant-loop-goal l = record {
  standing : Standing (of_table l.initial.table) l.used l.room (all_goals l.from) (of_table l.table) l.u (rest l.from l.cur);
  same : Same l.initial.table l.table;
}

abbrev pub decreases-loop-goal : goal.decreases-loop-goal
decreases-loop-goal l = length (rest l.from l.cur)
