-- `columns::steps_on`. The loop keeps what is left of the budget and the rows so far (`Goes`).
use Rattle.columns.specs.Tables.{of_table, Same}
use Rattle.columns.specs.Core.{Ready}
use Rattle.columns.proofs.Budget.{Goes}
use Rattle.columns.proofs.steps_on.Given as goal

abbrev pub invariant-loop-b : goal.invariant-loop-b
invariant-loop-b l = record {
  ready : Ready (of_table l.table) l.room l.sides.left l.sides.right l.sides.letters l.cur;
  goes : Goes l.sides.left l.sides.right l.room l.budget (of_table l.initial.table) l.initial.cur (of_table l.table) l._b l.cur;
  same : Same l.initial.table l.table;
}
