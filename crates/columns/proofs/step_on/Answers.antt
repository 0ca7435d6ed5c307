-- `columns::step_on`: a bad row ends the run (`step-bad`), any other is settled or finds no room (`step-next`).
use Rattle.std.proofs.Common.{◌≡◌, ap, ◌∙◌, arith}
use Rattle.goals.specs.declared.Row.{Row}
use Rattle.goals.specs.Goals.{bad_goal}
use Rattle.columns.specs.Calls.{row_at}
use Rattle.columns.specs.Tables.{of_table}
use Rattle.columns.specs.Core.{source_of}
use Rattle.columns.proofs.Stepping.{step-bad, step-next, enters-most}
use Rattle.columns.proofs.step_on.Goals as goal
use Rattle.columns.proofs.step_on.Goals.{After-is_bad}

-- the row read is the row of the table
row-is : (c : After-is_bad) → c.row-w.result ≡ row_at (of_table c.args.table.now) c.args.run.settled
row-is c = c.row-w.ensures ∙ ap (λ x. row_at x c.args.run.settled) c.view.ensures.1

bad-is : (c : After-is_bad) → let a = c.args in let w = row_at (of_table a.table.now) a.run.settled in c.is_bad.result ≡ bad_goal a.sides.now.left.accepts a.sides.now.right.accepts w.place w.set
bad-is c = let a = c.args in c.is_bad.ensures ∙ ap (λ (w : Row). bad_goal a.sides.now.left.accepts a.sides.now.right.accepts w.place w.set) (row-is c)

pub returns-then-is_bad-clause-steps : goal.returns-then-is_bad-clause-steps
returns-then-is_bad-clause-steps c =
    let a = c.args in
    step-bad (of_table a.table.now) a.room a.sides.now.left a.sides.now.right a.sides.now.letters a.run c.requires c.is_bad.result (bad-is (goal.at.returns-then-is_bad-clause-steps c).After-is_bad) c.if-is_bad.true

pub settled-requires : goal.settled-requires
settled-requires c =
    let a = c.args in
    let p = c.requires in
    let m = enters-most (of_table a.table.now) (of_table c.enter_goals-entered.new.table) a.run.used a.room _ c.enter_goals-entered.result p.fits c.enter_goals-entered.ensures.entered in
    (omega (arith, m, p.fits.small), omega (arith, p.left_over, p.fits.used, p.fits.small))

pub returns-clause-steps : goal.returns-clause-steps
returns-clause-steps c =
    let a = c.args in
    let p = goal.at.returns-clause-steps c in
    step-next
    (of_table a.table.now) a.room a.sides.now.left a.sides.now.right a.sides.now.letters a.run c.requires (of_table c.enter_goals-entered.new.table) c.is_bad.result c.source_of-from.result
    c.enter_goals-entered.result c.settled.result (bad-is p.After-is_bad) c.if-is_bad.false
    (c.source_of-from.ensures ∙ ap (λ (w : Row). source_of a.sides.now.left a.sides.now.right a.sides.now.letters w.place w.set a.run.settled) (row-is p.After-is_bad))
    c.enter_goals-entered.ensures.entered
    c.settled.ensures
