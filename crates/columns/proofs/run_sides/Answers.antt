-- `columns::run_sides`. A decided run stays; any other has the letters worked out and goes on.
use mathlib.Core.Bool.{Bool, ◌||◌}
use mathlib.Core.Path.{ap, ap₂}
use lib.Dec.{eqb}
use borrow.Author.Tests.{eq-eqb, ne_eqb}
use Rattle.columns.specs.Tables.{of_table}
use Rattle.columns.proofs.Budget.{run-stays, run-goes}
use Rattle.columns.proofs.run_sides.Goals as goal

pub returns-then-held-clause-steps : goal.returns-then-held-clause-steps
returns-then-held-clause-steps c =
    let a = c.args in
    run-stays
    (of_table a.table.now) a.room a.left a.right a.held c.requires
    a.budget (ap (λ (b : Bool). b || eqb a.held.outcome 2) (eq-eqb _ _ c.if-held.true))

pub returns-then-held-2-clause-steps : goal.returns-then-held-2-clause-steps
returns-then-held-2-clause-steps c =
    let a = c.args in
    run-stays
    (of_table a.table.now) a.room a.left a.right a.held c.requires
    a.budget (ap₂ ◌||◌ (ne_eqb _ _ c.if-held.false) (eq-eqb _ _ c.if-held-2.true))

pub returns-clause-steps : goal.returns-clause-steps
returns-clause-steps c =
    let e = c.steps_on in
    let a = c.args in
    run-goes
    (of_table a.table.now) a.room a.left a.right a.held c.requires
    a.budget (of_table e.new.table) e.result c.if-held.false c.if-held-2.false
    (rw c.sides_of-sides.ensures at e.ensures.steps)
