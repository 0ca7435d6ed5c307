-- `columns::enter_goal`: the three cases of entering (`enters-known`, `enters-full`, `enters-next`).
use Rattle.std.proofs.Common.{◌≡◌, ◌+◌, false, sym, ap, subst, ◌∙◌}
use Rattle.columns.specs.Calls.{Columns, rows_in}
use Rattle.columns.specs.Tables.{of_table}
use Rattle.columns.specs.Core.{Enters, entering}
use Rattle.goals.specs.Goals.{known, enter}
use Rattle.columns.proofs.Laws.{entered, enters-known, enters-full, enters-next}
use Rattle.columns.proofs.enter_goal.Goals as goal
use Rattle.columns.proofs.enter_goal.Goals.{After-is_known}

-- whether a used row has the goal is what `is_known` answers
asked : (c : After-is_known) → let a = c.args in known a.goal (rows_in (of_table a.table.now) a.used) ≡ c.is_known.result
asked c = let a = c.args in ap (λ x. known a.goal (rows_in x a.used)) (sym c.view.ensures.1) ∙ sym c.is_known.ensures

pub returns-then-is_known-clause-entered : goal.returns-then-is_known-clause-entered
returns-then-is_known-clause-entered c =
    let a = c.args in
    enters-known (of_table a.table.now) a.used a.room c.requires a.goal (asked (goal.at.returns-then-is_known-clause-entered c).After-is_known ∙ c.if-is_known.true)

pub returns-then-used-room-clause-entered : goal.returns-then-used-room-clause-entered
returns-then-used-room-clause-entered c =
    let a = c.args in
    enters-full (of_table a.table.now) a.used a.room c.requires a.goal (asked (goal.at.returns-then-used-room-clause-entered c).After-is_known ∙ c.if-is_known.false) c.if-used-room.true

pub returns-clause-entered : goal.returns-clause-entered
returns-clause-entered c =
    let a = c.args in
    let before = of_table a.table.now in
    subst (λ (x : Columns). Enters before x (enter a.room a.goal (entering (rows_in before a.used))) (entered (a.used + 1) false)) (sym c.set.ensures.row)
    (enters-next before a.used a.room c.requires a.goal (asked (goal.at.returns-clause-entered c).After-is_known ∙ c.if-is_known.false) c.if-used-room.false)
