-- `columns::run_on`. Refused, or what `run_sides` leaves.
use Rattle.std.proofs.Common.{Result, ◌≡◌, sym, ap, ◌∙◌, ℕ}
use Rattle.std.proofs.lemmas.Result.{err_from_is_err_and}
use Rattle.goals.specs.declared.Run.{Run}
use Rattle.goals.specs.declared.SideRefusal.{SideRefusal}
use Rattle.goals.specs.Refusals.{room_of}
use Rattle.asking.specs.declared.Asked.{Asked}
use Rattle.columns.specs.Calls.{Columns, rows_in, lent_in}
use Rattle.columns.specs.Tables.{of_table}
use Rattle.columns.specs.Core.{MayRun}
use Rattle.columns.proofs.Rows.{seen}
use Rattle.columns.proofs.Calling.{runnable, run-refused, run-done}
use Rattle.columns.proofs.run_on.Goals as goal
use Rattle.columns.proofs.run_on.Goals.{After-may_run, After-room_of-room}

-- what was asked of the view was asked of the table
abbrev asked_of : (a : Asked) (held : Run) (answer : Result Unit SideRefusal) → ℕ → Columns → Type 0
asked_of a held answer n k = MayRun a (lent_in n k) (rows_in k held.used) held answer

may : (c : After-may_run) → let a = c.args in asked_of a.asked a.run c.may_run.result a.table.now.lent (of_table a.table.now)
may c = seen (asked_of c.args.asked c.args.run c.may_run.result) c.args.table.now c.view.result c.view.ensures c.may_run.ensures

room-is : (c : After-room_of-room) → let t = c.args.table.now in c.room_of-room.result ≡ room_of (lent_in t.lent (of_table t))
room-is c = c.room_of-room.ensures ∙ ap room_of (seen (λ n k. c.rows.result ≡ lent_in n k) c.args.table.now c.view-2.result c.view-2.ensures c.rows.ensures)

pub returns-in_err-may_run-clause-runs : goal.returns-in_err-may_run-clause-runs
returns-in_err-may_run-clause-runs c =
    let a = c.args in
    let t = a.table.now in
    let p = err_from_is_err_and c.from_residual.result c.from_residual.ensures.1 in
    rw (p.1, p.2) (run-refused a.asked t.lent (of_table t) a.run a.budget _ (sym c.in_err-may_run.was ∙ may (goal.at.returns-in_err-may_run-clause-runs c).After-may_run))

pub run_sides-requires : goal.run_sides-requires
run_sides-requires c =
    let a = c.args in
    let t = a.table.now in
    let p = goal.at.run_sides-requires c in
    runnable a.asked t.lent (of_table t) a.run (sym c.in_ok-may_run.was ∙ may p.After-may_run) c.room_of-room.result (room-is p.After-room_of-room)

pub returns-clause-runs : goal.returns-clause-runs
returns-clause-runs c =
    let a = c.args in
    let t = a.table.now in
    let p = goal.at.returns-clause-runs c in
    run-done a.asked t.lent (of_table t) a.run a.budget (sym c.in_ok-may_run.was ∙ may p.After-may_run) c.room_of-room.result (room-is p.After-room_of-room) (of_table c.run_sides.new.table) c.run_sides.result c.run_sides.ensures.steps
