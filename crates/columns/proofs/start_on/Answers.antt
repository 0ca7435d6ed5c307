-- `columns::start_on`: refused for the sides or for want of a row, or row 0 is written.
use Rattle.std.proofs.Common.{Ok, ◌≡◌, sym, subst, ◌∙◌}
use Rattle.std.proofs.lemmas.Result.{err_from_is_err_and}
use Rattle.columns.specs.Calls.{Columns, lent_in, Starts}
use Rattle.columns.specs.Tables.{of_table}
use Rattle.columns.proofs.Rows.{seen}
use Rattle.columns.proofs.Calling.{start-sides, start_none, start-done}
use Rattle.columns.proofs.start_on.Goals as goal
use Rattle.columns.proofs.start_on.Goals.{After-rows}

-- the rows are those lent in the table
lent : (c : After-rows) → let t = c.args.table.now in c.rows.result ≡ lent_in t.lent (of_table t)
lent c = seen (λ n k. c.rows.result ≡ lent_in n k) c.args.table.now c.view.result c.view.ensures c.rows.ensures

pub returns-in_err-why_not-clause-starts : goal.returns-in_err-why_not-clause-starts
returns-in_err-why_not-clause-starts c =
    let a = c.args in
    let p = err_from_is_err_and c.from_residual.result c.from_residual.ensures.1 in
    rw (p.1, p.2) (start-sides a.asked a.table.now.lent (of_table a.table.now) _ c.in_err-why_not.ensures)

pub returns-then-rows-eq0-clause-starts : goal.returns-then-rows-eq0-clause-starts
returns-then-rows-eq0-clause-starts c =
    let a = c.args in
    start_none a.asked a.table.now.lent (of_table a.table.now) c.in_ok-why_not.ensures c.both.result c.both.ensures
    (sym (lent (goal.at.returns-then-rows-eq0-clause-starts c).After-rows) ∙ c.if-rows-eq0.true)

pub returns-clause-starts : goal.returns-clause-starts
returns-clause-starts c =
    let a = c.args in
    let l = lent (goal.at.returns-clause-starts c).After-rows in
    subst (λ (k : Columns). Starts a.asked a.table.now.lent (of_table a.table.now) (Ok (record { settled = 0; used = 1; outcome = 0 })) k) (sym c.set.ensures.row)
    (start-done a.asked a.table.now.lent (of_table a.table.now) c.in_ok-why_not.ensures (λ q. c.if-rows-eq0.false (l ∙ q)))
