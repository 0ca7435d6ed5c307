-- `compare::call`: the rows that the work needs are loaded, the call on columns is made, and the rows that are then used are stored. Columns of
-- 65,535 zeros stand behind a name that nothing computes.
use Rattle.std.proofs.Common.{◌≡◌, sym, subst, ◌∙◌, ℕ, min, List, length, take}
use Rattle.std.proofs.lemmas.Result.{err_from_is_err_and}
use lib.Seq.{length-take-le}
use Rattle.effect.specs.Refusals.{front}
use Rattle.columns.specs.Calls.{columns, put, lent_in, rows_in}
use Rattle.columns.specs.Tables.{of_table, TakesRows}
use Rattle.columns.proofs.Rows.{seen}
use Rattle.compare.specs.Core.{WorksIn}
use Rattle.compare.proofs.Calling.{work-loadable, works-refused, works-accepted}
use Rattle.compare.proofs.Loading.{zeros, zeros-is, zeros-long, empty, taken-all}
use Rattle.compare.proofs.call.Goals as goal
use Rattle.compare.proofs.call.Goals.{After-take_rows, After-call_columns-called}

-- the rows that are loaded
filled : (c : After-take_rows) → of_table c.take_rows.new.self ≡ put (take c.to_load-n.result c.args.rows.now) empty
filled c =
    let a = c.args in
    let n = c.to_load-n.result in
    taken-all n a.rows.now (work-loadable a.work n a.held.now.used (length a.rows.now) c.to_load-n.ensures) (of_table c.take_rows.new.self)
    (subst (λ (z : List ℕ). TakesRows (length a.rows.now) (columns z z z z) (take n a.rows.now) (of_table c.take_rows.new.self)) zeros-is c.take_rows.ensures.rows)

-- the call on columns is lent as many rows
worked : (c : After-call_columns-called) → let a = c.args in WorksIn a.work a.asked (length a.rows.now) (of_table c.take_rows.new.self) a.held.now c.call_columns-called.result (of_table c.call_columns-called.new.table)
worked c =
    let a = c.args in
    subst (λ (m : ℕ). WorksIn a.work a.asked m (of_table c.take_rows.new.self) a.held.now c.call_columns-called.result (of_table c.call_columns-called.new.table)) c.take_rows.ensures.same.0 c.call_columns-called.ensures.works

pub slice_bounds-take_rows-end : goal.slice_bounds-take_rows-end
slice_bounds-take_rows-end c = let a = c.args in (work-loadable a.work c.to_load-n.result a.held.now.used (length a.rows.now) c.to_load-n.ensures).0

pub slice_bounds-take_rows-end-2 : goal.slice_bounds-take_rows-end-2
slice_bounds-take_rows-end-2 c = let a = c.args in sym (length-take-le c.to_load-n.result a.rows.now (work-loadable a.work c.to_load-n.result a.held.now.used (length a.rows.now) c.to_load-n.ensures).0)

pub returns-in_err-run : goal.returns-in_err-run
returns-in_err-run c =
    let a = c.args in
    let p = err_from_is_err_and c.from_residual.result c.from_residual.ensures.1 in
    let q = goal.at.returns-in_err-run c in
    rw (p.1, p.2)
    (works-refused a.work a.rows.now a.held.now c.to_load-n.result c.to_load-n.ensures zeros zeros-long (of_table c.take_rows.new.self) (filled q.After-take_rows)
    a.asked c.call_columns-called.result (of_table c.call_columns-called.new.table) (worked q.After-call_columns-called) _ c.in_err-run.was)

pub returns : goal.returns
returns c =
    let a = c.args in
    let q = goal.at.returns c in
    let long = c.call_columns-called.ensures.same in
    works-accepted a.work a.rows.now a.held.now c.to_load-n.result c.to_load-n.ensures zeros zeros-long (of_table c.take_rows.new.self) (filled q.After-take_rows)
    a.asked c.call_columns-called.result (of_table c.call_columns-called.new.table) (worked q.After-call_columns-called) _ c.in_ok-run.was c.give_rows.new.rows
    (λ i. min (length a.rows.now) (min (long.5 i) (min (long.6 i) (min (long.7 i) (long.8 i)))))
    (subst (λ (m : ℕ). c.give_rows.new.rows ≡ front (rows_in (of_table c.call_columns-called.new.table) (min c.in_ok-run.run'.used (min (lent_in m (of_table c.call_columns-called.new.table)) (length a.rows.now)))) a.rows.now)
    (long.0 ∙ c.take_rows.ensures.same.0)
    (seen (λ m k. c.give_rows.new.rows ≡ front (rows_in k (min c.in_ok-run.run'.used (min (lent_in m k) (length a.rows.now)))) a.rows.now) c.call_columns-called.new.table c.view.result c.view.ensures c.give_rows.ensures))
