-- `compare::trace_asked`: the used rows are loaded, and the call on columns is made. Columns of
-- 65,535 zeros stand behind a name that nothing computes.
use Rattle.std.proofs.Common.{◌≡◌, sym, subst, ℕ, List, length, take}
use lib.Seq.{length-take-le}
use Rattle.columns.specs.Calls.{columns, put, Traces}
use Rattle.columns.specs.Tables.{of_table, TakesRows}
use Rattle.columns.proofs.Rows.{seen}
use Rattle.compare.proofs.Calling.{used-loadable, traces-rows}
use Rattle.compare.proofs.Loading.{zeros, zeros-is, zeros-long, empty, taken-all}
use Rattle.compare.proofs.trace_asked.Goals as goal
use Rattle.compare.proofs.trace_asked.Goals.{After-take_rows}

-- the rows that are loaded
filled : (c : After-take_rows) → of_table c.take_rows.new.self ≡ put (take c.used_within-n.result c.args.rows.now) empty
filled c =
    let a = c.args in
    let n = c.used_within-n.result in
    taken-all n a.rows.now (used-loadable n a.held.now.used (length a.rows.now) c.used_within-n.ensures) (of_table c.take_rows.new.self)
    (subst (λ (z : List ℕ). TakesRows (length a.rows.now) (columns z z z z) (take n a.rows.now) (of_table c.take_rows.new.self)) zeros-is c.take_rows.ensures.rows)

pub slice_bounds-take_rows-end : goal.slice_bounds-take_rows-end
slice_bounds-take_rows-end c = let a = c.args in sym (length-take-le c.used_within-n.result a.rows.now (used-loadable c.used_within-n.result a.held.now.used (length a.rows.now) c.used_within-n.ensures).0)

pub returns : goal.returns
returns c =
    let a = c.args in
    let n = c.used_within-n.result in
    let t = c.take_rows.new.self in
    traces-rows a.rows.now a.held.now n c.used_within-n.ensures zeros zeros-long (of_table t) (filled (goal.at.returns c).After-take_rows)
    a.asked a.out.now c.trace_on.new.out c.trace_on.result
    (subst (λ (m : ℕ). Traces a.asked m (of_table t) a.held.now a.out.now c.trace_on.result c.trace_on.new.out) c.take_rows.ensures.same.0
    (seen (λ m k. Traces a.asked m k a.held.now a.out.now c.trace_on.result c.trace_on.new.out) t c.view.result c.view.ensures c.trace_on.ensures))
