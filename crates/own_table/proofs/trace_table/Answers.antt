-- `trace_table`: the trace call on the rows that the table was given.
use Rattle.std.proofs.Common.{subst, ap, ◌∙◌, ℕ, min, List}
use Rattle.goals.specs.declared.Row.{Row}
use Rattle.demands.specs.Calls.{lent}
use Rattle.columns.specs.Calls.{tracing}
use Rattle.columns.specs.Tables.{of_view}
use Rattle.compare.specs.Calls.{TracesAsked}
use Rattle.own_table.proofs.Laws.{no_rows, no-rows-long, given}
use Rattle.own_table.proofs.trace_table.Goals as goal

pub returns : goal.returns
returns c =
    let a = c.args in
    let v = a.view.now in
    subst (λ (rows : List Row). TracesAsked a.asked (lent rows a.held.now) a.out.now (tracing c.trace_asked.result) c.trace_asked.new.out)
    (given v.lent (of_view v) c.min-n.result (c.min-n.ensures ∙ ap (λ (k : ℕ). min k 65536) c.rows.ensures) no_rows c.give_rows.new.rows no-rows-long c.give_rows.ensures)
    c.trace_asked.ensures
