-- `call_table`: the call on the rows that the table was given, and what it left of them taken back.
use Rattle.std.proofs.Common.{◌≡◌, subst, ap, ◌∙◌, ℕ, min, List, arith}
use lib.Seq.{length-take-le}
use Rattle.goals.specs.declared.Row.{Row}
use Rattle.demands.specs.Calls.{lent}
use Rattle.columns.specs.Calls.{lent_in}
use Rattle.columns.specs.Tables.{of_table, GivesRows}
use Rattle.columns.proofs.Rows.{seen}
use Rattle.compare.specs.Calls.{answered, Works}
use Rattle.own_table.proofs.Laws.{no_rows, no-rows-long, given, taken}
use Rattle.own_table.proofs.call_table.Goals as goal
use Rattle.own_table.proofs.call_table.Goals.{After-min-n}

-- as many rows as are lent, and no more than 65,536
some : (c : After-min-n) → let t = c.args.table.now in c.min-n.result ≡ min (lent_in t.lent (of_table t)) 65536
some c = c.min-n.ensures ∙ ap (λ (k : ℕ). min k 65536) (seen (λ m k. c.rows.result ≡ lent_in m k) c.args.table.now c.view.result c.view.ensures c.rows.ensures)

pub returns-clause-calls : goal.returns-clause-calls
returns-clause-calls c =
    let a = c.args in
    let t = a.table.now in
    let n = c.min-n.result in
    let e = some (goal.at.returns-clause-calls c).After-min-n in (
      c.call-answer.new.rows,
      subst (λ (rows : List Row). Works a.work a.asked (lent rows a.held.now) (answered c.call-answer.result) (lent c.call-answer.new.rows c.call-answer.new.held))
          (given t.lent (of_table t) n e no_rows c.give_rows.new.rows no-rows-long (seen (λ m k. GivesRows n m k no_rows c.give_rows.new.rows) t c.view-2.result c.view-2.ensures c.give_rows.ensures))
          c.call-answer.ensures,
      taken t.lent (of_table t) n e c.call-answer.new.rows _ (of_table c.take_rows.new.self) (c.call-answer.auto.rows ∙ length-take-le n c.give_rows.new.rows (omega (arith, e, c.give_rows.auto.rows, no-rows-long))) c.take_rows.ensures.rows,
    )
