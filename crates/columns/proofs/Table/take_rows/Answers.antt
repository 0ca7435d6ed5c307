-- `columns::Table::take_rows`: one row more.
use Rattle.std.proofs.Common.{◌≡◌, ◌≤◌, ◌∙◌, ap₂, arith, length}
use borrow.Author.Rules.{rules}
use lib.Seq.{length-take-le}
use Rattle.columns.specs.Calls.{lent_in}
use Rattle.columns.specs.Tables.{of_table}
use Rattle.columns.proofs.Rows.{put-row-of, in-all-lent}
use Rattle.columns.proofs.Table.take_rows.Goals as goal

pub loop-i-preserved : goal.loop-i-preserved
loop-i-preserved c =
    let a = c.args in
    let n = c.min-n.result in
    let lent : c.rows.result ≡ lent_in a.self.now.lent (of_table a.self.now) = c.rows.ensures ∙ ap₂ lent_in c.view.ensures.0 c.view.ensures.1 in
    let few : n ≤ length a.rows.now = omega (arith, c.min-n.ensures) in
    let here = in-all-lent a.self.now.lent (of_table a.self.now) c.loop-i.i (omega (arith, lent, c.min-n.ensures, length-take-le n a.rows.now few, c.loop-i-test.true)) in
    record {
      rows = put-row-of (of_table a.self.now) _ _ n c.loop-i.i a.rows.now _ few c.loop-i-test.true here c.loop-i.invariant.rows c.set.ensures.row;
      same = search rules;
    }
