-- `columns::some_row_impossible`. The loop keeps: none of the rows from 1 to i - 1 is impossible.
use Rattle.std.proofs.Common.{refl}
use Rattle.effect.specs.Refusals.{some_below}
use Rattle.columns.specs.Tables.{of_view}
use Rattle.columns.proofs.Possible.{row-found, row-passed}
use Rattle.columns.proofs.some_row_impossible.Goals as goal

pub loop-i-init : goal.loop-i-init
unfolding some_below
loop-i-init c = refl

pub returns-then-row_impossible : goal.returns-then-row_impossible
returns-then-row_impossible c =
    let a = c.args in
    row-found
    a.s a.m a.k (of_view a.view.now) a.used c.loop-i.i
    c.loop-i.auto.i c.loop-i-test.true c.row.result c.row_impossible.result c.row.ensures
    c.row_impossible.ensures c.if-row_impossible.true

pub loop-i-preserved : goal.loop-i-preserved
loop-i-preserved c =
    let a = c.args in
    row-passed
    a.s a.m a.k (of_view a.view.now) c.loop-i.i c.loop-i.auto.i
    c.loop-i.invariant c.row.result c.row_impossible.result c.row.ensures c.row_impossible.ensures
    c.if-row_impossible.false
