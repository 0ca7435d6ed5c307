-- `columns::View::give_rows`: the rows that the loop put, and behind them the others.
use Rattle.std.proofs.Common.{◌≡◌, ℕ, min, List, ◌++◌, drop, length, sym, ap, ap₂, ◌∙◌, arith}
use borrow.Author.Rules.{rules}
use Rattle.goals.specs.declared.Row.{Row}
use Rattle.effect.specs.Refusals.{front}
use Rattle.columns.specs.Calls.{rows_in, lent_in}
use Rattle.columns.specs.Tables.{of_view}
use Rattle.columns.proofs.Laws.{length-rows_in}
use Rattle.columns.proofs.Rows.{rows-each}
use Rattle.columns.proofs.View.give_rows.Goals as goal

pub returns : goal.returns
returns c =
    let a = c.args in
    let v = of_view a.self.now in
    let k = c.min-n.result in
    let most : k ≡ min a.n (min (lent_in a.self.now.lent v) (length a.rows.now)) = omega (arith, c.min-n.ensures, c.min.ensures, c.rows.ensures) in
    let long : length c.loop-i.row-items ≡ k = search rules in
    ap₂ (λ (xs : List Row) (m : ℕ). xs ++ drop m a.rows.now) (rows-each v c.loop-i.row-items _ k long (λ i h. c.loop-i.invariant i (omega arith))) (sym (length-rows_in v k))
    ∙ ap (λ (m : ℕ). front (rows_in v m) a.rows.now) most
