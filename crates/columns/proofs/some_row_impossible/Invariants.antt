-- `columns::some_row_impossible`. The loop keeps: none of the rows from 1 to i - 1 is impossible.
use Rattle.std.proofs.Common.{◌≡◌, ◌&&◌, false, not, eqb}
use Rattle.effect.specs.Refusals.{some_below}
use Rattle.columns.specs.Calls.{row_at}
use Rattle.columns.specs.Tables.{of_view}
use Rattle.goals.specs.Refusals.{row_impossible}
use Rattle.columns.proofs.some_row_impossible.Given as goal

abbrev pub invariant-loop-i : goal.invariant-loop-i
invariant-loop-i l = some_below l.i (λ n. not (eqb n 0) && row_impossible l.s l.m l.k n (row_at (of_view l.view) n)) ≡ false
