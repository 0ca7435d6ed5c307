-- `columns::View::give_rows`. The loop has put the rows below i.
use Rattle.std.proofs.Common.{◌≡◌, ◌<◌, ℕ, get_or}
use Rattle.goals.specs.Goals.{row}
use Rattle.columns.specs.Calls.{row_at}
use Rattle.columns.specs.Tables.{of_view}
use Rattle.columns.proofs.View.give_rows.Given as goal

abbrev pub invariant-loop-i : goal.invariant-loop-i
invariant-loop-i l = (k : ℕ) → k < l.i → get_or l.row-items k (row 0 0 0 0) ≡ row_at (of_view l.self) k
