-- `columns::View::is_known`. The loop keeps: none of the first i rows has the goal.
use Rattle.std.proofs.Common.{◌≡◌, false}
use Rattle.goals.specs.Goals.{known}
use Rattle.columns.specs.Calls.{rows_in}
use Rattle.columns.specs.Tables.{of_view}
use Rattle.columns.proofs.View.is_known.Given as goal

abbrev pub invariant-loop-i : goal.invariant-loop-i
invariant-loop-i l = known l.fn.row (rows_in (of_view l.self) l.i) ≡ false
