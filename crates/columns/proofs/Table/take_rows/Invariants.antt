-- `columns::Table::take_rows`. The loop keeps: the first i rows stand at the front of the columns as they were lent.
use Rattle.std.proofs.Common.{◌≡◌, take}
use Rattle.columns.specs.Calls.{put}
use Rattle.columns.specs.Tables.{of_table, Same}
use Rattle.columns.proofs.Table.take_rows.Given as goal

abbrev pub invariant-loop-i : goal.invariant-loop-i
invariant-loop-i l = record {
  rows : of_table l.self ≡ put (take l.i l.rows) (of_table l.initial.self);
  same : Same l.initial.self l.self;
}
