-- `columns::trace_length`. The loop keeps: the rows counted and those still above row 0 are the whole way.
use Prim.Native.Nat.{◌+◌, ◌<◌}
use mathlib.Core.Path.{◌≡◌}
use mathlib.Core.List.{[]}
use lib.ListN.{length}
use Rattle.columns.specs.Core.{climb}
use Rattle.columns.proofs.trace_length.Given as goal

abbrev pub invariant-loop-i : goal.invariant-loop-i
invariant-loop-i l = (l.i < l.used) × (l.n + length (climb l.parents [] l.i l.i) ≡ length (climb l.parents [] l.row l.row))

abbrev pub decreases-loop-i : goal.decreases-loop-i
decreases-loop-i l = l.i
