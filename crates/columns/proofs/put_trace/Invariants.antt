-- `columns::put_trace`. The loop keeps: the way to row i at the front of the buffer is the whole way at the front of the buffer as it was lent.
use Prim.Native.Nat.{◌≤◌, ◌<◌}
use mathlib.Core.Path.{◌≡◌}
use lib.ListN.{length}
use Rattle.effect.specs.Refusals.{front}
use Rattle.columns.specs.Core.{climb}
use Rattle.columns.proofs.put_trace.Given as goal

abbrev pub invariant-loop-i : goal.invariant-loop-i
invariant-loop-i l =
    (l.i < l.used)
    × (l.k ≡ length (climb l.parents l.letters l.i l.i))
    × (l.k ≤ length l.out)
    × (length l.out ≡ length l.initial.out)
    × (front (climb l.parents l.letters l.i l.i) l.out ≡ front (climb l.parents l.letters l.row l.row) l.initial.out)

abbrev pub decreases-loop-i : goal.decreases-loop-i
decreases-loop-i l = l.i
