-- No more is read than there is room for.
use Rattle.std.proofs.Common.{◌≤◌, length}
use Rattle.try_calls.proofs.read_full.Given as goal

abbrev pub invariant-loop : goal.invariant-loop
invariant-loop g l = l.n ≤ length l.room
