-- `places::matching`. The loop keeps what the first i signals leave.
use Rattle.std.proofs.Common.{◌≡◌}
use Rattle.places.specs.Matching.{left_to}
use Rattle.places.proofs.matching.Given as goal

abbrev pub invariant-loop-i : goal.invariant-loop-i
invariant-loop-i l = l.left ≡ left_to l.naming l.x l.naming.alive l.i
