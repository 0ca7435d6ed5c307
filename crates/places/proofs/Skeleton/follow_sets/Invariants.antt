-- `Skeleton::follow_sets`. The loop keeps the follow sets that the first i nodes make.
use Rattle.std.proofs.Common.{◌≡◌}
use Rattle.places.specs.Walk.{linked_to}
use Rattle.places.proofs.Skeleton.follow_sets.Given as goal

abbrev pub invariant-loop-i : goal.invariant-loop-i
invariant-loop-i l = l.follow ≡ linked_to l.self.nodes.now l.i
