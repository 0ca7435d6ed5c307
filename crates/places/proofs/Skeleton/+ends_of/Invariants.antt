-- `Skeleton::ends_of`: a child is a lower node, so the recursion ends.
use Rattle.places.proofs.Skeleton.+ends_of.Given as goal

abbrev pub decreases-ends_of : goal.decreases-ends_of
decreases-ends_of l = l.i
