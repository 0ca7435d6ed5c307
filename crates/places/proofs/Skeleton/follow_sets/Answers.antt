-- `Skeleton::follow_sets`. The loop keeps the follow sets that the first i nodes make.
use Rattle.std.proofs.Common.{refl, add-one}
use Rattle.places.specs.Places.{links_to}
use Rattle.places.specs.Side.{list_of}
use Rattle.places.proofs.ByNode.{links-next}
use Rattle.places.proofs.Skeleton.follow_sets.Goals as goal

pub loop-i-init : goal.loop-i-init
unfolding links_to list_of
loop-i-init c = refl

pub loop-i-preserved : goal.loop-i-preserved
loop-i-preserved c = rw add-one (links-next c.args.self.now.nodes.now c.loop-i.i c.loop-i.follow _ c.loop-i.invariant c.linked-more.ensures)
