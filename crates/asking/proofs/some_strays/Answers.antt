-- `asking::some_strays`. The loop keeps whether one of the sets before this one strays.
use Rattle.std.proofs.Common.{refl, ap₂, ◌||◌, add-one}
use Rattle.effect.specs.Refusals.{some_below}
use Rattle.asking.proofs.some_strays.Goals as goal

pub loop-set-init : goal.loop-set-init
unfolding some_below
loop-set-init c = refl

pub loop-set-preserved : goal.loop-set-preserved
unfolding some_below
loop-set-preserved c = rw add-one (ap₂ ◌||◌ c.loop-set.invariant c.strays-found.ensures)
