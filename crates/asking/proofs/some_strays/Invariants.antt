-- `asking::some_strays`. The loop keeps whether one of the sets before this one strays.
use Rattle.std.proofs.Common.{◌≡◌}
use Rattle.effect.specs.Refusals.{some_below}
use Rattle.places.specs.Readings.{followers}
use Rattle.asking.specs.Asked.{strays}
use Rattle.asking.proofs.some_strays.Given as goal

abbrev pub invariant-loop-set : goal.invariant-loop-set
invariant-loop-set l = l.found ≡ some_below l.set-index (λ k. strays l.side.count (followers l.side k))
