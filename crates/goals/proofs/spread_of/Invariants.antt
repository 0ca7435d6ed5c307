-- `goals::spread_of`. The loop keeps what follows the members below n.
use Rattle.std.proofs.Common.{◌≡◌}
use Rattle.places.specs.Readings.{spread_to}
use Rattle.goals.proofs.spread_of.Given as goal

abbrev pub invariant-loop-n : goal.invariant-loop-n
invariant-loop-n l = l.spread ≡ spread_to l.fn.side l.set l.n
