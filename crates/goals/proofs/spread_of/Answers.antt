-- `goals::spread_of`. The loop keeps what follows the members below n.
use Rattle.std.proofs.Common.{arith, refl, add-one}
use Rattle.std.proofs.lemmas.Bool.Decides.{nat_tests}
use Rattle.std.proofs.lemmas.Grind.{common_steps}
use Rattle.std.specs.Int.Bits.{or_zero_r}
use Rattle.places.specs.Readings.{spread_to}
use Rattle.goals.proofs.spread_of.Goals as goal

pub loop-n-init : goal.loop-n-init
unfolding spread_to
loop-n-init c = refl

pub loop-n-preserved : goal.loop-n-preserved
unfolding spread_to
loop-n-preserved c = rw add-one (grind (arith, nat_tests, common_steps, or_zero_r))
