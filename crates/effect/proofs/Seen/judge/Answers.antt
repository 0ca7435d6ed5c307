-- `effect::Seen::judge`: one instant more fits.
use native.Mathlib.Omega.{arith}
use Rattle.effect.proofs.Laws.{one-instant}
use Rattle.effect.proofs.Seen.judge.Goals as goal

pub overflow_add-self : goal.overflow_add-self
overflow_add-self c = omega (arith, one-instant c.args.n, c.instant_in.ensures, c.requires)
