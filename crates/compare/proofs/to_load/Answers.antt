-- `compare::to_load`: each case of the work is the definition's.
use mathlib.Core.Path.{◌≡◌, sym, ap, ◌∙◌}
use Prim.Native.Nat.{ℕ}
use Rattle.compare.specs.declared.Work.{Work}
use Rattle.compare.specs.Core.{to_load}
use Rattle.compare.proofs.to_load.Goals as goal

known : (work case : Work) (used lent : ℕ) → work ≡ case → to_load case used lent ≡ to_load work used lent
known work case used lent e = sym (ap (λ (w : Work). to_load w used lent) e)

pub returns-in-Start : goal.returns-in-Start
unfolding to_load
returns-in-Start c = known _ _ _ _ c.in-Start.is

pub returns-in-Run : goal.returns-in-Run
unfolding to_load
returns-in-Run c = c.used_within.ensures ∙ known _ _ _ _ c.in-Run.is
