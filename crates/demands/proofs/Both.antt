-- Both sides of a comparison are accepted: each table is well formed, and they have one number of signals. It is what
-- every accepted call of a comparison says of its sides.
use mathlib.Core.Path.{◌≡◌}
use Rattle.effect.specs.Node.{decodings}
use Rattle.effect.specs.WellFormed.{WellFormed}
use Rattle.goals.specs.Refusals.{Given}

pub record Both (g : Given) : Type 0 where
  pub left : WellFormed g.ls (decodings g.left)
  pub right : WellFormed g.rs (decodings g.right)
  pub same : g.ls ≡ g.rs
