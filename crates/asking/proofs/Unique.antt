-- Any two results that meet a promise are equal: each promise is an equation of the result.
use Prim.Native.Nat.{ℕ}
use mathlib.Core.Path.{◌≡◌, sym, ◌∙◌}
use Rattle.std.proofs.Common.{Bool, Result}
use Rattle.places.specs.declared.Side.{Side}
use Rattle.goals.specs.declared.SideRefusal.{SideRefusal}
use Rattle.goals.specs.Refusals.{Given}
use Rattle.asking.specs.declared.Asked.{Asked}
use Rattle.asking.specs.Promises.{BothIs, AskIs, SideImpossibleIs, WhyNotIs}

pub both_one : (number : ℕ) (r r' : SideRefusal) → BothIs number r → BothIs number r' → r ≡ r'
both_one number r r' e f = e ∙ sym f

pub ask-one : (g : Given) (r r' : Asked) → AskIs g r → AskIs g r' → r ≡ r'
ask-one g r r' e f = e ∙ sym f

pub side-impossible-one : (sd : Side) (r r' : Bool) → SideImpossibleIs sd r → SideImpossibleIs sd r' → r ≡ r'
side-impossible-one sd r r' e f = e ∙ sym f

pub why-not-one : (a : Asked) (r r' : Result (Unit {0}) SideRefusal) → WhyNotIs a r → WhyNotIs a r' → r ≡ r'
why-not-one a r r' e f = e ∙ sym f
