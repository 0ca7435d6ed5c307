-- Any two results that meet a promise are equal: each promise is an equation of the result, or of what the result says (`prepared-inj`).
use Prim.Native.Nat.{ℕ}
use mathlib.Core.Path.{◌≡◌, sym, ap, ◌∙◌}
use mathlib.Core.List.{List}
use native.Mathlib.Omega.{arith}
use Rattle.std.specs.Prelude.{Result, Ok, Err}
use Rattle.effect.specs.declared.Refusal.{Refusal}
use Rattle.effect.proofs.Numbers.{number-inj, number-positive}
use Rattle.places.specs.declared.Side.{Side}
use Rattle.places.specs.declared.Naming.{Naming}
use Rattle.places.specs.Side.{Prepared, prepared}
use Rattle.places.specs.Promises.{NoSideIs, PrepareIs, NamingOfIs, MatchingIs}

-- two answers that say the same are one
prepared-inj : (r r' : Result Side Refusal) → prepared r ≡ prepared r' → r ≡ r'
unfolding prepared
prepared-inj (Ok sd) (Ok sd') e = ap Ok (ap (λ (p : Prepared). p.side) e)
prepared-inj (Ok sd) (Err r) e = absurd (omega (arith, number-positive r, ap (λ (p : Prepared). p.number) e))
prepared-inj (Err r) (Ok sd) e = absurd (omega (arith, number-positive r, ap (λ (p : Prepared). p.number) e))
prepared-inj (Err r) (Err r') e = ap Err (number-inj r r' (ap (λ (p : Prepared). p.number) e))

pub prepare-one : (s : ℕ) (ns : List ℕ) (r r' : Result Side Refusal) → PrepareIs s ns r → PrepareIs s ns r' → r ≡ r'
prepare-one s ns r r' e f = prepared-inj r r' (e ∙ sym f)

pub no-side-one : (r r' : Side) → NoSideIs r → NoSideIs r' → r ≡ r'
no-side-one r r' e f = e ∙ sym f

pub naming-one : (sd : Side) (r r' : Naming) → NamingOfIs sd r → NamingOfIs sd r' → r ≡ r'
naming-one sd r r' e f = e ∙ sym f

pub matching-one : (naming : Naming) (s x r r' : ℕ) → MatchingIs naming s x r → MatchingIs naming s x r' → r ≡ r'
matching-one naming s x r r' e f = e ∙ sym f
