-- `places::masked`. The loop keeps the places before j that pass.
use Rattle.std.proofs.Common.{ℕ, ◌-◌, ◌≡◌, Bool}
use Rattle.places.specs.Matching.{masked_to}
use Rattle.places.proofs.masked.Given as goal

abbrev pub invariant-loop-j : goal.invariant-loop-j
invariant-loop-j g l =
    (passes : ℕ → Bool) → ((m : ℕ) (b : Bool) → goal.F-post g l.test m b → b ≡ passes m) → l.r ≡ masked_to passes l.masks (l.j - 1)
