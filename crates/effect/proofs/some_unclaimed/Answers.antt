-- `effect::some_unclaimed`: past the end none is claimed; before it `contains` tests the places below n, one by one.
use mathlib.Core.Path.{◌≡◌, refl, sym, ap, ◌∙◌}
use mathlib.Core.Bool.{Bool, true, false, not, beq}
use native.Mathlib.Omega.{arith}
use lib.ListN.{get_or-eq_default}
use borrow.Author.Tests.{lt-ltb}
use Rattle.effect.proofs.Laws.{any-below, below-same, some_below_lem}
use Rattle.effect.proofs.some_unclaimed.Goals as goal

beq-false : (b : Bool) → beq b false ≡ not b
beq-false true = refl
beq-false false = refl

pub returns-then-n-gt256 : goal.returns-then-n-gt256
returns-then-n-gt256 c =
    lt-ltb 256 c.args.n c.if-n-gt256.true
    ∙ sym (some_below_lem _ c.args.n 256 c.if-n-gt256.true (ap not (get_or-eq_default c.args.claimed.now false (omega (arith, c.told-claimed)))))

pub returns-else-n-gt256 : goal.returns-else-n-gt256
returns-else-n-gt256 c =
    c.contains.ensures.value
    ∙ any-below (λ y. beq y false) c.args.claimed.now false c.args.n (omega (arith, c.if-n-gt256.false))
    ∙ below-same _ _ c.args.n (λ k l. beq-false _)
