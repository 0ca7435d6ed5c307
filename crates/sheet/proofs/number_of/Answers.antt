use Prim.Native.Nat.{ℕ, ◌+◌, ◌*◌}
use mathlib.Core.Path.{refl, ap₂}
use native.Mathlib.Nat.{pow-suc}
use native.Mathlib.Numerals.{add-one}
use native.Mathlib.Omega.{arith}
use Rattle.sheet.specs.Bits.{field}
use Rattle.sheet.proofs.number_of.Goals as goal

pub loop-k-init : goal.loop-k-init
unfolding field
loop-k-init g c = (omega arith, λ bs h. refl)

pub loop-k-preserved : goal.loop-k-preserved
unfolding field
loop-k-preserved g c =
    let b = c.requires.bits _ _ c.bit.ensures in
    rw add-one (
      omega (arith, pow-suc 2 c.loop-k.k),
      λ bs h. ap₂ (λ (v b : ℕ). v * 2 + b) (c.loop-k.invariant.1 bs h) (h _ _ c.bit.ensures),
    )
