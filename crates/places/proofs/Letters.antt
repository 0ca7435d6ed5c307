-- The loops over places: one place more among those whose mask passes a test.
use Prim.Native.Nat.{ℕ, zero, suc, ◌-◌, ◌^◌, ◌≤◌, ◌<◌}
use Rattle.std.proofs.Common.{sub-one}
use mathlib.Core.Path.{◌≡◌, ap, ap₂, ◌∙◌}
use mathlib.Core.Bool.{Bool, cond}
use mathlib.Core.List.{List}
use native.Mathlib.Omega.{arith}
use lib.Bits.{bit_or}
use lib.ListN.{get_or}
use borrow.Author.Tests.{lt-ltb}
use Rattle.bits.specs.Bit.{single}
use Rattle.places.specs.Matching.{masked_to}

pub masked-next : (test : ℕ → Bool) (masks : List ℕ) (j r one : ℕ) (b : Bool) → 1 ≤ j → j < 64 → r ≡ masked_to test masks (j - 1) → b ≡ test (get_or masks j 0) → one ≡ single 64 j
    → bit_or r (cond b one 0) ≡ masked_to test masks j
unfolding masked_to
masked-next test masks zero r one b g l e h q = absurd (omega arith)
masked-next test masks (suc k) r one b g l e h q = ap₂ bit_or (rw sub-one at e) (ap₂ (λ (t : Bool) (y : ℕ). cond t y 0) h (q ∙ ap (λ (t : Bool). cond t (2 ^ suc k) 0) (lt-ltb (suc k) 64 l)))
