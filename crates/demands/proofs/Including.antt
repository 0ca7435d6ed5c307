-- A closed set of goals with the start and no bad one shows inclusion: what the left reads from the place of a goal, the right
-- reads from a member of its set. By recursion on the word.
use Prim.Native.Nat.{ℕ, suc, ◌/◌, ◌^◌, ◌<◌}
use mathlib.Core.Path.{◌≡◌, refl, ◌∙◌, subst}
use mathlib.Core.Bool.{false}
use mathlib.Core.Logic.{◌⊎◌, inl, inr, ◌≢◌}
use mathlib.Core.List.{List, [], ◌∷◌}
use native.Mathlib.Omega.{arith}
use lib.Arith.{bin_ind}
use lib.Bits.{bit_and}
use lib.Dec.{eqb}
use borrow.Author.Tests.{eq-eqb, eqb-false}
use Rattle.bits.specs.Bit.{bit, Mem}
use Rattle.bits.proofs.Laws.{bit-low, bit-suc, mem-dec, mem-and, mem-pow}
use Rattle.effect.specs.Node.{decodings}
use Rattle.places.specs.Readings.{matching, followers, Reads, post}
use Rattle.places.proofs.Theorems.{glushkov}
use Rattle.goals.specs.Goals.{bad_goal}
use Rattle.goals.specs.Refusals.{Given, left_of, right_of}
use Rattle.demands.specs.Demands.{LeftTrace, RightTrace}
use Rattle.demands.proofs.Both.{Both}
use Rattle.demands.proofs.Reaching.{left-match, right-post}

-- a set that is not empty has a member
some-member : (S : ℕ) → S ≢ 0 → (j : ℕ) × Mem S j
some-member S = bin_ind (λ (n : ℕ). n ≢ 0 → (j : ℕ) × Mem n j) (λ h. absurd (h refl)) step S
  where
    step : (n : ℕ) → (n / 2 ≢ 0 → (j : ℕ) × Mem (n / 2) j) → n ≢ 0 → (j : ℕ) × Mem n j
    step n half h = by (mem-dec n 0)
      where
        by : Mem n 0 ⊎ (bit n 0 ≡ 0) → (j : ℕ) × Mem n j
        by (inl m) = (0, m)
        by (inr e) = let (j, m) = half (λ z. h (omega (arith, bit-low n))) in (suc j, bit-suc n j ∙ m)

-- where the left place of a goal that is not bad accepts, a member of its set does too
not-bad : (left right p S : ℕ) → bad_goal left right p S ≡ false → Mem left p → (j : ℕ) × Mem S j × Mem right j
unfolding bad_goal
not-bad left right p S fine a =
    let e : eqb (bit_and S right) 0 ≡ false = rw (eq-eqb (bit left p) 1 a) at fine in
    let (j, m) = some-member (bit_and S right) (eqb-false (bit_and S right) 0 e) in
    let (b, c) = (mem-and S right j).0 m in
    (j, b, c)

-- of a set of goals, none bad, with each goal that follows one of them
module _ (g : Given) (both : Both g) (G : ℕ → ℕ → Type 0)
    (fine : (p S : ℕ) → G p S → bad_goal (left_of g).accepts (right_of g).accepts p S ≡ false)
    (closed : (p S x k : ℕ) → G p S → x < 2 ^ g.ls → Mem (followers (left_of g) p) k → Mem (matching (left_of g) x) k
    → G k (post (right_of g) S x)) where
  -- the letters are below 2^s, since the left matches them
  simulates : (w : List ℕ) (p S : ℕ) → G p S → Reads (left_of g) p w → (j : ℕ) × Mem S j × Reads (right_of g) j w
  simulates [] p S h a = not-bad (left_of g).accepts (right_of g).accepts p S (fine p S h) a
  simulates (x ∷ w) p S h (k, f, m, r) =
      let (j, a, q) = simulates w k (post (right_of g) S x) (closed p S x k h (left-match g both x k m).3 f m) r in
      let (i, b, c, d) = (right-post g S x j).0 a in
      (i, b, (j, c, d, q))

  pub closed-included : G 0 1 → (w : List ℕ) → LeftTrace g w → RightTrace g w
  closed-included start w t =
      let (j, m, r) = simulates w 0 1 start ((glushkov g.ls (decodings g.left) both.left w).0 t) in
      (glushkov g.rs (decodings g.right) both.right w).1 (subst (λ (i : ℕ). Reads (right_of g) i w) ((mem-pow 0 j).0 m) r)
