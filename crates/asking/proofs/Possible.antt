-- Refusal 24 as a property (`passes-iff`), and that it never applies to a side that was made of an accepted table (`made-possible`).
use Prim.Native.Nat.{ℕ, zero, suc, ◌+◌, ◌^◌, ◌≤◌}
use mathlib.Core.Path.{◌≡◌, subst}
use mathlib.Core.Bool.{false, not}
use mathlib.Core.Logic.{⊎_elim, ◌↔◌}
use mathlib.Core.List.{List}
use Rattle.std.proofs.Common.{Option}
use native.Mathlib.Omega.{arith}
use lib.ListN.{length}
use borrow.Author.Tests.{ne_eqb, eqb-false, lt-ltb, le-ltb, ltb-true, ltb-false}
use Rattle.bits.specs.Bit.{bit, Mem, has, within}
use Rattle.bits.proofs.Laws.{lt-mem, mem-lt, mem-pow}
use Rattle.effect.specs.declared.Node.{Node}
use Rattle.effect.specs.Node.{nodes_of}
use Rattle.effect.specs.Meaning.{root}
use Rattle.effect.specs.Refusals.{instants}
use Rattle.effect.specs.WellFormed.{WellFormed}
use Rattle.effect.proofs.Laws.{or-none, not_none, below_none}
use Rattle.places.specs.Places.{numbered, accepting, has_empty, last_of}
use Rattle.places.specs.Readings.{followers}
use Rattle.places.specs.Side.{side_of}
use Rattle.places.proofs.Sets.{same, or-mem, cond-mem}
use Rattle.places.proofs.Rows.{last-places, after-places}
use Rattle.places.proofs.ByPlace.{followers-at}
use Rattle.asking.specs.Asked.{strays, side_impossible, Possible, PassesIff}

-- every member of a set is at most the count
within-iff : (count x : ℕ) → (not (within (count + 1) x) ≡ false) ↔ ((j : ℕ) → Mem x j → j ≤ count)
within-iff count x = (
  (λ h j m. let l = mem-lt (count + 1) x j (ltb-true _ _ ((not_none _).0 h)) m in omega arith),
  (λ h. (not_none _).1 (lt-ltb x (2 ^ (count + 1)) (lt-mem (count + 1) x (λ j m. let l = h j m in omega arith)))),
)

-- and none of them is 0
strays-iff : (count x : ℕ) → (strays count x ≡ false) ↔ ((j : ℕ) → Mem x j → (1 ≤ j) × (j ≤ count))
strays-iff count x = (
  (λ h j m. let p = (or-none _ _).0 h in (some p.0 j m, (within-iff count x).0 p.1 j m)),
  (λ h. (or-none _ _).1 (ne_eqb (bit x 0) 1 (λ (m : Mem x 0). let p = h 0 m in omega arith), (within-iff count x).1 (λ j m. (h j m).1))),
)
  where
    some : has x 0 ≡ false → (j : ℕ) → Mem x j → 1 ≤ j
    some h zero m = absurd (eqb-false (bit x 0) 1 h m)
    some h (suc j) m = omega arith

pub passes-iff : PassesIff
unfolding side_impossible
passes-iff sd = (to, from)
  where
    to : side_impossible sd ≡ false → Possible sd
    to h =
        let a = (or-none _ _).0 h in
        let b = (or-none _ _).0 a.1 in
        let d = (or-none _ _).0 b.1 in
        record {
          signals = ltb-false 8 sd.s a.0;
          few = ltb-false 63 sd.count b.0;
          accepting = (within-iff sd.count sd.accepts).0 d.0;
          following = λ i j l m. (strays-iff sd.count (followers sd i)).0 ((below_none (λ k. strays sd.count (followers sd k)) 64).0 d.1 i l) j m;
        }

    from : Possible sd → side_impossible sd ≡ false
    from p =
        (or-none _ _).1 (
          le-ltb 8 sd.s p.signals,
          (or-none _ _).1 (
            le-ltb 63 sd.count p.few,
            (or-none _ _).1 (
              (within-iff sd.count sd.accepts).1 p.accepting,
              (below_none (λ k. strays sd.count (followers sd k)) 64).1 (λ i l. (strays-iff sd.count (followers sd i)).1 (λ j m. p.following i j l m)),
            ),
          ),
        )

module _ (t : List Node) where
  accepts-place : (j : ℕ) → Mem (accepting (numbered t)) j → j ≤ instants t (length t)
  unfolding accepting
  accepts-place j m = ⊎_elim
      (λ a. let p = last-places t (root (numbered t)) j a in omega arith)
      (λ e. let z : j ≡ 0 = e.1 in omega arith)
      ((or-mem (last_of (numbered t) (root (numbered t))) _ j same (cond-mem (has_empty (numbered t) (root (numbered t))) 1 j same (mem-pow 0 j))).0 m)

pub made-possible : (s : ℕ) (ds : List (Option Node)) → WellFormed s ds → side_impossible (side_of s (nodes_of ds)) ≡ false
unfolding side_of
made-possible s ds w =
    let t = nodes_of ds in
    (passes-iff (side_of s t)).1 (record {
      signals = w.signals;
      few = w.formed.few;
      accepting = accepts-place t;
      following = λ i j l m. after-places t i j (subst (λ (x : ℕ). Mem x j) (followers-at s t i l) m);
    })
