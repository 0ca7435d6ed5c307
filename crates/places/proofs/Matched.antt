-- What the signals leave of the places is what matches the letter: a place is taken away exactly when its instant names
-- a signal against the letter. Of signals at or above s, which no letter has, a present one leaves its place out from the
-- start, and an absent one is of no account.
use Prim.Native.Nat.{ℕ, zero, suc, ◌^◌, ◌≤◌, ◌<◌, min}
use mathlib.Core.Path.{◌≡◌, refl, sym, subst}
use mathlib.Core.Bool.{Bool, cond}
use mathlib.Core.Logic.{⊎_elim, ◌↔◌}
use mathlib.Core.List.{List}
use native.Mathlib.Nat.{eq-or-lt_of_le, le_of_suc-le-suc}
use native.Mathlib.Omega.{arith}
use lib.Dec.{T}
use lib.ListN.{get_or}
use borrow.Author.Tests.{eq-eqb, ne_eqb}
use Rattle.bits.specs.Bit.{bit, Mem, has, within}
use Rattle.bits.proofs.Laws.{mem-dec, mem-lt, mem-without, within-members, set-ext, has-mem}
use Rattle.effect.specs.Meaning.{Matches}
use Rattle.effect.proofs.Matching.{matches-iff}
use Rattle.places.specs.declared.Side.{Side}
use Rattle.places.specs.declared.Naming.{Naming}
use Rattle.places.specs.Readings.{matching}
use Rattle.places.specs.Matching.{masked_to, naming_to, naming_of, left_to, matching_by, Matched}
use Rattle.places.proofs.ByPlace.{list_of-at, places-mem, matching-mem}

-- ---- what the signals leave
-- what the signal i takes away
abbrev away : Naming → ℕ → ℕ → ℕ
away naming x i = cond (has x i) (get_or naming.absent i 0) (get_or naming.present i 0)

left-mem : (naming : Naming) (x all s k : ℕ) → Mem (left_to naming x all s) k ↔ (Mem all k × ((i : ℕ) → i < s → Mem (away naming x i) k → ⊥))
unfolding left_to
left-mem naming x all zero k = ((λ h. (h, (λ i l. absurd (omega arith)))), (λ h. h.0))
left-mem naming x all (suc s) k = (
  (λ h. let g = (mem-without (left_to naming x all s) (away naming x s) k).0 h in
      let f = (left-mem naming x all s k).0 g.0 in
      (f.0, (λ i l. ⊎_elim (λ (e : i ≡ s). subst (λ (j : ℕ). Mem (away naming x j) k → ⊥) (sym e) g.1) (λ m. f.1 i m) (eq-or-lt_of_le (le_of_suc-le-suc l))))),
  (λ h. (mem-without (left_to naming x all s) (away naming x s) k).1 ((left-mem naming x all s k).1 (h.0, (λ i l. h.1 i (omega arith))), h.1 s (omega arith))),
)

module _ (sd : Side) (signals : sd.s ≤ 16) (few : sd.count ≤ 63) (x : ℕ) (letter : x < 2 ^ sd.s) where
  -- the places among 1 to count whose mask passes a test
  masked-mem : (test : ℕ → Bool) (masks : List ℕ) (k : ℕ) → Mem (masked_to test masks (min sd.count 63)) k ↔ ((1 ≤ k) × (k ≤ sd.count) × T (test (get_or masks k 0)))
  unfolding masked_to
  masked-mem test masks k =
      let z : min sd.count 63 ≡ sd.count = omega arith in
      rw z (places-mem (λ k. test (get_or masks k 0)) (masked_to test masks) refl (λ n. refl) sd.count k)

  -- signal i takes place k away where the instant names it against the letter
  away-present : (i k : ℕ) → i < sd.s → bit x i ≡ 0 → Mem (away (naming_of sd) x i) k ↔ ((1 ≤ k) × (k ≤ sd.count) × T (has (get_or sd.present k 0) i))
  unfolding naming_of
  away-present i k l e =
      rw (ne_eqb (bit x i) 1 (λ (m : bit x i ≡ 1). omega arith), list_of-at 16 (λ i. naming_to sd.present i (min sd.count 63)) i (omega arith)) (masked-mem (λ m. has m i) sd.present k)

  away-absent : (i k : ℕ) → i < sd.s → Mem x i → Mem (away (naming_of sd) x i) k ↔ ((1 ≤ k) × (k ≤ sd.count) × T (has (get_or sd.absent k 0) i))
  unfolding naming_of
  away-absent i k l e =
      rw (eq-eqb (bit x i) 1 e, list_of-at 16 (λ i. naming_to sd.absent i (min sd.count 63)) i (omega arith)) (masked-mem (λ m. has m i) sd.absent k)

  abbrev p : ℕ → ℕ
  p k = get_or sd.present k 0

  abbrev n : ℕ → ℕ
  n k = get_or sd.absent k 0

  alive-mem : (k : ℕ) → Mem (naming_of sd).alive k ↔ ((1 ≤ k) × (k ≤ sd.count) × T (within sd.s (p k)))
  unfolding naming_of
  alive-mem k = masked-mem (λ m. within sd.s m) sd.present k

  -- a present signal of a place that is left is below s, and so is an absent one that the letter has
  kept-matches : (k : ℕ) → 1 ≤ k → k ≤ sd.count → T (within sd.s (p k)) → ((i : ℕ) → i < sd.s → Mem (away (naming_of sd) x i) k → ⊥) → Matches sd.s (p k) (n k) x
  kept-matches k a b w h = record {
    letter = letter;
    present = λ i m. let l : i < sd.s = (within-members sd.s (p k)).0 w i m in
        ⊎_elim (λ g. g) (λ z. absurd (h i l ((away-present i k l z).1 (a, b, (has-mem (p k) i).1 m)))) (mem-dec x i);
    absent = λ i m g. let l : i < sd.s = mem-lt sd.s x i letter g in h i l ((away-absent i k l g).1 (a, b, (has-mem (n k) i).1 m));
  }

  matches-within : (k : ℕ) → Matches sd.s (p k) (n k) x → T (within sd.s (p k))
  matches-within k h = (within-members sd.s (p k)).1 (λ i m. mem-lt sd.s x i letter (h.present i m))

  matches-kept : (k : ℕ) → Matches sd.s (p k) (n k) x → (i : ℕ) → i < sd.s → Mem (away (naming_of sd) x i) k → ⊥
  matches-kept k h i l g = ⊎_elim
      (λ m. h.absent i ((has-mem (n k) i).0 ((away-absent i k l m).0 g).2) m)
      (λ z. let m : Mem x i = h.present i ((has-mem (p k) i).0 ((away-present i k l z).0 g).2) in omega arith)
      (mem-dec x i)

  matched-side : matching_by (naming_of sd) sd.s x ≡ matching sd x
  unfolding matching_by
  matched-side = set-ext _ _ (λ k. (to k, from k))
    where
      to : (k : ℕ) → Mem (left_to (naming_of sd) x (naming_of sd).alive sd.s) k → Mem (matching sd x) k
      to k h =
          let g = (left-mem (naming_of sd) x (naming_of sd).alive sd.s k).0 h in
          let (a, b, w) = (alive-mem k).0 g.0 in
          (matching-mem sd x k).1 (a, b, (matches-iff sd.s (p k) (n k) x).1 (kept-matches k a b w g.1))

      from : (k : ℕ) → Mem (matching sd x) k → Mem (left_to (naming_of sd) x (naming_of sd).alive sd.s) k
      from k h =
          let (a, b, t) = (matching-mem sd x k).0 h in
          let m = (matches-iff sd.s (p k) (n k) x).0 t in
          (left-mem (naming_of sd) x (naming_of sd).alive sd.s k).1 ((alive-mem k).1 (a, b, matches-within k m), matches-kept k m)

pub matched : Matched
matched = matched-side
