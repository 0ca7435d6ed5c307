-- Lists and goals: rows that go on from others, goals that stand in rows, and which goals the candidates of a row are: for each
-- letter, each left place that follows and matches.
use Prim.Native.Nat.{ℕ, zero, suc, ◌^◌, ◌≤◌, ◌<◌}
use mathlib.Core.Path.{◌≡◌, refl, sym, ap, subst, ◌∙◌}
use mathlib.Core.Bool.{Bool, true, false, cond, ◌&&◌, true≢false}
use mathlib.Core.Logic.{◌⊎◌, inl, inr, ⊎_elim, ◌↔◌}
use mathlib.Core.List.{List, [], ◌∷◌, ◌++◌, append_assoc, append-nil}
use native.Mathlib.Decide.{ℕ_discrete}
use native.Mathlib.Omega.{arith}
use lib.Bits.{bit_and}
use lib.Dec.{eqb}
use lib.ListN.{length, length-append, get_or-append}
use lib.Seq.{get_or-append_seam}
use borrow.Author.Tests.{eq-eqb, eqb-true}
use Rattle.bits.specs.Bit.{Mem, has}
use Rattle.bits.proofs.Laws.{mem-and}
use Rattle.effect.proofs.Laws.{and-all, or_some}
use Rattle.places.specs.declared.Side.{Side}
use Rattle.places.specs.Readings.{matching, followers, post}
use Rattle.goals.specs.declared.Row.{Row}
use Rattle.goals.specs.Goals.{row, row_zero, known, each_member, goals_of, each_letter, candidates}
use Rattle.demands.specs.Demands.{row_of, Has}

-- ---- rows that go on from others
abbrev pub Extends : List Row → List Row → Type 0
Extends rs rs' = (more : List Row) × (rs ++ more ≡ rs')

pub extends-refl : (rs : List Row) → Extends rs rs
extends-refl rs = ([], append-nil rs)

pub extends-trans : (a b c : List Row) → Extends a b → Extends b c → Extends a c
extends-trans a b c (m, e) (n, f) = (m ++ n, sym (append_assoc a m n) ∙ ap (λ (l : List Row). l ++ n) e ∙ f)

pub extends-snoc : (rs : List Row) (c : Row) → Extends rs (rs ++ (c ∷ []))
extends-snoc rs c = (c ∷ [], refl)

pub extends-longer : (rs rs' : List Row) → Extends rs rs' → length rs ≤ length rs'
extends-longer rs rs' (m, e) = subst (λ (l : List Row). length rs ≤ length l) e (omega (arith, length-append rs m))

pub extends-row : (rs rs' : List Row) → Extends rs rs' → (i : ℕ) → i < length rs → row_of rs' i ≡ row_of rs i
extends-row rs rs' (m, e) i h = ap (λ (l : List Row). row_of l i) (sym e) ∙ get_or-append rs m row_zero i h

pub extends-has : (rs rs' : List Row) (p S : ℕ) → Extends rs rs' → Has rs p S → Has rs' p S
extends-has rs rs' p S x (i, h, a, b) =
    let e = extends-row rs rs' x i h in
    (i, omega (arith, extends-longer rs rs' x), ap (λ (w : Row). w.place) e ∙ a, ap (λ (w : Row). w.set) e ∙ b)

pub length-snoc : (rs : List Row) (c : Row) → length (rs ++ (c ∷ [])) ≡ suc (length rs)
length-snoc rs c = length-append rs (c ∷ []) ∙ omega arith

pub row_snoc : (rs : List Row) (c : Row) → row_of (rs ++ (c ∷ [])) (length rs) ≡ c
row_snoc rs c = get_or-append_seam rs c [] row_zero

-- ---- goals that stand in rows
has-later : (w : Row) (ws : List Row) (p S : ℕ) → Has ws p S → Has (w ∷ ws) p S
has-later w ws p S (i, h, a, b) = (suc i, omega arith, a, b)

known-has : (c : Row) (rs : List Row) → known c rs ≡ true → Has rs c.place c.set
unfolding known
known-has c [] h = absurd (true≢false (sym h))
known-has c (w ∷ ws) h =
    ⊎_elim here (λ g. has-later w ws c.place c.set (known-has c ws g)) ((or_some (eqb w.place c.place && eqb w.set c.set) (known c ws)).0 h)
  where
    here : (eqb w.place c.place && eqb w.set c.set) ≡ true → Has (w ∷ ws) c.place c.set
    here g = let u = (and-all (eqb w.place c.place) (eqb w.set c.set)).0 g in (0, omega arith, eqb-true _ _ u.0, eqb-true _ _ u.1)

has-known : (c : Row) (rs : List Row) (i : ℕ) → i < length rs → (row_of rs i).place ≡ c.place → (row_of rs i).set ≡ c.set → known c rs ≡ true
unfolding known
has-known c [] i h a b = absurd (omega arith)
has-known c (w ∷ ws) zero h a b = rw (eq-eqb _ _ a, eq-eqb _ _ b) refl
has-known c (w ∷ ws) (suc i) h a b = (or_some (eqb w.place c.place && eqb w.set c.set) (known c ws)).1 (inr (has-known c ws i (omega arith) a b))

pub known-iff : (c : Row) (rs : List Row) → (known c rs ≡ true) ↔ Has rs c.place c.set
known-iff c rs = (known-has c rs, λ h. has-known c rs h.0 h.1 h.2 h.3)

pub unknown : (c : Row) (rs : List Row) → known c rs ≡ false → Has rs c.place c.set → ⊥
unknown c rs e h = true≢false (sym ((known-iff c rs).1 h) ∙ e)

-- ---- c is one of the rows of a list
abbrev pub Among : Row → List Row → Type 0
Among c [] = ⊥
Among c (d ∷ ds) = (c ≡ d) ⊎ Among c ds

among-append : (c : Row) (xs ys : List Row) → Among c (xs ++ ys) ↔ (Among c xs ⊎ Among c ys)
among-append c [] ys = (inr, ⊎_elim (λ h. absurd h) (λ h. h))
among-append c (x ∷ xs) ys =
    let ih = among-append c xs ys in (
      ⊎_elim (λ e. inl (inl e)) (λ h. ⊎_elim (λ a. inl (inr a)) inr (ih.0 h)),
      ⊎_elim (⊎_elim (λ e. inl e) (λ a. inr (ih.1 (inl a)))) (λ b. inr (ih.1 (inr b))),
    )

-- lists of parts one after another: what is in one of the first n parts
among-parts : (part all : ℕ → List Row) → all 0 ≡ [] → ((n : ℕ) → all (suc n) ≡ all n ++ part n) → (c : Row) (n : ℕ)
    → Among c (all n) ↔ ((j : ℕ) × (j < n) × Among c (part j))
among-parts part all none more c zero = ((λ h. absurd (rw none at h)), (λ (h : (j : ℕ) × (j < 0) × Among c (part j)). absurd (omega (arith, h.1))))
among-parts part all none more c (suc n) = (to (among-parts part all none more c n), from (among-parts part all none more c n))
  where
    split : Among c (all (suc n)) ↔ (Among c (all n) ⊎ Among c (part n))
    split = rw (more n) (among-append c (all n) (part n))

    to : Among c (all n) ↔ ((j : ℕ) × (j < n) × Among c (part j)) → Among c (all (suc n)) → (j : ℕ) × (j < suc n) × Among c (part j)
    to ih h = ⊎_elim (λ a. let (j, l, b) = ih.0 a in (j, omega arith, b)) (λ a. (n, omega arith, a)) (split.0 h)

    from : Among c (all n) ↔ ((j : ℕ) × (j < n) × Among c (part j)) → (j : ℕ) × (j < suc n) × Among c (part j) → Among c (all (suc n))
    from ih (j, l, b) = go (ℕ_discrete j n)
      where
        go : Dec (j ≡ n) → Among c (all (suc n))
        go (yes e) = split.1 (inr (subst (λ (i : ℕ). Among c (part i)) e b))
        go (no e) = split.1 (inl (ih.1 (j, omega arith, b)))

among-member : (S : ℕ) (f : ℕ → Row) (n : ℕ) (c : Row) → Among c (each_member S f n) ↔ ((j : ℕ) × (j < n) × Among c (cond (has S j) (f j ∷ []) []))
unfolding each_member
among-member S f n c = among-parts (λ j. cond (has S j) (f j ∷ []) []) (each_member S f) refl (λ n. refl) c n

among-letter : (f : ℕ → List Row) (n : ℕ) (c : Row) → Among c (each_letter f n) ↔ ((x : ℕ) × (x < n) × Among c (f x))
unfolding each_letter
among-letter f n c = among-parts f (each_letter f) refl (λ n. refl) c n

-- ---- the candidates of row i, which is w: for each letter x, each left place k that follows and matches
module _ (left right : Side) (i : ℕ) (w : Row) where
  abbrev pub goal_at : ℕ → ℕ → Row
  goal_at x k = row k (post right w.set x) i x

  pub record Candidate (c : Row) : Type 0 where
    pub by : ℕ
    pub at : ℕ
    pub below : by < 2 ^ left.s
    pub follows : Mem (followers left w.place) at
    pub matches : Mem (matching left by) at
    pub is : c ≡ goal_at by at

  pub candidate-of : (c : Row) → Among c (candidates left right i w) → Candidate c
  unfolding candidates
  candidate-of c h =
      let (x, l, a) = (among-letter (goals_of left right i w) (2 ^ left.s) c).0 h in
      let (k, m, b) = (among-member (bit_and (followers left w.place) (matching left x)) (goal_at x) 64 c).0 a in
      one x k l (has (bit_and (followers left w.place) (matching left x)) k) refl b
    where
      one : (x k : ℕ) → x < 2 ^ left.s → (b : Bool) → has (bit_and (followers left w.place) (matching left x)) k ≡ b
          → Among c (cond b (goal_at x k ∷ []) []) → Candidate c
      one x k l false e h = elim h [ ]
      one x k l true e (inr h) = elim h [ ]
      one x k l true e (inl q) =
          let u = (mem-and (followers left w.place) (matching left x) k).0 (eqb-true _ _ e) in
          record { by = x; at = k; below = l; follows = u.0; matches = u.1; is = q }

  pub of-candidate : (x k : ℕ) → x < 2 ^ left.s → k < 64 → Mem (followers left w.place) k → Mem (matching left x) k
      → Among (goal_at x k) (candidates left right i w)
  unfolding candidates
  of-candidate x k l m f g =
      (among-letter (goals_of left right i w) (2 ^ left.s) (goal_at x k)).1 (
        x,
        l,
        (among-member (bit_and (followers left w.place) (matching left x)) (goal_at x) 64 (goal_at x k)).1 (
          k,
          m,
          subst (λ (b : Bool). Among (goal_at x k) (cond b (goal_at x k ∷ []) [])) (sym (eq-eqb _ _ ((mem-and (followers left w.place) (matching left x) k).1 (f, g)))) (inl refl),
        ),
      )
