-- What the rows of every state of a run are (`Kept`): row 0 is the start, every other row goes on from a lower one by its letter, and
-- no two rows are one goal. Rows that are so stay so when the candidates of a row are entered.
use Prim.Native.Nat.{ℕ, ◌^◌, ◌≤◌, ◌<◌}
use mathlib.Core.Path.{◌≡◌, refl, sym, ap, subst, ◌∙◌}
use mathlib.Core.Bool.{false}
use mathlib.Core.Logic.{◌⊎◌, inl, inr}
use mathlib.Core.List.{List, [], ◌∷◌, ◌++◌}
use native.Mathlib.Decide.{dec_lt}
use native.Mathlib.Omega.{arith}
use lib.ListN.{length}
use Rattle.bits.specs.Bit.{Mem}
use Rattle.places.specs.declared.Side.{Side}
use Rattle.places.specs.Readings.{matching, followers, post}
use Rattle.goals.specs.declared.Row.{Row}
use Rattle.goals.specs.Goals.{row_zero, known, candidates, enter_all}
use Rattle.demands.specs.Demands.{row_of, Differ}
use Rattle.demands.proofs.Rows.{Extends, extends-refl, extends-trans, extends-snoc, extends-longer, extends-row, length-snoc, row_snoc, unknown, Among, candidate-of}
use Rattle.demands.proofs.Entering.{entered, entered-keeps}

module _ (left right : Side) where
  -- c goes on from its parent, which is one of the rows, by its letter
  pub record Goes (rs : List Row) (c : Row) : Type 0 where
    pub after : c.parent < length rs
    pub below : c.letter < 2 ^ left.s
    pub follows : Mem (followers left (row_of rs c.parent).place) c.place
    pub matches : Mem (matching left c.letter) c.place
    pub spreads : c.set ≡ post right (row_of rs c.parent).set c.letter

  -- each row from row n on goes on from a lower one
  abbrev pub Born : List Row → ℕ → Type 0
  Born rs n = (i : ℕ) → n ≤ i → i < length rs → ((row_of rs i).parent < i) × Goes rs (row_of rs i)

  pub record Kept (rs : List Row) : Type 0 where
    pub some : 0 < length rs
    pub first : row_of rs 0 ≡ row_zero
    pub born : Born rs 1
    pub once : Differ rs

  goes-extends : (rs rs' : List Row) (c : Row) → Extends rs rs' → Goes rs c → Goes rs' c
  goes-extends rs rs' c x g =
      let e = extends-row rs rs' x c.parent g.after in
      record {
        after = omega (arith, extends-longer rs rs' x, g.after);
        below = g.below;
        follows = subst (λ (w : Row). Mem (followers left w.place) c.place) (sym e) g.follows;
        matches = g.matches;
        spreads = subst (λ (w : Row). c.set ≡ post right w.set c.letter) (sym e) g.spreads;
      }

  pub kept-start : Kept (row_zero ∷ [])
  kept-start =
      record {
        some = omega arith;
        first = refl;
        born = λ i h l. absurd (omega (arith, h, l));
        once = λ i j h l p q. omega (arith, h, l);
      }

  -- a row of the longer table is one of the shorter, or the last
  split : (rs : List Row) (c : Row) (i : ℕ) → i < length (rs ++ (c ∷ [])) → (i < length rs) ⊎ (i ≡ length rs)
  split rs c i h = go (dec_lt i (length rs))
    where
      go : Dec (i < length rs) → (i < length rs) ⊎ (i ≡ length rs)
      go (yes l) = inl l
      go (no l) = inr (omega (arith, length-snoc rs c, l))

  module _ (rs : List Row) (c : Row) where
    abbrev more : List Row
    more = rs ++ (c ∷ [])

    old : (i : ℕ) → i < length rs → row_of more i ≡ row_of rs i
    old = extends-row rs more (extends-snoc rs c)

    last : (i : ℕ) → i ≡ length rs → row_of more i ≡ c
    last i e = ap (row_of more) e ∙ row_snoc rs c

    born-snoc : (n : ℕ) → Born rs n → Goes rs c → Born more n
    born-snoc n b g i h l = at (split rs c i l)
      where
        at : (i < length rs) ⊎ (i ≡ length rs) → ((row_of more i).parent < i) × Goes more (row_of more i)
        at (inl k) = let u = b i h k in rw (old i k) (u.0, goes-extends rs more (row_of rs i) (extends-snoc rs c) u.1)
        at (inr e) = rw (last i e) (omega (arith, g.after, e), goes-extends rs more c (extends-snoc rs c) g)

    pub kept-snoc : Kept rs → Goes rs c → known c rs ≡ false → Kept more
    kept-snoc k g new =
        record {
          some = omega (arith, length-snoc rs c);
          first = old 0 k.some ∙ k.first;
          born = born-snoc 1 k.born g;
          once = λ i j h l p q. once-at i j p q (split rs c i h) (split rs c j l);
        }
      where
        -- an old row that is the new goal
        clash : (i j : ℕ) → i < length rs → j ≡ length rs → (row_of more i).place ≡ (row_of more j).place → (row_of more i).set ≡ (row_of more j).set → ⊥
        clash i j l e p q =
            unknown c rs new (
              i,
              l,
              ap (λ (w : Row). w.place) (sym (old i l)) ∙ p ∙ ap (λ (w : Row). w.place) (last j e),
              ap (λ (w : Row). w.set) (sym (old i l)) ∙ q ∙ ap (λ (w : Row). w.set) (last j e),
            )

        once-at : (i j : ℕ) → (row_of more i).place ≡ (row_of more j).place → (row_of more i).set ≡ (row_of more j).set
            → (i < length rs) ⊎ (i ≡ length rs) → (j < length rs) ⊎ (j ≡ length rs) → i ≡ j
        once-at i j p q (inl h) (inl l) =
            k.once i j h l
            (ap (λ (w : Row). w.place) (sym (old i h)) ∙ p ∙ ap (λ (w : Row). w.place) (old j l))
            (ap (λ (w : Row). w.set) (sym (old i h)) ∙ q ∙ ap (λ (w : Row). w.set) (old j l))
        once-at i j p q (inl h) (inr e) = absurd (clash i j h e p q)
        once-at i j p q (inr e) (inl l) = absurd (clash j i l e (sym p) (sym q))
        once-at i j p q (inr d) (inr e) = d ∙ sym e

  -- a candidate of row r goes on from it
  pub candidate-goes : (rs : List Row) (r : ℕ) (c : Row) → r < length rs → Among c (candidates left right r (row_of rs r)) → Goes rs c
  candidate-goes rs r c l a =
      let d = candidate-of left right r (row_of rs r) c a in
      subst (λ (w : Row). Goes rs w) (sym d.is)
      (record { after = l; below = d.below; follows = d.follows; matches = d.matches; spreads = refl })

  -- ---- the candidates of row r entered
  module _ (room : ℕ) (rs : List Row) (r : ℕ) (l : r < length rs) where
    abbrev candidates_of : List Row
    candidates_of = candidates left right r (row_of rs r)

    -- what each new row that goes on keeps is kept
    keeps : (P : List Row → Type 0) → ((rs' : List Row) (c : Row) → P rs' → Goes rs' c → known c rs' ≡ false → P (rs' ++ (c ∷ [])))
        → P rs → P (enter_all room candidates_of (entered rs false)).rows
    keeps P next p =
        (entered-keeps room (λ (rs' : List Row). P rs' × Extends rs rs') candidates_of (entered rs false)
        (λ rs' c h a new full. (
          next rs' c h.0 (goes-extends rs rs' c h.1 (candidate-goes rs r c l a)) new,
          extends-trans rs rs' (rs' ++ (c ∷ [])) h.1 (extends-snoc rs' c),
        ))
        (p, extends-refl rs)).0

    pub kept-entered : Kept rs → Kept (enter_all room candidates_of (entered rs false)).rows
    kept-entered = keeps Kept kept-snoc

    pub born-entered : (n : ℕ) → Born rs n → Born (enter_all room candidates_of (entered rs false)).rows n
    born-entered n = keeps (λ (rs' : List Row). Born rs' n) (λ rs' c b g new. born-snoc rs' c n b g)

    -- and each new row has r for its parent
    pub entered-parents : (i : ℕ) → length rs ≤ i → i < length (enter_all room candidates_of (entered rs false)).rows → (row_of (enter_all room candidates_of (entered rs false)).rows i).parent ≡ r
    entered-parents =
        entered-keeps room (λ (rs' : List Row). (i : ℕ) → length rs ≤ i → i < length rs' → (row_of rs' i).parent ≡ r) candidates_of (entered rs false)
        (λ rs' c h a new full i p q. at rs' c h a i p (split rs' c i q))
        (λ i p q. absurd (omega (arith, p, q)))
      where
        at : (rs' : List Row) (c : Row) → ((i : ℕ) → length rs ≤ i → i < length rs' → (row_of rs' i).parent ≡ r) → Among c candidates_of → (i : ℕ) → length rs ≤ i
            → (i < length rs') ⊎ (i ≡ length rs') → (row_of (rs' ++ (c ∷ [])) i).parent ≡ r
        at rs' c h a i p (inl l) = ap (λ (w : Row). w.parent) (old rs' c i l) ∙ h i p l
        at rs' c h a i p (inr e) = ap (λ (w : Row). w.parent) (last rs' c i e ∙ (candidate-of left right r (row_of rs r) c a).is)
