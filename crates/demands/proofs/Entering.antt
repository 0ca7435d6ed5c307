-- Entering: each row that is added is a candidate that no row had before; where all went in each candidate stands in a row; and a
-- goal finds no room only where the rows fill it and none of them is that goal.
use Prim.Native.Nat.{ℕ, ◌≤◌}
use mathlib.Core.Path.{◌≡◌, refl, sym, ap, subst, ◌∙◌}
use mathlib.Core.Bool.{Bool, true, false, cond, ◌||◌, true≢false}
use mathlib.Core.Logic.{◌⊎◌, inl, inr, ⊎_elim}
use mathlib.Core.List.{List, [], ◌∷◌, ◌++◌}
use native.Mathlib.Omega.{arith}
use lib.Dec.{eqb}
use lib.ListN.{length}
use borrow.Author.Tests.{eqb-true, eqb-false}
use Rattle.effect.proofs.Laws.{or-none, or_some}
use Rattle.goals.specs.declared.Row.{Row}
use Rattle.goals.specs.Goals.{known, Entered, enter, enter_all}
use Rattle.columns.proofs.Laws.{enter-full}
use Rattle.demands.specs.Demands.{Has}
use Rattle.demands.proofs.Rows.{Extends, extends-refl, extends-trans, extends-snoc, extends-has, length-snoc, row_snoc, known-iff, unknown, Among}

abbrev pub entered : List Row → Bool → Entered
entered rows full = record { rows = rows; full = full }

-- the three ways of entering c
enter-cases : (Q : Entered → Type 0) (room : ℕ) (c : Row) (e : Entered)
    → ((e.full ≡ true) ⊎ (known c e.rows ≡ true) → Q e)
    → (e.full ≡ false → known c e.rows ≡ false → length e.rows ≡ room → Q (entered e.rows true))
    → (e.full ≡ false → known c e.rows ≡ false → (length e.rows ≡ room → ⊥) → Q (entered (e.rows ++ (c ∷ [])) false))
    → Q (enter room c e)
unfolding enter
enter-cases Q room c e stays fills adds = by (e.full || known c e.rows) refl (eqb (length e.rows) room) refl
  where
    by : (b : Bool) → (e.full || known c e.rows) ≡ b → (d : Bool) → eqb (length e.rows) room ≡ d
        → Q (cond b e (cond d (entered e.rows true) (entered (e.rows ++ (c ∷ [])) false)))
    by true p d q = stays ((or_some e.full (known c e.rows)).0 p)
    by false p true q = let u = (or-none e.full (known c e.rows)).0 p in fills u.0 u.1 (eqb-true _ _ q)
    by false p false q = let u = (or-none e.full (known c e.rows)).0 p in adds u.0 u.1 (eqb-false _ _ q)

-- what holds of the rows and is kept by each row added holds of the rows entered
pub entered-keeps : (room : ℕ) (P : List Row → Type 0) (cs : List Row) (e : Entered)
    → ((rs : List Row) (c : Row) → P rs → Among c cs → known c rs ≡ false → (length rs ≡ room → ⊥) → P (rs ++ (c ∷ [])))
    → P e.rows → P (enter_all room cs e).rows
unfolding enter_all
entered-keeps room P [] e f p = p
entered-keeps room P (c ∷ cs) e f p =
    entered-keeps room P cs (enter room c e) (λ rs d q a. f rs d q (inr a))
    (enter-cases (λ (e' : Entered). P e'.rows) room c e (λ h. p) (λ h k l. p) (λ h k l. f e.rows c p (inl refl) k l))

pub entered-extends : (room : ℕ) (cs : List Row) (e : Entered) → Extends e.rows (enter_all room cs e).rows
entered-extends room cs e =
    entered-keeps room (Extends e.rows) cs e
    (λ rs c x a k l. extends-trans e.rows rs (rs ++ (c ∷ [])) x (extends-snoc rs c)) (extends-refl e.rows)

pub entered-within : (room : ℕ) (cs : List Row) (e : Entered) → length e.rows ≤ room → length (enter_all room cs e).rows ≤ room
entered-within room cs e =
    entered-keeps room (λ (rs : List Row). length rs ≤ room) cs e (λ rs c h a k l. omega (arith, length-snoc rs c, l))

-- where all went in, each stands in a row
enter-has : (room : ℕ) (c : Row) (e : Entered) → (enter room c e).full ≡ false → (e.full ≡ false) × Has (enter room c e).rows c.place c.set
enter-has room c e =
    enter-cases (λ (e' : Entered). e'.full ≡ false → (e.full ≡ false) × Has e'.rows c.place c.set) room c e
    (λ h f. (f, (known-iff c e.rows).0 (⊎_elim (λ g. absurd (true≢false (sym g ∙ f))) (λ g. g) h)))
    (λ h k l f. absurd (true≢false f))
    (λ h k l f. (
      h,
      (length e.rows, omega (arith, length-snoc e.rows c), ap (λ (w : Row). w.place) (row_snoc e.rows c), ap (λ (w : Row). w.set) (row_snoc e.rows c)),
    ))

pub entered-has : (room : ℕ) (cs : List Row) (e : Entered) → (enter_all room cs e).full ≡ false
    → (e.full ≡ false) × ((c : Row) → Among c cs → Has (enter_all room cs e).rows c.place c.set)
unfolding enter_all
entered-has room [] e f = (f, λ c a. absurd a)
entered-has room (c ∷ cs) e f =
    let u = entered-has room cs (enter room c e) f in
    let v = enter-has room c e u.0 in (
      v.0,
      (λ d. ⊎_elim
          (λ (q : d ≡ c). subst (λ (w : Row). Has (enter_all room cs (enter room c e)).rows w.place w.set) (sym q)
          (extends-has (enter room c e).rows (enter_all room cs (enter room c e)).rows c.place c.set (entered-extends room cs (enter room c e)) v.1))
          (u.1 d)),
    )

-- where one did not go in, the rows fill the room, and none of them is that goal
abbrev Lacks : ℕ → List Row → List Row → Type 0
Lacks room cs rows = (length rows ≡ room) × ((c : Row) × Among c cs × (known c rows ≡ false))

full-lacks : (room : ℕ) (cs : List Row) (e : Entered) → (enter_all room cs e).full ≡ true → (e.full ≡ true) ⊎ Lacks room cs (enter_all room cs e).rows
unfolding enter_all
full-lacks room [] e f = inl f
full-lacks room (c ∷ cs) e f = ⊎_elim here later (full-lacks room cs (enter room c e) f)
  where
    later : Lacks room cs (enter_all room cs (enter room c e)).rows → (e.full ≡ true) ⊎ Lacks room (c ∷ cs) (enter_all room cs (enter room c e)).rows
    later (l, (d, a, k)) = inr (l, (d, inr a, k))

    here : (enter room c e).full ≡ true → (e.full ≡ true) ⊎ Lacks room (c ∷ cs) (enter_all room cs (enter room c e)).rows
    here =
        enter-cases (λ (e' : Entered). e'.full ≡ true → (e.full ≡ true) ⊎ Lacks room (c ∷ cs) (enter_all room cs e').rows) room c e
        (λ h g. inl g)
        (λ h k l g. inr (rw (enter-full room cs (entered e.rows true) refl) (l, (c, inl refl, k))))
        (λ h k l g. absurd (true≢false (sym g)))

pub entered-lacks : (room : ℕ) (cs : List Row) (rows : List Row) → (enter_all room cs (entered rows false)).full ≡ true
    → (length (enter_all room cs (entered rows false)).rows ≡ room)
    × ((c : Row) × Among c cs × (known c (enter_all room cs (entered rows false)).rows ≡ false))
entered-lacks room cs rows f = ⊎_elim (λ g. absurd (true≢false (sym g))) (λ h. h) (full-lacks room cs (entered rows false) f)

-- rows that fill the room stay, and a goal that they lack finds no room again
full-stays : (room : ℕ) (cs rows : List Row) → length rows ≡ room → (enter_all room cs (entered rows false)).rows ≡ rows
full-stays room cs rows h =
    entered-keeps room (λ (rs : List Row). rs ≡ rows) cs (entered rows false) (λ rs c e a k l. absurd (l (ap (λ (r : List Row). length r) e ∙ h))) refl

pub full-again : (room : ℕ) (cs rows : List Row) (c : Row) → length rows ≡ room → Among c cs → known c rows ≡ false
    → enter_all room cs (entered rows false) ≡ entered rows true
full-again room cs rows c h a k = by (enter_all room cs (entered rows false)).full refl
  where
    by : (b : Bool) → (enter_all room cs (entered rows false)).full ≡ b → enter_all room cs (entered rows false) ≡ entered rows true
    by true e = λ i. entered (full-stays room cs rows h i) (e i)
    by false e =
        absurd (unknown c rows k (subst (λ (rs : List Row). Has rs c.place c.set) (full-stays room cs rows h)
        ((entered-has room cs (entered rows false) e).1 c a)))
