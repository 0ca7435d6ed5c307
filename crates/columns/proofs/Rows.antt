-- Rows and columns, one row after another: what the loops of `Table::take_rows` and `View::give_rows` keep.
use Prim.Native.Nat.{ℕ, zero, suc, ◌+◌, ◌≤◌, ◌<◌}
use mathlib.Core.Path.{◌≡◌, refl, sym, ap, ap₂, subst, ◌∙◌}
use mathlib.Core.Bool.{true, false}
use mathlib.Core.List.{List, [], ◌∷◌, ◌++◌, map}
use native.Mathlib.Numerals.{add-one}
use native.Mathlib.Omega.{arith}
use lib.ListN.{length, get_or, set, take, length-map}
use lib.Seq.{take-suc, take-length, length-take-le}
use Rattle.std.proofs.lemmas.List.{get_or-take}
use Rattle.effect.specs.Refusals.{front}
use Rattle.effect.proofs.Laws.{some_below_lem, or-none}
use Rattle.effect.proofs.Front.{length_front, front-next}
use Rattle.goals.specs.declared.Row.{Row}
use Rattle.goals.specs.Goals.{same_goal, known}
use Rattle.columns.specs.Calls.{Columns, row_at, rows_in, put, lent_in}
use Rattle.columns.specs.declared.Table.{Table}
use Rattle.columns.specs.declared.View.{View}
use Rattle.columns.specs.Tables.{of_table, of_view, ViewIs, in_all, with_row}
use Rattle.columns.proofs.Laws.{map_snoc, columns-eq, known_some, known-snoc}

module _ (f : Row → ℕ) (n : ℕ) (rows : List Row) (old : List ℕ) where
  head-length : n ≤ length rows → length (map f (take n rows)) ≡ n
  head-length h = length-map (take n rows) f ∙ length-take-le n rows h

  pub column-length : n ≤ length rows → n ≤ length old → length (front (map f (take n rows)) old) ≡ length old
  column-length h k = length_front (map f (take n rows)) old (omega (arith, head-length h))

  pub column-next : (none : Row) → n < length rows → n < length old
      → set (front (map f (take n rows)) old) n (f (get_or rows n none)) ≡ front (map f (take (suc n) rows)) old
  column-next none h k =
      front-next (map f (take n rows)) old n (f (get_or rows n none)) (head-length (omega arith)) k
      ∙ ap (λ (l : List ℕ). front l old) (sym (ap (map f) (take-suc rows n none h) ∙ map_snoc f (take n rows) (get_or rows n none)))

-- the columns under rows put at their front have every row that they had
pub put-reaches : (c : Columns) (n i : ℕ) (rows : List Row) → n ≤ length rows → n ≤ length c.places → n ≤ length c.sets → n ≤ length c.parents → n ≤ length c.letters
    → in_all i c → in_all i (put (take n rows) c)
put-reaches c n i rows h p s q l a = (
  omega (arith, a.0, column-length (λ w. w.place) n rows c.places h p),
  omega (arith, a.1, column-length (λ w. w.set) n rows c.sets h s),
  omega (arith, a.2, column-length (λ w. w.parent) n rows c.parents h q),
  omega (arith, a.3, column-length (λ w. w.letter) n rows c.letters h l),
)

-- one row more
pub put-row : (c : Columns) (n : ℕ) (rows : List Row) (none : Row) → n < length rows → in_all n c → with_row (put (take n rows) c) n (get_or rows n none) ≡ put (take (suc n) rows) c
put-row c n rows none h a =
    columns-eq
    (column-next (λ w. w.place) n rows c.places none h a.0)
    (column-next (λ w. w.set) n rows c.sets none h a.1)
    (column-next (λ w. w.parent) n rows c.parents none h a.2)
    (column-next (λ w. w.letter) n rows c.letters none h a.3)

-- the same as a loop over the first n rows meets it
pub put-row-of : (c x y : Columns) (n i : ℕ) (rows : List Row) (none : Row) → n ≤ length rows → i < length (take n rows) → in_all i c
    → x ≡ put (take i rows) c → y ≡ with_row x i (get_or (take n rows) i none) → y ≡ put (take (i + 1) rows) c
put-row-of c x y n i rows none h l a e f =
    let k : i < n = omega (arith, length-take-le n rows h) in
    f
    ∙ ap₂ (λ (z : Columns) (w : Row). with_row z i w) e (get_or-take n rows i none k)
    ∙ put-row c i rows none (omega arith) a
    ∙ ap (λ (m : ℕ). put (take m rows) c) (sym (add-one i))

rows-front : (c : Columns) (items : List Row) (d : Row) (n : ℕ) → n ≤ length items → ((k : ℕ) → k < n → get_or items k d ≡ row_at c k) → take n items ≡ rows_in c n
unfolding rows_in
rows-front c items d zero h e = refl
rows-front c items d (suc n) h e =
    take-suc items n d h ∙ ap₂ (λ (l : List Row) (w : Row). l ++ (w ∷ [])) (rows-front c items d n (omega arith) (λ k l. e k (omega arith))) (e n (omega arith))

-- a list of n rows, each of which is the columns' row of its number
pub rows-each : (c : Columns) (items : List Row) (d : Row) (n : ℕ) → length items ≡ n → ((k : ℕ) → k < n → get_or items k d ≡ row_at c k) → items ≡ rows_in c n
rows-each c items d n size e =
    sym (take-length items) ∙ ap (λ (m : ℕ). take m items) size ∙ rows-front c items d n (omega (arith, size)) e

-- ---- looking for a goal, row after row
pub known-none : (goal : Row) (c : Columns) → known goal (rows_in c 0) ≡ false
unfolding rows_in known
known-none goal c = refl

pub known-here : (goal : Row) (c : Columns) (n i : ℕ) → i < n → same_goal (get_or c.places i 0) (get_or c.sets i 0) goal.place goal.set ≡ true → known goal (rows_in c n) ≡ true
known-here goal c n i h e = sym (known_some goal c n) ∙ some_below_lem (λ k. same_goal (get_or c.places k 0) (get_or c.sets k 0) goal.place goal.set) n i h e

pub known-further : (goal : Row) (c : Columns) (i : ℕ) → known goal (rows_in c i) ≡ false → same_goal (get_or c.places i 0) (get_or c.sets i 0) goal.place goal.set ≡ false
    → known goal (rows_in c (i + 1)) ≡ false
unfolding rows_in
known-further goal c i h e =
    ap (λ (n : ℕ). known goal (rows_in c n)) (add-one i) ∙ known-snoc goal (rows_in c i) (row_at c i) ∙ (or-none _ _).1 (h, e)

-- a row that is lent is in every column
pub in-all-lent : (lent : ℕ) (c : Columns) (i : ℕ) → i < lent_in lent c → in_all i c
in-all-lent lent c i h = (omega (arith, h), omega (arith, h), omega (arith, h), omega (arith, h))

-- ---- what holds of a view holds of its table
pub seen : (P : ℕ → Columns → Type 0) (t : Table) (v : View) → ViewIs t.lent (of_table t) v.lent (of_view v) → P v.lent (of_view v) → P t.lent (of_table t)
seen P t v e h = subst (P t.lent) e.1 (subst (λ (n : ℕ). P n (of_view v)) e.0 h)
