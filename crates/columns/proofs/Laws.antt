-- Rows in columns, and entering goals one after another: what the loops over members and letters lean on.
use Prim.Native.Nat.{ℕ, zero, suc, ◌+◌, ◌≤◌, ◌<◌}
use mathlib.Core.Path.{◌≡◌, refl, sym, ap, ap₂, subst, ◌∙◌}
use mathlib.Core.Bool.{Bool, true, false, cond, ◌&&◌, ◌||◌, or_assoc, or-false}
use mathlib.Core.List.{List, [], ◌∷◌, ◌++◌, map, append_assoc, append-nil}
use mathlib.Core.Logic.{⊎_elim}
use native.Mathlib.Nat.{eq-or-lt_of_le}
use native.Mathlib.Omega.{arith}
use lib.Dec.{eqb}
use lib.ListN.{length, get_or, set, take, drop, length-append, length-map}
use lib.Seq.{take-suc, take-length, length-take-le}
use borrow.Author.Tests.{eq-eqb, ne_eqb, eqb-false}
use Rattle.effect.specs.Refusals.{some_below, front}
use Rattle.effect.proofs.Front.{length_front, front-next, front-front, front-taken}
use Rattle.goals.specs.declared.Row.{Row}
use Rattle.std.specs.Prelude.{Result, Ok, Err}
use Rattle.columns.specs.declared.NoRoom.{NoRoom}
use Rattle.goals.specs.Goals.{row, known, Entered, enter, enter_all}
use Rattle.columns.specs.Calls.{Columns, columns, row_at, rows_in, put}
use Rattle.columns.specs.Core.{Fits, entering, used_of, full_of, Enters}

-- ---- rows in columns
pub length-rows_in : (c : Columns) (n : ℕ) → length (rows_in c n) ≡ n
unfolding rows_in
length-rows_in c zero = refl
length-rows_in c (suc n) = simp length-append (ap (λ (k : ℕ). k + 1) (length-rows_in c n) ∙ omega arith)

pub map_snoc : (f : Row → ℕ) (ws : List Row) (w : Row) → map f (ws ++ (w ∷ [])) ≡ map f ws ++ (f w ∷ [])
map_snoc f [] w = refl
map_snoc f (v ∷ ws) w = ap (λ (l : List ℕ). f v ∷ l) (map_snoc f ws w)

-- a column of the first n rows is the column's first n numbers
column-taken : (f : Row → ℕ) (col : List ℕ) (c : Columns) → ((i : ℕ) → f (row_at c i) ≡ get_or col i 0) → (n : ℕ) → n ≤ length col → map f (rows_in c n) ≡ take n col
unfolding rows_in
column-taken f col c e zero h = refl
column-taken f col c e (suc n) h =
    map_snoc f (rows_in c n) (row_at c n) ∙ ap₂ (λ (l : List ℕ) (x : ℕ). l ++ (x ∷ [])) (column-taken f col c e n (omega arith)) (e n) ∙ sym (take-suc col n 0 h)

-- the four columns at once
pub columns-eq : {p p' s s' q q' l l' : List ℕ} → p ≡ p' → s ≡ s' → q ≡ q' → l ≡ l' → columns p s q l ≡ columns p' s' q' l'
columns-eq a b c d = λ i. columns (a i) (b i) (c i) (d i)

module _ (c : Columns) (n room : ℕ) (f : Fits c n room) where
  place-taken : map (λ (w : Row). w.place) (rows_in c n) ≡ take n c.places
  place-taken = column-taken _ c.places c (λ i. refl) n (omega (arith, f.used, f.places))

  set-taken : map (λ (w : Row). w.set) (rows_in c n) ≡ take n c.sets
  set-taken = column-taken _ c.sets c (λ i. refl) n (omega (arith, f.used, f.sets))

  parent-taken : map (λ (w : Row). w.parent) (rows_in c n) ≡ take n c.parents
  parent-taken = column-taken _ c.parents c (λ i. refl) n (omega (arith, f.used, f.parents))

  letter-taken : map (λ (w : Row). w.letter) (rows_in c n) ≡ take n c.letters
  letter-taken = column-taken _ c.letters c (λ i. refl) n (omega (arith, f.used, f.letters))

  -- the rows that stand there change nothing
  pub put_same : c ≡ put (rows_in c n) c
  put_same =
      let same : (xs d : List ℕ) → xs ≡ take n d → n ≤ length d → d ≡ front xs d = λ xs d e h. sym (ap (λ (l : List ℕ). front l d) e ∙ front-taken n d h) in
      columns-eq
      (same _ _ place-taken (omega (arith, f.used, f.places)))
      (same _ _ set-taken (omega (arith, f.used, f.sets)))
      (same _ _ parent-taken (omega (arith, f.used, f.parents)))
      (same _ _ letter-taken (omega (arith, f.used, f.letters)))

  -- a row more at the end
  pub put_next : (w : Row) → n < room
      → columns (set c.places n w.place) (set c.sets n w.set) (set c.parents n w.parent) (set c.letters n w.letter) ≡ put (rows_in c n ++ (w ∷ [])) c
  put_next w l =
      columns-eq
      (next (λ (w : Row). w.place) c.places place-taken (omega (arith, f.places)))
      (next (λ (w : Row). w.set) c.sets set-taken (omega (arith, f.sets)))
      (next (λ (w : Row). w.parent) c.parents parent-taken (omega (arith, f.parents)))
      (next (λ (w : Row). w.letter) c.letters letter-taken (omega (arith, f.letters)))
    where
      next : (g : Row → ℕ) (d : List ℕ) → map g (rows_in c n) ≡ take n d → n < length d → set d n (g w) ≡ front (map g (rows_in c n ++ (w ∷ []))) d
      next g d e h =
          let size : length (take n d) ≡ n = length-take-le n d (omega arith) in
          ap₂ (λ (l : List ℕ) (k : ℕ). set l k (g w)) (sym (front-taken n d (omega arith))) (sym size)
          ∙ front-next (take n d) d _ (g w) refl (omega (arith, size))
          ∙ ap (λ (l : List ℕ). front l d) (sym (map_snoc g (rows_in c n) w ∙ ap (λ (l : List ℕ). l ++ (g w ∷ [])) e))

-- what was put over stays under what is put now
pub put-put : (rows rows' : List Row) (c : Columns) → length rows ≤ length rows' → put rows' (put rows c) ≡ put rows' c
put-put rows rows' c h = columns-eq (one (λ (w : Row). w.place) c.places) (one (λ (w : Row). w.set) c.sets) (one (λ (w : Row). w.parent) c.parents) (one (λ (w : Row). w.letter) c.letters)
  where
    one : (g : Row → ℕ) (d : List ℕ) → front (map g rows') (front (map g rows) d) ≡ front (map g rows') d
    one g d = front-front (map g rows) (map g rows') d (rw (length-map rows g, length-map rows' g) h)

get_or_map : (g : Row → ℕ) (ws : List Row) (d : List ℕ) (i : ℕ) → i < length ws → (w : Row) → get_or (map g ws ++ d) i 0 ≡ g (get_or ws i w)
get_or_map g [] d i h w = absurd (omega arith)
get_or_map g (v ∷ ws) d zero h w = refl
get_or_map g (v ∷ ws) d (suc i) h w = get_or_map g ws d i (omega arith) w

-- the rows put are the rows there
pub rows-put : (rows : List Row) (c : Columns) (n : ℕ) → n ≤ length rows → rows_in (put rows c) n ≡ take n rows
unfolding rows_in
rows-put rows c zero h = refl
rows-put rows c (suc n) h =
    ap₂ (λ (l : List Row) (w : Row). l ++ (w ∷ [])) (rows-put rows c n (omega arith)) here ∙ sym (take-suc rows n (row 0 0 0 0) h)
  where
    here : row_at (put rows c) n ≡ get_or rows n (row 0 0 0 0)
    here = λ i. row
        (get_or_map (λ (w : Row). w.place) rows (drop (length (map (λ (w : Row). w.place) rows)) c.places) n h (row 0 0 0 0) i)
        (get_or_map (λ (w : Row). w.set) rows (drop (length (map (λ (w : Row). w.set) rows)) c.sets) n h (row 0 0 0 0) i)
        (get_or_map (λ (w : Row). w.parent) rows (drop (length (map (λ (w : Row). w.parent) rows)) c.parents) n h (row 0 0 0 0) i)
        (get_or_map (λ (w : Row). w.letter) rows (drop (length (map (λ (w : Row). w.letter) rows)) c.letters) n h (row 0 0 0 0) i)

-- ---- the lengths: columns that are lent are left as long as they were
pub record AsLong (before after : Columns) : Type 0 where
  pub places : length after.places ≡ length before.places
  pub sets : length after.sets ≡ length before.sets
  pub parents : length after.parents ≡ length before.parents
  pub letters : length after.letters ≡ length before.letters

pub as_long : (c : Columns) → AsLong c c
as_long c = record { places = refl; sets = refl; parents = refl; letters = refl }

-- still so after a call that says of each column that it kept its length
pub as-long-then : (c c' c'' : Columns) → AsLong c c'
    → length c''.places ≡ length c'.places → length c''.sets ≡ length c'.sets
    → length c''.parents ≡ length c'.parents → length c''.letters ≡ length c'.letters → AsLong c c''
as-long-then c c' c'' h p s q l =
    record { places = p ∙ h.places; sets = s ∙ h.sets; parents = q ∙ h.parents; letters = l ∙ h.letters }

-- ---- entering
pub known-snoc : (c : Row) (ws : List Row) (w : Row) → known c (ws ++ (w ∷ [])) ≡ (known c ws || (eqb w.place c.place && eqb w.set c.set))
unfolding known
known-snoc c [] w = or-false (eqb w.place c.place && eqb w.set c.set)
known-snoc c (v ∷ ws) w =
    let here = eqb v.place c.place && eqb v.set c.set in
    ap (λ (b : Bool). here || b) (known-snoc c ws w) ∙ sym (or_assoc here (known c ws) _)

pub known_some : (c : Row) (cols : Columns) (n : ℕ) → some_below n (λ i. eqb (get_or cols.places i 0) c.place && eqb (get_or cols.sets i 0) c.set) ≡ known c (rows_in cols n)
unfolding some_below rows_in known
known_some c cols zero = refl
known_some c cols (suc n) =
    ap (λ (b : Bool). b || (eqb (get_or cols.places n 0) c.place && eqb (get_or cols.sets n 0) c.set)) (known_some c cols n) ∙ sym (known-snoc c (rows_in cols n) (row_at cols n))

pub enter-append : (room : ℕ) (xs ys : List Row) (e : Entered) → enter_all room (xs ++ ys) e ≡ enter_all room ys (enter_all room xs e)
unfolding enter_all
enter-append room [] ys e = refl
enter-append room (x ∷ xs) ys e = enter-append room xs ys (enter room x e)

-- once full, nothing is entered
enter-stop : (room : ℕ) (x : Row) (e : Entered) → e.full ≡ true → enter room x e ≡ e
unfolding enter
enter-stop room x e h =
    ap (λ (b : Bool). cond (b || known x e.rows) e (cond (eqb (length e.rows) room) (record { rows = e.rows; full = true }) (record { rows = e.rows ++ (x ∷ []); full = false }))) h

pub enter-full : (room : ℕ) (xs : List Row) (e : Entered) → e.full ≡ true → enter_all room xs e ≡ e
unfolding enter_all
enter-full room [] e h = refl
enter-full room (x ∷ xs) e h = ap (enter_all room xs) (enter-stop room x e h) ∙ enter-full room xs e h

-- rows are only added, and no more than the room
pub record Grows (cap : ℕ) (e e' : Entered) : Type 0 where
  pub more : length e.rows ≤ length e'.rows
  pub within : length e.rows ≤ cap → length e'.rows ≤ cap

enter-grows : (room : ℕ) (x : Row) (e : Entered) → Grows room e (enter room x e)
unfolding enter
enter-grows room x e = go (e.full || known x e.rows) (eqb (length e.rows) room) refl
  where
    go : (b d : Bool) → eqb (length e.rows) room ≡ d → Grows room e (cond b e (cond d (record { rows = e.rows; full = true }) (record { rows = e.rows ++ (x ∷ []); full = false })))
    go true d q = record { more = omega arith; within = λ h. h }
    go false true q = record { more = omega arith; within = λ h. h }
    go false false q = record {
      more = rw (length-append e.rows (x ∷ [])) (omega arith);
      within = λ h. rw (length-append e.rows (x ∷ [])) (let z : length e.rows ≡ room → ⊥ = eqb-false (length e.rows) room q in below (length e.rows) room h z);
    }
      where
        below : (a b : ℕ) → a ≤ b → (a ≡ b → ⊥) → a + 1 ≤ b
        below a b h z = ⊎_elim (λ (e : a ≡ b). absurd (z e)) (λ (l : a < b). omega arith) (eq-or-lt_of_le h)

pub all-grows : (room : ℕ) (xs : List Row) (e : Entered) → Grows room e (enter_all room xs e)
unfolding enter_all
all-grows room [] e = record { more = omega arith; within = λ h. h }
all-grows room (x ∷ xs) e =
    let a = enter-grows room x e in
    let b = all-grows room xs (enter room x e) in
    record { more = omega (arith, a.more, b.more); within = λ h. b.within (a.within h) }

-- columns keep their room under rows that fit it
pub fits-put : (c : Columns) (n room : ℕ) → Fits c n room → (rows : List Row) → length rows ≤ room → Fits (put rows c) (length rows) room
fits-put c n room f rows h =
    record {
      used = h;
      small = f.small;
      places = wide (λ (w : Row). w.place) c.places f.places;
      sets = wide (λ (w : Row). w.set) c.sets f.sets;
      parents = wide (λ (w : Row). w.parent) c.parents f.parents;
      letters = wide (λ (w : Row). w.letter) c.letters f.letters;
    }
  where
    wide : (g : Row → ℕ) (d : List ℕ) → room ≤ length d → room ≤ length (front (map g rows) d)
    wide g d l = rw (length_front (map g rows) d (rw (length-map rows g) (omega arith))) l

-- ---- one part after another
module _ (c c' c'' : Columns) (room used : ℕ) (xs ys : List Row) (r r' : Result ℕ NoRoom) (f : Fits c used room) where
  abbrev first : Entered
  first = enter_all room xs (entering (rows_in c used))

  -- the rows entered so far are the rows that stand in the columns
  rows-first : Enters c c' first r → rows_in c' (used_of r) ≡ first.rows
  rows-first e =
      ap₂ rows_in e.columns e.used ∙ rows-put first.rows c (length first.rows) (omega arith) ∙ take-length first.rows

  fits-first : Enters c c' first r → Fits c' (used_of r) room
  fits-first e =
      let g = all-grows room xs (entering (rows_in c used)) in
      rw (e.columns, e.used) (fits-put c used room f first.rows (g.within (rw (length-rows_in c used) f.used)))

  enters-then : Enters c c' first r → full_of r ≡ false → Enters c' c'' (enter_all room ys (entering (rows_in c' (used_of r)))) r'
      → Enters c c'' (enter_all room (xs ++ ys) (entering (rows_in c used))) r'
  enters-then e h g =
      record {
        columns =
            g.columns ∙ ap₂ (λ (s : Entered) (k : Columns). put s.rows k) same e.columns
            ∙ put-put first.rows whole.rows c (rw (enter-append room xs ys (entering (rows_in c used))) (all-grows room ys first).more);
        used = g.used ∙ ap (λ (s : Entered). length s.rows) same;
        full = g.full ∙ ap (λ (s : Entered). s.full) same;
      }
    where
      whole : Entered
      whole = enter_all room (xs ++ ys) (entering (rows_in c used))

      start : entering (rows_in c' (used_of r)) ≡ first
      start = λ i. record { rows = rows-first e i; full = (sym h ∙ e.full) i }

      same : enter_all room ys (entering (rows_in c' (used_of r))) ≡ whole
      same = ap (enter_all room ys) start ∙ sym (enter-append room xs ys (entering (rows_in c used)))

  enters-stop : Enters c c' first r → full_of r ≡ true → Enters c c' (enter_all room (xs ++ ys) (entering (rows_in c used))) r
  enters-stop e h =
      rw (enter-append room xs ys (entering (rows_in c used)), enter-full room ys first (sym e.full ∙ h)) e

-- ---- one goal
abbrev pub entered : ℕ → Bool → Result ℕ NoRoom
entered used full = cond full (Err (record { used = used })) (Ok used)

module _ (c : Columns) (n room : ℕ) (f : Fits c n room) (goal : Row) where
  enter-is : (b d : Bool) → known goal (rows_in c n) ≡ b → eqb n room ≡ d
      → cond b (entering (rows_in c n)) (cond d (record { rows = rows_in c n; full = true }) (record { rows = rows_in c n ++ (goal ∷ []); full = false }))
      ≡ enter room goal (entering (rows_in c n))
  unfolding enter
  enter-is b d p q =
      ap₂ (λ (x y : Bool). cond x (entering (rows_in c n)) (cond y (record { rows = rows_in c n; full = true }) (record { rows = rows_in c n ++ (goal ∷ []); full = false })))
      (sym p) (sym (ap (λ (k : ℕ). eqb k room) (length-rows_in c n) ∙ q))

  -- the columns stay, and the rows with them
  kept : (full : Bool) → Enters c c (record { rows = rows_in c n; full = full }) (entered n full)
  kept true = record { columns = put_same c n room f; used = sym (length-rows_in c n); full = refl }
  kept false = record { columns = put_same c n room f; used = sym (length-rows_in c n); full = refl }

  pub enters_none : Enters c c (entering (rows_in c n)) (entered n false)
  enters_none = kept false

  pub enters-known : known goal (rows_in c n) ≡ true → Enters c c (enter room goal (entering (rows_in c n))) (entered n false)
  enters-known h = subst (λ (e : Entered). Enters c c e (entered n false)) (enter-is true _ h refl) (kept false)

  pub enters-full : known goal (rows_in c n) ≡ false → n ≡ room → Enters c c (enter room goal (entering (rows_in c n))) (entered n true)
  enters-full h q = subst (λ (e : Entered). Enters c c e (entered n true)) (enter-is false true h (eq-eqb n room q)) (kept true)

  pub enters-next : known goal (rows_in c n) ≡ false → (n ≡ room → ⊥)
      → Enters c (columns (set c.places n goal.place) (set c.sets n goal.set) (set c.parents n goal.parent) (set c.letters n goal.letter))
      (enter room goal (entering (rows_in c n))) (entered (n + 1) false)
  enters-next h q = subst (λ (e : Entered). Enters c (columns (set c.places n goal.place) (set c.sets n goal.set) (set c.parents n goal.parent) (set c.letters n goal.letter)) e (entered (n + 1) false)) (enter-is false false h (ne_eqb n room q))
      (record {
        columns = put_next c n room f goal (⊎_elim (λ (e : n ≡ room). absurd (q e)) (λ l. l) (eq-or-lt_of_le f.used));
        used = sym (length-append (rows_in c n) (goal ∷ []) ∙ ap (λ (k : ℕ). k + 1) (length-rows_in c n));
        full = refl;
      })

-- ---- goals entered one after the other: those done stand in the columns, and the others are to come
pub record Standing (lent : Columns) (used room : ℕ) (all : List Row) (c : Columns) (u : ℕ) (todo : List Row) : Type 0 where
  pub done : List Row
  pub whole : done ++ todo ≡ all
  pub enters : Enters lent c (enter_all room done (entering (rows_in lent used))) (entered u false)

pub stand-start : (lent : Columns) (used room : ℕ) (all : List Row) → Fits lent used room → Standing lent used room all lent used all
unfolding enter_all
stand-start lent used room all f = record { done = []; whole = refl; enters = enters_none lent used room f (row 0 0 0 0) }

module _ (lent : Columns) (used room : ℕ) (all : List Row) (f : Fits lent used room) (c : Columns) (u : ℕ) where
  pub stand-fits : (todo : List Row) → Standing lent used room all c u todo → Fits c u room
  stand-fits todo s = fits-first lent c c room used s.done [] (entered u false) (entered u false) f s.enters

  pub stand-done : (todo : List Row) → Standing lent used room all c u todo → todo ≡ [] → Enters lent c (enter_all room all (entering (rows_in lent used))) (entered u false)
  stand-done todo s e =
      subst (λ (l : List Row). Enters lent c (enter_all room l (entering (rows_in lent used))) (entered u false))
      (sym (append-nil s.done) ∙ ap (λ (t : List Row). s.done ++ t) (sym e) ∙ s.whole) s.enters

  module _ (todo : List Row) (s : Standing lent used room all c u todo) (goal : Row) (next : List Row) (e : todo ≡ goal ∷ next)
      (c' : Columns) (r : Result ℕ NoRoom) (g : Enters c c' (enter room goal (entering (rows_in c u))) r) where
    whole-next : (s.done ++ (goal ∷ [])) ++ next ≡ all
    whole-next = append_assoc s.done (goal ∷ []) next ∙ ap (λ (t : List Row). s.done ++ t) (sym e) ∙ s.whole

    more : Enters lent c' (enter_all room (s.done ++ (goal ∷ [])) (entering (rows_in lent used))) r
    unfolding enter_all
    more = enters-then lent c c' room used s.done (goal ∷ []) (entered u false) r f s.enters refl g

    pub stand-next : full_of r ≡ false → Standing lent used room all c' (used_of r) next
    stand-next h = record { done = s.done ++ (goal ∷ []); whole = whole-next; enters = record { columns = more.columns; used = more.used; full = sym h ∙ more.full } }

    pub stand-stop : full_of r ≡ true → Enters lent c' (enter_all room all (entering (rows_in lent used))) r
    stand-stop h =
        subst (λ (l : List Row). Enters lent c' (enter_all room l (entering (rows_in lent used))) r) whole-next
        (enters-stop lent c' c' room used (s.done ++ (goal ∷ [])) next r r f more h)
