-- A table and a view as columns of numbers, and what the functions on them leave.
use Rattle.std.specs.Prelude.{ℕ, min, ◌≡◌, ◌<◌, List, length, set, take}
use Rattle.effect.specs.Refusals.{front}
use Rattle.goals.specs.declared.Row.{Row}
use Rattle.columns.specs.declared.Table.{Table}
use Rattle.columns.specs.declared.View.{View}
use Rattle.columns.specs.Calls.{Columns, columns, rows_in, put, lent_in}

abbrev pub of_table : Table → Columns
of_table t = columns t.places.now t.sets.now t.parents.now t.letters.now

abbrev pub of_view : View → Columns
of_view v = columns v.places.now v.sets.now v.parents.now v.letters.now

-- a table holds what it was lent: the same four slices, as long as they were, and as many rows
abbrev pub Same : Table → Table → Type 0
Same t t' =
    (t'.lent ≡ t.lent)
    × (t'.places.ghost_name ≡ t.places.ghost_name)
    × (t'.sets.ghost_name ≡ t.sets.ghost_name)
    × (t'.parents.ghost_name ≡ t.parents.ghost_name)
    × (t'.letters.ghost_name ≡ t.letters.ghost_name)
    × (length t'.places.now ≡ length t.places.now)
    × (length t'.sets.now ≡ length t.sets.now)
    × (length t'.parents.now ≡ length t.parents.now)
    × (length t'.letters.now ≡ length t.letters.now)

-- the promise of `Table::view`: as many rows lent, in the same columns
abbrev pub ViewIs : ℕ → Columns → ℕ → Columns → Type 0
ViewIs lent c lent' c' = (lent' ≡ lent) × (c' ≡ c)

-- the promise of `View::rows`
abbrev pub RowsIs : ℕ → Columns → ℕ → Type 0
RowsIs lent c r = r ≡ lent_in lent c

-- every column has row i
abbrev pub in_all : ℕ → Columns → Type 0
in_all i c = (i < length c.places) × (i < length c.sets) × (i < length c.parents) × (i < length c.letters)

-- row i written
abbrev pub with_row : Columns → ℕ → Row → Columns
with_row c i w = columns (set c.places i w.place) (set c.sets i w.set) (set c.parents i w.parent) (set c.letters i w.letter)

-- the promise of `Table::take_rows`: the rows at the front, as many as there are and the table has
abbrev pub TakesRows : ℕ → Columns → List Row → Columns → Type 0
TakesRows lent c rows c' = c' ≡ put (take (lent_in lent c) rows) c

-- the promise of `View::give_rows`: the first n rows at the front of the list, and no more than are lent or it has
abbrev pub GivesRows : ℕ → ℕ → Columns → List Row → List Row → Type 0
GivesRows n lent c rows rows' = rows' ≡ front (rows_in c (min n (min (lent_in lent c) (length rows)))) rows
