-- `columns::is_impossible`. The record decides first, then row 0, then the other rows.
use mathlib.Core.Path.{◌≡◌, sym, ap, ◌∙◌}
use mathlib.Core.Bool.{false}
use native.Mathlib.Nat.{le_trans}
use native.Mathlib.Omega.{arith}
use Rattle.columns.specs.Calls.{row_at}
use Rattle.columns.specs.Tables.{of_view}
use Rattle.goals.specs.Refusals.{record_impossible, row_zero_impossible}
use Rattle.columns.proofs.Possible.{record-counts, impossible-record, impossible-zero, impossible-rest}
use Rattle.columns.proofs.is_impossible.Goals as goal
use Rattle.columns.proofs.is_impossible.Goals.{After-row_zero_impossible, Else-record_impossible}

-- past the first branch the record is possible
possible : (c : Else-record_impossible) → record_impossible c.args.room c.args.held ≡ false
possible c = sym c.record_impossible.ensures ∙ c.if-record_impossible.false

-- row 0 as it was asked after is row 0 of the columns
asked : (c : After-row_zero_impossible) → let a = c.args in row_zero_impossible (row_at (of_view a.view.now) 0) ≡ c.row_zero_impossible.result
asked c = ap row_zero_impossible (sym c.row.ensures) ∙ sym c.row_zero_impossible.ensures

pub returns-then-record_impossible : goal.returns-then-record_impossible
returns-then-record_impossible c =
    let a = c.args in
    impossible-record a.s a.m a.k a.room (of_view a.view.now) a.held (sym c.record_impossible.ensures ∙ c.if-record_impossible.true)

pub row-requires : goal.row-requires
row-requires c =
    let k = record-counts c.args.room c.args.held (possible c) in (
      omega (arith, k.some, k.within, c.requires.places),
      omega (arith, k.some, k.within, c.requires.sets),
      omega (arith, k.some, k.within, c.requires.parents),
      omega (arith, k.some, k.within, c.requires.letters),
    )

pub returns-then-row_zero_impossible : goal.returns-then-row_zero_impossible
returns-then-row_zero_impossible c =
    let a = c.args in
    let p = goal.at.returns-then-row_zero_impossible c in
    impossible-zero a.s a.m a.k a.room (of_view a.view.now) a.held (possible p.Else-record_impossible) (asked p.After-row_zero_impossible ∙ c.if-row_zero_impossible.true)

pub some_row_impossible-requires : goal.some_row_impossible-requires
some_row_impossible-requires c =
    let k = record-counts c.args.room c.args.held (possible (goal.at.some_row_impossible-requires c).Else-record_impossible) in
    let f = c.requires in
    record {
      used = k.some;
      small = le_trans k.within f.small;
      places = le_trans k.within f.places;
      sets = le_trans k.within f.sets;
      parents = le_trans k.within f.parents;
      letters = le_trans k.within f.letters;
    }

pub returns : goal.returns
returns c =
    let a = c.args in
    let p = goal.at.returns c in
    c.some_row_impossible.ensures
    ∙ impossible-rest a.s a.m a.k a.room (of_view a.view.now) a.held (possible p.Else-record_impossible) (asked p.After-row_zero_impossible ∙ c.if-row_zero_impossible.false)
