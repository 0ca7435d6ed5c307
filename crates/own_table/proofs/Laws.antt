-- The rows that a table of one's own is given, and those that the columns take back.
use Rattle.std.proofs.Common.{Result, ◌≡◌, sym, ap, subst, ◌∙◌, ℕ, ◌+◌, ◌<◌, min, List, [], ◌∷◌, ◌++◌, map, length, get_or, set, take, arith}
use native.Mathlib.Numerals.{add-one}
use lib.ListN.{replicate, length-replicate}
use lib.Seq.{take-length, take-append_seam, take-suc-set}
use Rattle.std.proofs.lemmas.List.{take-append-le, take_min}
use Rattle.goals.specs.declared.Row.{Row}
use Rattle.goals.specs.declared.Run.{Run}
use Rattle.goals.specs.declared.SideRefusal.{SideRefusal}
use Rattle.goals.specs.Goals.{row}
use Rattle.asking.specs.declared.Asked.{Asked}
use Rattle.columns.specs.Calls.{Columns, row_at, rows_in, lent_in, put, tracing}
use Rattle.columns.specs.Tables.{GivesRows, TakesRows}
use Rattle.columns.proofs.Laws.{length-rows_in}
use Rattle.columns.proofs.Rows.{column-next}
use Rattle.effect.specs.Refusals.{front}
use Rattle.demands.specs.Calls.{lent}
use Rattle.compare.specs.declared.Work.{Work}
use Rattle.compare.specs.Calls.{answered, Works, TracesAsked}
use Rattle.own_table.specs.Tables.{table_in, CallsTable, TracesTable}

-- a table of one's own before any row is written
abbrev pub no_rows : List Row
no_rows = replicate 65536 (row 0 0 0 0)

pub no-rows-long : length no_rows ≡ 65536
no-rows-long = length-replicate {A = Row} 65536 (row 0 0 0 0)

module _ (lent : ℕ) (c : Columns) (n : ℕ) (e : n ≡ min (lent_in lent c) 65536) where
  pub given : (rows rows' : List Row) → length rows ≡ 65536 → GivesRows n lent c rows rows' → take n rows' ≡ table_in lent c
  given rows rows' size g =
      let all : min n (min (lent_in lent c) (length rows)) ≡ n = omega (arith, e, size) in
      let most : n ≡ min 65536 (lent_in lent c) = omega (arith, e) in
      let long = length-rows_in c n in
      ap (take n) (g ∙ ap (λ (k : ℕ). front (rows_in c k) rows) all)
      ∙ take-append-le n (rows_in c n) _ (omega (arith, long))
      ∙ ap (λ (k : ℕ). take k (rows_in c n)) (sym long)
      ∙ take-length (rows_in c n)
      ∙ ap (rows_in c) most

  pub taken : (rows rest : List Row) (c' : Columns) → length rows ≡ n → TakesRows lent c (take n (rows ++ rest)) c' → c' ≡ put rows c
  taken rows rest c' size h =
      let whole : take n (rows ++ rest) ≡ rows = ap (λ (k : ℕ). take k (rows ++ rest)) (sym size) ∙ take-append_seam rows rest in
      let few : min (lent_in lent c) (length rows) ≡ length rows = omega (arith, e, size) in
      h
      ∙ ap (λ (l : List Row). put (take (lent_in lent c) l) c) whole
      ∙ ap (λ (l : List Row). put l c) (sym (take_min (lent_in lent c) rows) ∙ ap (λ (k : ℕ). take k rows) few ∙ take-length rows)

-- ---- one row after another: what such a table is given, and what the columns take back
pub taken_next : (c : Columns) (i : ℕ) (rows : List Row) → i < length rows → take i rows ≡ rows_in c i → take (i + 1) (set rows i (row_at c i)) ≡ rows_in c (i + 1)
unfolding rows_in
taken_next c i rows h e = rw add-one (take-suc-set rows i (row_at c i) h ∙ ap (λ (l : List Row). l ++ (row_at c i ∷ [])) e)

-- a column under the first i rows, as f reads them, and under one more
pub put_next : (f : Row → ℕ) (i : ℕ) (rows : List Row) (old now : List ℕ) (none : Row) → i < length rows → i < length old → now ≡ front (map f (take i rows)) old
    → set now i (f (get_or rows i none)) ≡ front (map f (take (i + 1) rows)) old
put_next f i rows old now none h k e =
    rw add-one
    (ap (λ (l : List ℕ). set l i (f (get_or rows i none))) e ∙ column-next f i rows old none h k)

-- where the counter has come to n
pub put_all : (i n : ℕ) (rows : List Row) (c now : Columns) → i ≡ n → now ≡ put (take i rows) c → now ≡ put (take n rows) c
put_all i n rows c now h e = subst (λ (k : ℕ). now ≡ put (take k rows) c) h e

-- ---- the calls on the table that was made of the columns, and what is taken back
module _ (a : Asked) (m n : ℕ) (c : Columns) (held : Run) (table : List Row) (e : n ≡ min 65536 (lent_in m c)) (made : take n table ≡ rows_in c n) where
  pub table_is : take n table ≡ table_in m c
  table_is = made ∙ ap (rows_in c) e

  pub calls_table : (work : Work) (rows' : List Row) (run : Run) (r : Result Unit SideRefusal) (c' : Columns)
      → Works work a (lent (take n table) held) (answered r) (lent (take n rows') run) → c' ≡ put (take n rows') c → CallsTable work a m c held r run c'
  calls_table work rows' run r c' called left =
      (take n rows', subst (λ (rows : List Row). Works work a (lent rows held) (answered r) (lent (take n rows') run)) table_is called, left)

  pub traces-table : (out : List ℕ) (r : Result ℕ SideRefusal) (out' : List ℕ) → TracesAsked a (lent (take n table) held) out (tracing r) out' → TracesTable a m c held out r out'
  traces-table out r out' told = subst (λ (rows : List Row). TracesAsked a (lent rows held) out (tracing r) out') table_is told
