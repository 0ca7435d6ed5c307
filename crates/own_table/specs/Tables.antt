-- The calls on a table of one's own, which is made of columns: what each answers and leaves.
use Rattle.std.specs.Prelude.{ℕ, min, ◌≡◌, Result, List}
use Rattle.goals.specs.declared.Row.{Row}
use Rattle.goals.specs.declared.Run.{Run}
use Rattle.goals.specs.declared.SideRefusal.{SideRefusal}
use Rattle.asking.specs.declared.Asked.{Asked}
use Rattle.columns.specs.Calls.{Columns, lent_in, rows_in, put, tracing}
use Rattle.demands.specs.Calls.{lent}
use Rattle.compare.specs.declared.Work.{Work}
use Rattle.compare.specs.Calls.{answered, Works, TracesAsked}

-- the table: the rows lent in the columns, and no more than 65,536
abbrev pub table_in : ℕ → Columns → List Row
table_in n c = rows_in c (min 65536 (lent_in n c))

-- the promise of `call_table`: it answers and leaves of the record what the call on the table's rows and the record does, and the rows that
-- it leaves are at the front of the columns, "the other rows stay"
abbrev pub CallsTable : Work → Asked → ℕ → Columns → Run → Result Unit SideRefusal → Run → Columns → Type 0
CallsTable work a n c held r held' c' =
    (rows' : List Row) × Works work a (lent (table_in n c) held) (answered r) (lent rows' held') × (c' ≡ put rows' c)

-- the promise of `trace_table`: what the call on the table's rows and the record answers, and leaves of the buffer
abbrev pub TracesTable : Asked → ℕ → Columns → Run → List ℕ → Result ℕ SideRefusal → List ℕ → Type 0
TracesTable a n c held out r out' = TracesAsked a (lent (table_in n c) held) out (tracing r) out'
