-- Each promise fixes what a call leaves: two results that meet the promise of a call on a table of one's own are equal.
use Rattle.std.proofs.Common.{Result, ◌≡◌, sym, ap, ◌∙◌, ℕ, List}
use Rattle.goals.specs.declared.Run.{Run}
use Rattle.goals.specs.declared.SideRefusal.{SideRefusal}
use Rattle.asking.specs.declared.Asked.{Asked}
use Rattle.columns.specs.Calls.{Columns, put}
use Rattle.demands.specs.Calls.{Lent, lent}
use Rattle.compare.specs.declared.Work.{Work}
use Rattle.compare.proofs.Unique.{call-one, trace-asked-one}
use Rattle.own_table.specs.Tables.{table_in, CallsTable, TracesTable}

-- the rows that the call leaves are one list, and with them the columns
pub call-table-one : (work : Work) (a : Asked) (n : ℕ) (c c' c'' : Columns) (held k k' : Run) (r r' : Result Unit SideRefusal)
    → CallsTable work a n c held r k c' → CallsTable work a n c held r' k' c'' → (r ≡ r') × (k ≡ k') × (c' ≡ c'')
call-table-one work a n c c' c'' held k k' r r' p q =
    let e = call-one work a (lent (table_in n c) held) (lent p.0 k) (lent q.0 k') r r' p.1 q.1 in
    (e.0, ap (λ (l : Lent). l.held) e.1, p.2 ∙ ap (λ (l : Lent). put l.rows c) e.1 ∙ sym q.2)

pub trace-table-one : (a : Asked) (n : ℕ) (c : Columns) (held : Run) (out o o' : List ℕ) (r r' : Result ℕ SideRefusal) → TracesTable a n c held out r o → TracesTable a n c held out r' o' → (r ≡ r') × (o ≡ o')
trace-table-one a n c held out o o' r r' p q = trace-asked-one a (lent (table_in n c) held) out o o' r r' p q
