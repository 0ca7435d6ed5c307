-- Demand 1: each call refuses by document 01's table, row after row, and a refusal changes nothing that was lent. The nested
-- definitions of the refusals (of a node, of a table, of a side, of a call) give what the flat lists of rows say in order.
use Prim.Native.Nat.{ℕ, zero, suc}
use mathlib.Core.Path.{◌≡◌, refl, sym, ap, subst, ◌∙◌}
use mathlib.Core.Logic.{inl, inr, ◌≢◌}
use mathlib.Core.Bool.{Bool, cond, not, ◌||◌, true≢false}
use mathlib.Core.List.{List, [], ◌∷◌, map}
use lib.Dec.{eqb, ltb, leb}
use lib.ListN.{length}
use borrow.Author.Tests.{ne_eqb}
use Rattle.std.specs.Prelude.{Option, Some, None}
use Rattle.effect.specs.declared.Node.{Node}
use Rattle.effect.specs.Node.{decodings, entry, node_of, nodes_of}
use Rattle.effect.specs.Refusals.{rule, lowest, lowest_node, some_child, claimed, names_beyond, twins, node_refusal, refusal_at, table_refusal, side_refusal, Answer, front}
use Rattle.sheet.specs.Sheet.{signals_in, nodes_in, sheet_of, header_refusal, read_refusal, write_refusal, Left, exit, left, reading, read_of, Reads, writing, write_of, Writes}
use Rattle.effect.proofs.Laws.{at_entry}
use Rattle.goals.specs.declared.Row.{Row}
use Rattle.goals.specs.declared.Run.{Run}
use Rattle.goals.specs.Run.{trace_of}
use Rattle.goals.specs.Refusals.{Given, Against, against, first, refusal_of, impossible_for, start_refusal, run_refusal, trace_refusal, Reply, Leaves, exit as exits, leaves}
use Rattle.demands.specs.Calls.{used_in, Starts, Runs, Traces, Refused}
use Rattle.demands.specs.Ordered.{Rule, when, Decides, no_node, of_node, of_nodes, of_table, of_side, of_call, of_reader, of_writer, of_start, of_run, of_trace}
use Rattle.demands.specs.Demands.{ReadRefuses, WriteRefuses, StartRefuses, RunRefuses, TraceRefuses}
use Rattle.demands.proofs.Accepting.{refused-leaves}
use Rattle.demands.proofs.InOrder.{answer, Says, gives_none, gives-end, gives-first, gives-number, gives-lowest, gives-last, gives_row, gives-against, gives_nothing, first-decides, number-decides}

-- rows in order have one answer
pub decides-one : (rules : List Rule) (a b : Against) → Decides rules a → Decides rules b → a ≡ b
decides-one [] a b p q = p ∙ sym q
decides-one (r ∷ rest) a b (inl p) (inl q) = p.1 ∙ sym q.1
decides-one (r ∷ rest) a b (inl p) (inr q) = absurd (true≢false (sym p.0 ∙ q.0))
decides-one (r ∷ rest) a b (inr p) (inl q) = absurd (true≢false (sym q.0 ∙ p.0))
decides-one (r ∷ rest) a b (inr p) (inr q) = decides-one rest a b p.1 q.1

-- ---- one node, the nodes, a table, a side
-- 8 to 10 of node i, which is n
abbrev named : ℕ → ℕ → ℕ → (ℕ → Bool) → Node → List Rule
named side s i taken n = when side 8 (names_beyond s n) ∷ when side 9 (some_child (leb i) n) ∷ when side 10 (some_child taken n || twins n) ∷ []

-- 7 stands before them: where an entry is no node, they are not asked
decoded-gives : (side s i : ℕ) (taken : ℕ → Bool) (d : Option Node) → Says (when side 7 (no_node d) ∷ named side s i taken (node_of d)) (against side (node_refusal s i taken d))
unfolding node_refusal no_node answer
decoded-gives side s i taken None = record { before = λ rest. refl }
decoded-gives side s i taken (Some n) = record { before = λ rest. rows.before rest }
  where
    rows : Says (named side s i taken n) (against side (lowest (rule 8 (names_beyond s n) ∷ rule 9 (some_child (leb i) n) ∷ rule 10 (some_child taken n || twins n) ∷ [])))
    rows = gives_row 7 _ _ (gives_row 8 _ _ (gives_row 9 _ _ gives-end))

node-gives : (side s : ℕ) (ds : List (Option Node)) (i : ℕ) → Says (of_node side s ds i) (against side (refusal_at s ds i))
unfolding refusal_at
node-gives side s ds i = rw (at_entry ds i) (decoded-gives side s i (claimed (nodes_of ds) i) (entry ds i))

nodes-give : (side s : ℕ) (ds : List (Option Node)) (n : ℕ) → Says (of_nodes side s ds n) (against side (lowest_node (refusal_at s ds) n))
unfolding of_nodes lowest_node
nodes-give side s ds zero = gives_none
nodes-give side s ds (suc n) = gives-number (nodes-give side s ds n) (node-gives side s ds n)

table-gives : (side s : ℕ) (ds : List (Option Node)) → Says (of_table side s ds) (against side (table_refusal s ds))
unfolding table_refusal
table-gives side s ds = gives-lowest _ (nodes-give side s ds (length ds)) (gives_row 10 _ _ (gives_row 11 _ _ gives-end))

side-gives : (side s : ℕ) (ds : List (Option Node)) → Says (of_side side s ds) (against side (side_refusal s ds))
unfolding side_refusal
side-gives side s ds = gives_row 1 _ _ (gives_row 2 _ _ (gives-last (table-gives side s ds)))

-- ---- reader and writer
reader-gives : (sheet : List ℕ) (lent : ℕ) → Says (of_reader sheet lent) (against 0 (read_refusal sheet lent))
unfolding read_refusal header_refusal
reader-gives sheet lent =
    gives-lowest _
    (gives_row 0 _ _ (gives_row 1 _ _ (gives_row 2 _ _ (gives_row 3 _ _ (gives_row 4 _ _ (gives_row 5 _ _ gives-end))))))
    (gives-last (table-gives 0 (signals_in sheet) (decodings (nodes_in sheet))))

writer-gives : (s : ℕ) (ns : List ℕ) (room : ℕ) → Says (of_writer s ns room) (against 0 (write_refusal s ns room))
unfolding write_refusal
writer-gives s ns room = gives-lowest _ (side-gives 0 s (decodings ns)) (gives_row 12 _ _ gives-end)

-- what a call of theirs answers and leaves
left-refuses : (rules : List Rule) (told : Answer) (refusal : ℕ) (values result lent lent' : List ℕ) → Says rules (against 0 refusal)
    → exit told lent' ≡ left refusal values result lent → Decides rules (against 0 told.number) × (told.number ≢ 0 → lent' ≡ lent)
left-refuses rules told refusal values result lent lent' p e =
    let number : told.number ≡ refusal = ap (λ (x : Left). x.answer.number) e in (
      subst (λ (n : ℕ). Decides rules (against 0 n)) (sym number) (number-decides p),
      (λ h. ap (λ (x : Left). x.lent) e ∙ ap (λ (b : Bool). cond b (front result lent) lent) (ne_eqb refusal 0 (λ z. h (number ∙ z)))),
    )

pub read_refuses : ReadRefuses Reads
unfolding read_of
read_refuses sheet nodes nodes' r e = left-refuses (of_reader sheet (length nodes)) (reading r) _ _ (nodes_in sheet) nodes nodes' (reader-gives sheet (length nodes)) e

pub write_refuses : WriteRefuses Writes
unfolding write_of
write_refuses s nodes out out' r e = left-refuses (of_writer s nodes (length out)) (writing r) _ _ (sheet_of s nodes) out out' (writer-gives s nodes (length out)) e

-- ---- comparisons
call-decides : (g : Given) {rules : List Rule} (rest : List ℕ) → Says rules (first (map (against 3) rest)) → Decides (of_call g rules) (refusal_of g rest)
call-decides g rest p =
    first-decides _
    (gives-first _ (side-gives 1 g.ls (decodings g.left))
    (gives-first _ (side-gives 2 g.rs (decodings g.right))
    (gives-against 13 _ _ p)))

start-decides : (g : Given) (lent : ℕ) → Decides (of_start g lent) (start_refusal g lent)
unfolding start_refusal
start-decides g lent = call-decides g (rule 15 (eqb lent 0) ∷ []) (gives-against 14 _ _ gives_nothing)

run-decides : (g : Given) (lent : ℕ) (used : List Row) (held : Run) → Decides (of_run g lent used held) (run_refusal g lent used held)
unfolding run_refusal
run-decides g lent used held = call-decides g (rule 16 (impossible_for g lent used held) ∷ []) (gives-against 15 _ _ gives_nothing)

trace-decides : (g : Given) (lent : ℕ) (used : List Row) (held : Run) (buffer : ℕ) → Decides (of_trace g lent used held buffer) (trace_refusal g lent used held buffer)
unfolding trace_refusal
trace-decides g lent used held buffer =
    call-decides g
    (rule 16 (impossible_for g lent used held)
    ∷ rule 17 (not (eqb held.outcome 2))
    ∷ rule 18 (ltb buffer (length (trace_of used held.settled)))
    ∷ [])
    (gives-against 15 _ _ (gives-against 16 _ _ (gives-against 17 _ _ gives_nothing)))

-- what a comparison answers and leaves
leaves-refuses : {Lent : Type 0} (rules : List Rule) (reply : Reply) (why : Against) (values : List ℕ) (changed lent lent' : Lent) → Decides rules why
    → exits reply lent' ≡ leaves why values changed lent → Decides rules reply.refusal × (Refused reply → lent' ≡ lent)
leaves-refuses {Lent} rules reply why values changed lent lent' d e = (
  subst (Decides rules) (sym (ap (λ (x : Leaves Lent). x.reply.refusal) e)) d,
  refused-leaves reply why values changed lent lent' e,
)

pub start_refuses : StartRefuses Starts
start_refuses g l l' reply e = leaves-refuses (of_start g (length l.rows)) reply _ _ _ l l' (start-decides g (length l.rows)) e

pub run_refuses : RunRefuses Runs
run_refuses g l l' budget reply e =
    leaves-refuses (of_run g (length l.rows) (used_in l) l.held) reply _ _ _ l l' (run-decides g (length l.rows) (used_in l) l.held) e

pub trace_refuses : TraceRefuses Traces
trace_refuses g l out out' reply e =
    leaves-refuses (of_trace g (length l.rows) (used_in l) l.held (length out)) reply _ _ _ out out'
    (trace-decides g (length l.rows) (used_in l) l.held (length out)) e
