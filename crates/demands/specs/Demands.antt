-- The inspectors' demands, sentence by sentence, of any calls: `Meets` gathers those of start, run and trace, `MeetsSheets` those of
-- reader and writer. Demand 1's "no call does anything undefined or fails to end" is what the check proves of each function.
use Rattle.std.specs.Prelude.{ℕ, ◌+◌, ◌-◌, ◌*◌, ◌^◌, ◌≤◌, ◌<◌, ◌≡◌, ◌⊎◌, ◌↔◌, ◌≢◌, true, false, List, [], ◌∷◌, length, get_or, take, drop, Result}
use Rattle.bits.specs.Bit.{Mem}
use Rattle.effect.specs.declared.Node.{Node}
use Rattle.effect.specs.Node.{decodings, nodes_of}
use Rattle.effect.specs.Meaning.{root, Trace}
use Rattle.effect.specs.declared.Refusal.{Refusal}
use Rattle.effect.specs.Refusals.{instants, front}
use Rattle.sheet.specs.declared.Header.{Header}
use Rattle.sheet.specs.Sheet.{sheet_length, sheet_of, signals_in, count_in, nodes_in, reading, writing}
use Rattle.sheet.specs.RoundTrip.{ReadCall, WriteCall, SheetAgain, TableAgain}
use Rattle.places.specs.Readings.{matching, followers, Leads}
use Rattle.goals.specs.declared.Row.{Row}
use Rattle.goals.specs.declared.Run.{Run}
use Rattle.goals.specs.Goals.{row, row_zero, bad}
use Rattle.goals.specs.Run.{trace_of}
use Rattle.goals.specs.Refusals.{Given, left_of, right_of, room_of, against, Reply}
use Rattle.demands.specs.Calls.{Lent, lent, used_in, Calls, StartCall, RunCall, TraceCall, Accepted, Refused}
use Rattle.demands.specs.Ordered.{Decides, of_reader, of_writer, of_start, of_run, of_trace}

-- ---- the words of the demands
abbrev pub left_nodes : Given → List Node
left_nodes g = nodes_of (decodings g.left)

abbrev pub right_nodes : Given → List Node
right_nodes g = nodes_of (decodings g.right)

-- w is a trace of the left, and of the right
abbrev pub LeftTrace : Given → List ℕ → Type 0
LeftTrace g w = Trace g.ls (left_nodes g) (root (left_nodes g)) w

abbrev pub RightTrace : Given → List ℕ → Type 0
RightTrace g w = Trace g.rs (right_nodes g) (root (right_nodes g)) w

-- row i of rows
abbrev pub row_of : List Row → ℕ → Row
row_of rows i = get_or rows i row_zero

-- the goal p, S (a left place and a set of right places) stands in one of the rows
abbrev pub Has : List Row → ℕ → ℕ → Type 0
Has rows p S = (i : ℕ) × (i < length rows) × ((row_of rows i).place ≡ p) × ((row_of rows i).set ≡ S)

-- no two of the rows are one goal
abbrev pub Differ : List Row → Type 0
Differ rows =
    (i j : ℕ) → i < length rows → j < length rows
    → (row_of rows i).place ≡ (row_of rows j).place → (row_of rows i).set ≡ (row_of rows j).set → i ≡ j

-- The goal p, S follows the row w under the letter x: p follows w's place and matches, and S is "all right places that follow a
-- member of the set and match".
pub record Follows (g : Given) (w : Row) (x p S : ℕ) : Type 0 where
  pub letter : x < 2 ^ g.ls
  pub follower : Mem (followers (left_of g) w.place) p
  pub matched : Mem (matching (left_of g) x) p
  pub places : (k : ℕ) → Mem S k ↔ ((j : ℕ) × Mem w.set j × Mem (followers (right_of g) j) k × Mem (matching (right_of g) x) k)

-- every letter of the word is below 2^s
abbrev pub Letters : ℕ → List ℕ → Type 0
Letters s [] = Unit
Letters s (x ∷ w) = (x < 2 ^ s) × Letters s w

-- "A trace reaches a goal if the left place can be reached by it, instant after instant, and the set is all right places so
-- reached."
pub record Reaches (g : Given) (w : List ℕ) (p S : ℕ) : Type 0 where
  pub letters : Letters g.ls w
  pub left : Leads (left_of g) 0 w p
  pub right : (k : ℕ) → Mem S k ↔ Leads (right_of g) 0 w k

-- "1 + m × 2^k", with m instants on the left, k on the right
abbrev pub most : Given → ℕ
most g = 1 + instants (left_nodes g) (length (left_nodes g)) * 2 ^ instants (right_nodes g) (length (right_nodes g))

-- a run that is not decided: open, or out of room
abbrev pub Undecided : Run → Type 0
Undecided r = (r.outcome ≡ 0) ⊎ (r.outcome ≡ 3)

-- ---- the chain of calls: "a run begun by the start call and given the same two sides in every call, whose rows and record
-- nothing else has written". Its state is the used rows and the record, and the sum of the budgets of its accepted run calls;
-- `least` is a lower bound on the rows lent to those.
pub data Chain (calls : Calls) (g : Given) (least : ℕ) : List Row → Run → ℕ → Type 0 where
  -- begun by an accepted start
  begun : {l l' : Lent} {reply : Reply} → calls.starts g l reply l' → Accepted reply → Chain calls g least (used_in l') l'.held 0
  -- an accepted run call, given the same two sides and a table that begins with the used rows, whatever lies beyond
  goes : {used rows : List Row} {held : Run} {sum budget : ℕ} {reply : Reply} {l' : Lent}
      → Chain calls g least used held sum → take held.used rows ≡ used → least ≤ length rows
      → calls.runs g (lent rows held) budget reply l' → Accepted reply
      → Chain calls g least (used_in l') l'.held (sum + budget)
  -- a refused start or run call, any sides and any budget, on a table that begins with the used rows: the state is what it left
  waits : {used rows : List Row} {held : Run} {sum budget : ℕ} {other : Given} {reply : Reply} {l' : Lent}
      → Chain calls g least used held sum → take held.used rows ≡ used
      → calls.starts other (lent rows held) reply l' ⊎ calls.runs other (lent rows held) budget reply l' → Refused reply
      → Chain calls g least (used_in l') l'.held sum
  -- a refused start or run call lent the record with any other table: the used rows lie elsewhere, the record is what it left
  strays : {used rows : List Row} {held : Run} {sum budget : ℕ} {other : Given} {reply : Reply} {l' : Lent}
      → Chain calls g least used held sum
      → calls.starts other (lent rows held) reply l' ⊎ calls.runs other (lent rows held) budget reply l' → Refused reply
      → Chain calls g least used l'.held sum
  -- any trace call, which only reads rows and record
  traced : {used rows : List Row} {held : Run} {sum : ℕ} {other : Given} {out out' : List ℕ} {reply : Reply}
      → Chain calls g least used held sum → calls.traces other (lent rows held) out reply out'
      → Chain calls g least used held sum

-- ---- Demand 1. Every call answers. "Bad input is refused by the numbers of document 01, exactly when it says, and a refusal changes
-- nothing that was lent."
abbrev pub Answers : Calls → Type 0
Answers calls =
    ((g : Given) (l : Lent) → (reply : Reply) × (l' : Lent) × calls.starts g l reply l')
    × ((g : Given) (l : Lent) (budget : ℕ) → (reply : Reply) × (l' : Lent) × calls.runs g l budget reply l')
    × ((g : Given) (l : Lent) (out : List ℕ) → (reply : Reply) × (out' : List ℕ) × calls.traces g l out reply out')

abbrev pub SheetAnswers : ReadCall → WriteCall → Type 0
SheetAnswers Reads Writes =
    ((sheet nodes : List ℕ) → (r : Result Header Refusal) × (nodes' : List ℕ) × Reads sheet nodes r nodes')
    × ((s : ℕ) (nodes out : List ℕ) → (r : Result ℕ Refusal) × (out' : List ℕ) × Writes s nodes out r out')

abbrev pub ReadRefuses : ReadCall → Type 0
ReadRefuses Reads =
    (sheet nodes nodes' : List ℕ) (r : Result Header Refusal) → Reads sheet nodes r nodes'
    → Decides (of_reader sheet (length nodes)) (against 0 (reading r).number) × ((reading r).number ≢ 0 → nodes' ≡ nodes)

abbrev pub WriteRefuses : WriteCall → Type 0
WriteRefuses Writes =
    (s : ℕ) (nodes out out' : List ℕ) (r : Result ℕ Refusal) → Writes s nodes out r out'
    → Decides (of_writer s nodes (length out)) (against 0 (writing r).number) × ((writing r).number ≢ 0 → out' ≡ out)

abbrev pub StartRefuses : StartCall → Type 0
StartRefuses Starts =
    (g : Given) (l l' : Lent) (reply : Reply) → Starts g l reply l'
    → Decides (of_start g (length l.rows)) reply.refusal × (Refused reply → l' ≡ l)

abbrev pub RunRefuses : RunCall → Type 0
RunRefuses Runs =
    (g : Given) (l l' : Lent) (budget : ℕ) (reply : Reply) → Runs g l budget reply l'
    → Decides (of_run g (length l.rows) (used_in l) l.held) reply.refusal × (Refused reply → l' ≡ l)

abbrev pub TraceRefuses : TraceCall → Type 0
TraceRefuses Traces =
    (g : Given) (l : Lent) (out out' : List ℕ) (reply : Reply) → Traces g l out reply out'
    → Decides (of_trace g (length l.rows) (used_in l) l.held (length out)) reply.refusal × (Refused reply → out' ≡ out)

-- what the reader and the writer answer and leave when they do not refuse: "reader and writer leave what lies beyond their result
-- unchanged"
abbrev pub ReadTakes : ReadCall → Type 0
ReadTakes Reads =
    (sheet nodes nodes' : List ℕ) (r : Result Header Refusal) → Reads sheet nodes r nodes' → (reading r).number ≡ 0
    → ((reading r).values ≡ signals_in sheet ∷ count_in sheet ∷ []) × (nodes' ≡ front (nodes_in sheet) nodes)

abbrev pub WritePuts : WriteCall → Type 0
WritePuts Writes =
    (s : ℕ) (nodes out out' : List ℕ) (r : Result ℕ Refusal) → Writes s nodes out r out' → (writing r).number ≡ 0
    → ((writing r).values ≡ sheet_length (length nodes) ∷ []) × (out' ≡ front (sheet_of s nodes) out)

-- ---- of every state of a chain; of every accepted run call, forged records and changed sides included
abbrev pub EachState : Calls → (Given → List Row → Run → Type 0) → Type 0
EachState calls P = (g : Given) (least sum : ℕ) (used : List Row) (held : Run) → Chain calls g least used held sum → P g used held

abbrev pub EachRun : Calls → (Given → Lent → ℕ → Lent → Type 0) → Type 0
EachRun calls P =
    (g : Given) (l l' : Lent) (budget : ℕ) (reply : Reply) → calls.runs g l budget reply l' → Accepted reply → P g l budget l'

-- ---- Demand 2. "'included' comes only if every finite trace of the left is one of the right"
abbrev pub IncludedOnlyIf : Calls → Type 0
IncludedOnlyIf calls = EachState calls (λ g used held. held.outcome ≡ 1 → (w : List ℕ) → LeftTrace g w → RightTrace g w)

-- "'refuted' only with a trace of the left that the right lacks": the letters from row 0 to the refuted row,
abbrev pub RefutedOnlyWith : Calls → Type 0
RefutedOnlyWith calls =
    EachState calls (λ g used held. held.outcome ≡ 2
    → LeftTrace g (trace_of used held.settled) × (RightTrace g (trace_of used held.settled) → ⊥))

-- and any accepted trace call hands over those very letters
abbrev pub TraceHands : Calls → Type 0
TraceHands calls =
    (g : Given) (l : Lent) (out out' : List ℕ) (reply : Reply) → calls.traces g l out reply out' → Accepted reply
    → let w = trace_of (used_in l) l.held.settled in (reply.values ≡ length w ∷ []) × (out' ≡ front w out)

-- So, as a caller sees it: an accepted trace call on a run's rows answers n, and the first n bytes of the buffer are a trace of the left
-- that the right lacks; the others stay.
abbrev pub RefutedShown : Calls → Type 0
RefutedShown calls =
    EachState calls (λ g used held. (rows : List Row) (out out' : List ℕ) (reply : Reply)
    → take held.used rows ≡ used → calls.traces g (lent rows held) out reply out' → Accepted reply
    → (n : ℕ)
    × (reply.values ≡ n ∷ [])
    × (n ≤ length out)
    × (length out' ≡ length out)
    × LeftTrace g (take n out')
    × (RightTrace g (take n out') → ⊥)
    × (drop n out' ≡ drop n out))

-- ---- Demand 3. "Start writes row 0 (place 0, set {0}, parent 0, letter 0), settled 0, used 1, outcome 0; the other rows stay."
abbrev pub StartLeaves : Calls → Type 0
StartLeaves calls =
    (g : Given) (l l' : Lent) (reply : Reply) → calls.starts g l reply l' → Accepted reply
    → l' ≡ lent (front (row 0 1 0 0 ∷ []) l.rows) (record { settled = 0; used = 1; outcome = 0 })

-- "each settled step closes one goal": a row is settled for each step, and there are no more steps than the budget has; all are taken
-- if the run stays open. Finding a bad row is a step, and only that refutes. A row that is settled is not bad, and each goal that
-- follows it stands in a used row.
abbrev pub Settles : Given → Lent → ℕ → List Row → Run → Type 0
Settles g l budget used held =
    (l.held.settled ≤ held.settled)
    × (held.settled ≤ l.held.settled + budget)
    × (held.outcome ≡ 0 → held.settled ≡ l.held.settled + budget)
    × (held.outcome ≡ 2
    → (held.settled < l.held.settled + budget) × (bad (left_of g) (right_of g) (row_of used held.settled) ≡ true))
    × ((i : ℕ) → l.held.settled ≤ i → i < held.settled
    → (bad (left_of g) (right_of g) (row_of used i) ≡ false) × ((x p S : ℕ) → Follows g (row_of used i) x p S → Has used p S))

abbrev pub StepsClose : Calls → Type 0
StepsClose calls = EachRun calls (λ g l budget l'. Undecided l.held → Settles g l budget (used_in l') l'.held)

-- A new row is entered by a step of this call: it follows the row that the step settled, or that found no room.
abbrev pub Enters : Given → Lent → List Row → Run → Type 0
Enters g l used held =
    (i : ℕ) → l.held.used ≤ i → i < held.used
    → let w = row_of used i in
    (l.held.settled ≤ w.parent)
    × (w.parent ≤ held.settled)
    × (w.parent ≡ held.settled → held.outcome ≡ 3)
    × Follows g (row_of used w.parent) w.letter w.place w.set

abbrev pub RowsEntered : Calls → Type 0
RowsEntered calls = EachRun calls (λ g l budget l'. Enters g l (used_in l') l'.held)

-- "Outcome 1 or 2, or budget 0, changes nothing."
abbrev pub Idles : Calls → Type 0
Idles calls = EachRun calls (λ g l budget l'. (l.held.outcome ≡ 1) ⊎ ((l.held.outcome ≡ 2) ⊎ (budget ≡ 0)) → l' ≡ l)

-- "no goal is entered twice": the used rows of a run are different goals, each reached by the letters that lead to its row;
abbrev pub GoalsDiffer : Calls → Type 0
GoalsDiffer calls = EachState calls (λ g used held. Differ used)

abbrev pub GoalsReached : Calls → Type 0
GoalsReached calls =
    EachState calls (λ g used held. (i : ℕ) → i < length used → Reaches g (trace_of used i) (row_of used i).place (row_of used i).set)

-- and a run call leaves the rows used before it in use, uses no more than the room, and leaves those beyond as they were
abbrev pub Stays : Lent → Lent → Type 0
Stays l l' =
    (take l.held.used (used_in l') ≡ used_in l)
    × (l'.held.used ≤ room_of (length l.rows))
    × (length l'.rows ≡ length l.rows)
    × (drop l'.held.used l'.rows ≡ drop l'.held.used l.rows)

abbrev pub RowsStay : Calls → Type 0
RowsStay calls = EachRun calls (λ g l budget l'. Stays l l')

-- "With m instants on the left, k on the right and room in every call for 1 + m × 2^k rows, that number being at most 65,535, the
-- run never lacks room and has its verdict once the budgets of its accepted calls add up to that many steps, however divided."
abbrev pub RoomAndBudget : Calls → Type 0
RoomAndBudget calls =
    (g : Given) (sum : ℕ) (used : List Row) (held : Run) → most g ≤ 65535 → Chain calls g (most g) used held sum
    → (held.outcome ≢ 3) × (most g ≤ sum → (held.outcome ≡ 1) ⊎ (held.outcome ≡ 2))

-- "however divided": with the same room, calls of budgets b and c leave the used rows and the record that one of b + c leaves
abbrev pub Divided : Calls → Type 0
Divided calls =
    (g : Given) (l l₁ l₂ l' : Lent) (rows : List Row) (b c : ℕ) (reply₁ reply₂ reply : Reply)
    → calls.runs g l b reply₁ l₁ → Accepted reply₁
    → take l₁.held.used rows ≡ used_in l₁ → room_of (length rows) ≡ room_of (length l.rows)
    → calls.runs g (lent rows l₁.held) c reply₂ l₂
    → calls.runs g l (b + c) reply l'
    → Accepted reply₂ × Accepted reply × (used_in l₂ ≡ used_in l') × (l₂.held ≡ l'.held)

-- "On 'included' the settled count is the number of goals that some trace reaches": as many as a list has that holds each of them,
-- and no other, once
abbrev pub CountsReached : Calls → Type 0
CountsReached calls =
    EachState calls (λ g used held. held.outcome ≡ 1
    → (goals : List Row)
    × (length goals ≡ held.settled)
    × Differ goals
    × ((p S : ℕ) → Has goals p S ↔ ((w : List ℕ) × Reaches g w p S)))

-- "Any run stops for room exactly when its next new goal finds the run's room used up": a row and a step are left, the row is not bad,
-- the used rows fill the room, and a goal that follows it stands in none of them
abbrev pub Lacks : Given → Lent → ℕ → List Row → Run → Type 0
Lacks g l budget used held =
    (held.settled < held.used)
    × (held.settled - l.held.settled < budget)
    × (bad (left_of g) (right_of g) (row_of used held.settled) ≡ false)
    × (held.used ≡ room_of (length l.rows))
    × ((x : ℕ) × (p : ℕ) × (S : ℕ) × Follows g (row_of used held.settled) x p S × (Has used p S → ⊥))

abbrev pub NoRoom : Calls → Type 0
NoRoom calls =
    EachRun calls (λ g l budget l'. Undecided l.held → 1 ≤ budget → (l'.held.outcome ≡ 3) ↔ Lacks g l budget (used_in l') l'.held)

-- ---- None of this is vacuous. A run call on a table that begins with the used rows (or, if it is shorter, is the first of them) is
-- accepted exactly when the used rows fit the room;
abbrev pub RunAccepted : Calls → Type 0
RunAccepted calls =
    EachState calls (λ g used held. (rows : List Row) (budget : ℕ) (reply : Reply) (l' : Lent)
    → take held.used rows ≡ take (length rows) used → calls.runs g (lent rows held) budget reply l'
    → Accepted reply ↔ (held.used ≤ room_of (length rows)))

-- a trace call of a refuted run exactly when they do and the buffer is as long as the trace;
abbrev pub TraceAccepted : Calls → Type 0
TraceAccepted calls =
    EachState calls (λ g used held. held.outcome ≡ 2 → (rows : List Row) (out out' : List ℕ) (reply : Reply)
    → take held.used rows ≡ take (length rows) used → calls.traces g (lent rows held) out reply out'
    → Accepted reply ↔ ((held.used ≤ room_of (length rows)) × (length (trace_of used held.settled) ≤ length out)))

-- and a budget as large as the room ends any run: included, refuted or no room.
abbrev pub BudgetEnds : Calls → Type 0
BudgetEnds calls =
    EachRun calls (λ g l budget l'. room_of (length l.rows) ≤ budget
    → (l'.held.outcome ≡ 1) ⊎ ((l'.held.outcome ≡ 2) ⊎ (l'.held.outcome ≡ 3)))

-- ---- all that is demanded of start, run and trace
pub record Meets (calls : Calls) : Type 0 where
  -- 1
  pub answers : Answers calls
  pub start_refuses : StartRefuses calls.starts
  pub run_refuses : RunRefuses calls.runs
  pub trace_refuses : TraceRefuses calls.traces
  -- 2
  pub included : IncludedOnlyIf calls
  pub refuted : RefutedOnlyWith calls
  pub hands : TraceHands calls
  pub seen : RefutedShown calls
  -- 3
  pub start : StartLeaves calls
  pub steps : StepsClose calls
  pub entered : RowsEntered calls
  pub idles : Idles calls
  pub differ : GoalsDiffer calls
  pub reached : GoalsReached calls
  pub stay : RowsStay calls
  pub bound : RoomAndBudget calls
  pub divided : Divided calls
  pub counts : CountsReached calls
  pub room : NoRoom calls
  -- not vacuous
  pub goes_on : RunAccepted calls
  pub shows : TraceAccepted calls
  pub ends : BudgetEnds calls

-- and of reader and writer: "An accepted sheet read and written again is the same sheet; an accepted node table written and read
-- again is the same table."
pub record MeetsSheets (Reads : ReadCall) (Writes : WriteCall) : Type 0 where
  -- 1
  pub answers : SheetAnswers Reads Writes
  pub read_refuses : ReadRefuses Reads
  pub write_refuses : WriteRefuses Writes
  -- 2
  pub takes : ReadTakes Reads
  pub puts : WritePuts Writes
  pub sheet_again : SheetAgain Reads Writes
  pub table_again : TableAgain Reads Writes
