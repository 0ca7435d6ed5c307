-- The calls on parallel columns: what each is lent, answers and leaves.
use Rattle.std.specs.Prelude.{ℕ, zero, suc, min, ◌≡◌, Result, Ok, Err, List, [], ◌∷◌, ◌++◌, map, length, get_or}
use Rattle.effect.specs.Refusals.{front}
use Rattle.goals.specs.declared.Row.{Row}
use Rattle.goals.specs.declared.Run.{Run}
use Rattle.goals.specs.declared.SideRefusal.{SideRefusal}
use Rattle.goals.specs.Goals.{row}
use Rattle.goals.specs.Run.{State, state, started, trace_of}
use Rattle.asking.specs.declared.Asked.{Asked}
use Rattle.asking.specs.Asked.{start_refusal_on, run_refusal_on, trace_refusal_on, run_after_on}
use Rattle.goals.specs.Refusals.{record_of, Against, against, against_of, Reply, leaves, exit, values_of}

-- The rows as the caller lends them to these calls: a column for each of place, set, parent and letter.
pub record Columns : Type 0 where
  pub places : List ℕ
  pub sets : List ℕ
  pub parents : List ℕ
  pub letters : List ℕ

abbrev pub columns : List ℕ → List ℕ → List ℕ → List ℕ → Columns
columns p s q l = record { places = p; sets = s; parents = q; letters = l }

abbrev pub row_at : Columns → ℕ → Row
row_at c i = row (get_or c.places i 0) (get_or c.sets i 0) (get_or c.parents i 0) (get_or c.letters i 0)

-- the first n rows
unfoldable pub rows_in : Columns → ℕ → List Row
rows_in c zero = []
rows_in c (suc n) = rows_in c n ++ (row_at c n ∷ [])

-- the rows at the front of the columns; "the other rows stay"
abbrev pub put : List Row → Columns → Columns
put rows c =
    columns
    (front (map (λ w. w.place) rows) c.places)
    (front (map (λ w. w.set) rows) c.sets)
    (front (map (λ w. w.parent) rows) c.parents)
    (front (map (λ w. w.letter) rows) c.letters)

-- the rows lent: as many as the caller says, and no more than the shortest column has
abbrev pub lent_in : ℕ → Columns → ℕ
lent_in lent c = min lent (min (length c.places) (min (length c.sets) (min (length c.parents) (length c.letters))))

-- the state of a record with its rows
abbrev pub state_of : Columns → Run → State
state_of c r = state (rows_in c r.used) r.settled r.outcome

-- the number and values of each case of what start and run answer: settled, used and outcome, or a refusal
unfoldable pub called : Result Run SideRefusal → Reply
called (Ok r) = record { refusal = against 0 0; values = values_of r }
called (Err why) = record { refusal = against_of why; values = [] }

-- and of what trace answers: the number of letters, or a refusal
unfoldable pub tracing : Result ℕ SideRefusal → Reply
tracing (Ok n) = record { refusal = against 0 0; values = n ∷ [] }
tracing (Err why) = record { refusal = against_of why; values = [] }

-- what start and run leave, given their refusal and the state that else comes out: its record is answered, and its rows stand at the front
abbrev pub CallsBy : Against → State → Columns → Result Run SideRefusal → Columns → Type 0
CallsBy why st c answer c' = exit (called answer) c' ≡ leaves why (values_of (record_of st)) (put st.rows c) c

-- the promise of `start_on`
abbrev pub Starts : Asked → ℕ → Columns → Result Run SideRefusal → Columns → Type 0
Starts a lent c answer c' = CallsBy (start_refusal_on a (lent_in lent c)) started c answer c'

-- the promise of `run_on`
abbrev pub Runs : Asked → ℕ → Columns → Run → ℕ → Result Run SideRefusal → Columns → Type 0
Runs a lent c r budget answer c' =
    let rows = rows_in c r.used in
    CallsBy (run_refusal_on a (lent_in lent c) rows r) (run_after_on a (lent_in lent c) rows r budget) c answer c'

-- what trace leaves, given its refusal: "the letters from row 0 to the refuted row, one byte each, at the buffer's front, and answers how
-- many; the rest stays"
abbrev pub TracesBy : Against → List Row → Run → List ℕ → Result ℕ SideRefusal → List ℕ → Type 0
TracesBy why rows r out answer out' =
    let word = trace_of rows r.settled in
    exit (tracing answer) out' ≡ leaves why (length word ∷ []) (front word out) out

-- the promise of `trace_on`
abbrev pub Traces : Asked → ℕ → Columns → Run → List ℕ → Result ℕ SideRefusal → List ℕ → Type 0
Traces a lent c r out answer out' =
    let rows = rows_in c r.used in
    TracesBy (trace_refusal_on a (lent_in lent c) rows r (length out)) rows r out answer out'
