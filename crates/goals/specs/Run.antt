-- A run: its state, one step, a call with a budget, the trace of a row.
use Rattle.std.specs.Prelude.{ℕ, zero, suc, true, false, cond, ◌||◌, List, [], ◌∷◌, ◌++◌, eqb, length, get_or}
use Rattle.places.specs.declared.Side.{Side}
use Rattle.goals.specs.declared.Row.{Row}
use Rattle.goals.specs.Goals.{row_zero, bad, candidates, Entered, enter_all}

-- the used rows, how many are settled, and the outcome (0 open, 1 included, 2 refuted, 3 no room)
pub record State : Type 0 where
  pub rows : List Row
  pub settled : ℕ
  pub outcome : ℕ

abbrev pub state : List Row → ℕ → ℕ → State
state rows settled outcome = record { rows = rows; settled = settled; outcome = outcome }

-- "Start writes row 0 .., settled 0, used 1, outcome 0"
abbrev pub started : State
started = state (row_zero ∷ []) 0 0

-- once the goals of row r are entered: no room, "settled stays"; else "settled grows by 1; settled = used gives outcome 1,
-- else 0"
unfoldable pub settle : ℕ → Entered → State
settle r e =
    cond e.full (state e.rows r 3)
    (state e.rows (suc r) (cond (eqb (suc r) (length e.rows)) 1 0))

-- "each step takes row r = settled": bad, "outcome 2, and r is the refuted row"; else its goals are entered. (A possible record
-- has that row; past the end there is the start row.)
unfoldable pub step : Side → Side → ℕ → State → State
step left right room st =
    let r = st.settled in
    let w = get_or st.rows r row_zero in
    cond (bad left right w) (state st.rows r 2)
    (settle r (enter_all room (candidates left right r w) (record { rows = st.rows; full = false })))

-- at most so many steps, up to the first that leaves another outcome than 0
unfoldable pub steps : Side → Side → ℕ → ℕ → State → State
steps left right room zero st = st
steps left right room (suc b) st =
    let next = step left right room st in
    elim (eqb next.outcome 0) [ true ↦ steps left right room b next | false ↦ next ]

-- "Outcome 1 or 2, or budget 0, changes nothing"; "outcome 3 tries row r again"
unfoldable pub run : Side → Side → ℕ → ℕ → State → State
run left right room budget st = cond (eqb st.outcome 1 || eqb st.outcome 2) st (steps left right room budget st)

-- "the letters from row 0 to the refuted row": a row's parents are below it, so i rounds are enough
unfoldable pub word_in : List Row → ℕ → ℕ → List ℕ
word_in rows zero i = []
word_in rows (suc f) i =
    let w = get_or rows i row_zero in
    elim (eqb i 0) [ true ↦ [] | false ↦ word_in rows f w.parent ++ (w.letter ∷ []) ]

abbrev pub trace_of : List Row → ℕ → List ℕ
trace_of rows i = word_in rows i i
