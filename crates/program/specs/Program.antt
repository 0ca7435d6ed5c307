-- "The program": from the bytes of the input to the bytes of the output.
use Rattle.std.specs.Prelude.{ℕ, cond, not, List, [], ◌∷◌, eqb, take, drop}
use Rattle.effect.specs.Refusals.{rule}
use Rattle.sheet.specs.Sheet.{sheet_length, signals_in, count_in, nodes_in, read_refusal}
use Rattle.goals.specs.Run.{State, started, run, trace_of}
use Rattle.goals.specs.Refusals.{Given, given, left_of, right_of, Against, against, first}
use Rattle.program.specs.Lines.{refused_line, ended_lines}

-- "the left sheet, whose header gives its length, then all the rest as the right"
abbrev pub left_sheet : List ℕ → List ℕ
left_sheet input = take (sheet_length (count_in input)) input

abbrev pub right_sheet : List ℕ → List ℕ
right_sheet input = drop (sheet_length (count_in input)) input

-- what stands in the two sheets: s and the nodes of each side
abbrev pub sides_in : List ℕ → Given
sides_in input =
    given (signals_in (left_sheet input)) (nodes_in (left_sheet input)) (signals_in (right_sheet input)) (nodes_in (right_sheet input))

-- "If the left header is itself refused (1 to 3), that is the answer; if the input ends before the left sheet does, it is left 4. The
-- reader's refusals stand as for the sheets, left before right", then 14 for both. (The reader is lent tables of 255 nodes, so that no
-- sheet gives 6.)
unfoldable pub refusal_in : List ℕ → Against
refusal_in input =
    first
    (against 1 (read_refusal (left_sheet input) 255)
    ∷ against 2 (read_refusal (right_sheet input) 255)
    ∷ against 3 (rule 14 (not (eqb (sides_in input).ls (sides_in input).rs)))
    ∷ [])

-- "Room is 1,024 rows."
abbrev pub room : ℕ
room = 1024

-- the state in which a run ends that has as many steps as room for rows: never an open one (`never-open`)
abbrev pub ended_on : Given → State
ended_on g = let steps = room in run (left_of g) (right_of g) room steps started

-- the trace of the run that ended
abbrev pub trace_in : Given → List ℕ
trace_in g = trace_of (ended_on g).rows (ended_on g).settled

-- all that is printed
unfoldable pub lines_of : List ℕ → List ℕ
lines_of input = cond (eqb (refusal_in input).number 0) (ended_lines (ended_on (sides_in input))) (refused_line (refusal_in input))
