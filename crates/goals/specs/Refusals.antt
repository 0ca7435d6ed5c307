-- What a comparison call is given, refusals 14 to 18, and what a call answers and leaves.
use Rattle.std.specs.Prelude.{ℕ, ◌+◌, min, Bool, cond, not, ◌||◌, ◌&&◌, List, [], ◌∷◌, ◌++◌, map, eqb, ltb, leb, length, get_or}
use Rattle.bits.specs.Bit.{has, within}
use Rattle.effect.specs.Node.{decodings, nodes_of}
use Rattle.effect.specs.Refusals.{rule, some_below, side_refusal}
use Rattle.places.specs.declared.Side.{Side}
use Rattle.places.specs.Side.{side_of}
use Rattle.goals.specs.declared.Row.{Row}
use Rattle.goals.specs.declared.Run.{Run}
use Rattle.goals.specs.declared.Which.{Which}
use Rattle.goals.specs.declared.Which.TheVariants.{Left, Right, Both}
use Rattle.goals.specs.declared.SideRefusal.{SideRefusal}
use Rattle.goals.specs.Goals.{row_zero}
use Rattle.goals.specs.Run.{State, state, run, trace_of}

-- "Comparison calls take both node tables and s values each time"
pub record Given : Type 0 where
  pub ls : ℕ
  pub left : List ℕ
  pub rs : ℕ
  pub right : List ℕ

abbrev pub given : ℕ → List ℕ → ℕ → List ℕ → Given
given ls left rs right = record { ls = ls; left = left; rs = rs; right = right }

abbrev pub left_of : Given → Side
left_of g = side_of g.ls (nodes_of (decodings g.left))

abbrev pub right_of : Given → Side
right_of g = side_of g.rs (nodes_of (decodings g.right))

-- "Room is the number of rows lent, or 65,535 if more are lent"
unfoldable pub room_of : ℕ → ℕ
room_of lent = min 65535 lent

-- the record of a state
abbrev pub record_of : State → Run
record_of st = record { settled = st.settled; used = length st.rows; outcome = st.outcome }

-- Refusal 16, "run record or rows impossible", in three parts.
-- "used is 0 or above room; settled is above used; outcome is above 3; settled = used with outcome 0, 2 or 3, or settled below
-- used with 1"
unfoldable pub record_impossible : ℕ → Run → Bool
record_impossible room r =
    eqb r.used 0
    || (ltb room r.used
    || (ltb r.used r.settled
    || (ltb 3 r.outcome
    || ((eqb r.settled r.used && not (eqb r.outcome 1))
    || (ltb r.settled r.used && eqb r.outcome 1)))))

-- "row 0 isn't as start wrote it"
unfoldable pub row_zero_impossible : Row → Bool
row_zero_impossible w =
    not (eqb w.place 0 && (eqb w.set 1 && (eqb w.parent 0 && eqb w.letter 0)))

-- "another used row has place 0 or above m, set bit 0 or a bit above k, a parent not below it, or a letter of 2^s or more"
unfoldable pub row_impossible : ℕ → ℕ → ℕ → ℕ → Row → Bool
row_impossible s m k i w =
    (eqb w.place 0 || ltb m w.place)
    || ((has w.set 0 || not (within (k + 1) w.set))
    || (leb i w.parent
    || not (within s w.letter)))

-- s signals, m instants on the left and k on the right, the room, the used rows and the record
unfoldable pub impossible : ℕ → ℕ → ℕ → ℕ → List Row → Run → Bool
impossible s m k room rows r =
    record_impossible room r
    || (row_zero_impossible (get_or rows 0 row_zero)
    || some_below r.used (λ i. not (eqb i 0) && row_impossible s m k i (get_or rows i row_zero)))

-- A refusal as a comparison gives it: its number and the side that it names (1 left, 2 right, 3 both); 0 and 0 are none.
pub record Against : Type 0 where
  pub side : ℕ
  pub number : ℕ

abbrev pub against : ℕ → ℕ → Against
against side number = record { side = side; number = number }

-- the first of the rules that applies
unfoldable pub first : List Against → Against
first [] = against 0 0
first (r ∷ rs) = cond (eqb r.number 0) (first rs) r

-- "2, 3, 7 to 12 for the left, then the same for the right, each naming the side, then the rest, naming both"
abbrev pub side_rules : Given → List Against
side_rules g =
    against 1 (side_refusal g.ls (decodings g.left))
    ∷ against 2 (side_refusal g.rs (decodings g.right))
    -- "the two sides' s differ"
    ∷ against 3 (rule 14 (not (eqb g.ls g.rs)))
    ∷ []

-- the rules of the two sides, then the rest, naming both
abbrev pub refusal_by : List Against → List ℕ → Against
refusal_by sides rest = first (sides ++ map (against 3) rest)

abbrev pub refusal_of : Given → List ℕ → Against
refusal_of g rest = refusal_by (side_rules g) rest

-- What each call asks once the sides pass. 15: "start with a row table of no rows"
abbrev pub start_rules : ℕ → List ℕ
start_rules lent = rule 15 (eqb lent 0) ∷ []

-- 16 for two sides of s signals, m and k instants: the rows lent, the used rows and the record
abbrev pub run_rules : ℕ → ℕ → ℕ → ℕ → List Row → Run → List ℕ
run_rules s m k lent rows r = rule 16 (impossible s m k (room_of lent) rows r) ∷ []

-- trace: 16, and 17, and 18 for a buffer of that many bytes
abbrev pub trace_rules : ℕ → ℕ → ℕ → ℕ → List Row → Run → ℕ → List ℕ
trace_rules s m k lent rows r buffer =
    rule 16 (impossible s m k (room_of lent) rows r)
    -- "trace asked of a run not refuted"
    ∷ rule 17 (not (eqb r.outcome 2))
    -- "trace buffer shorter than the trace"
    ∷ rule 18 (ltb buffer (length (trace_of rows r.settled)))
    ∷ []

-- The same of two tables.
unfoldable pub start_refusal : Given → ℕ → Against
start_refusal g lent = refusal_of g (start_rules lent)

abbrev pub impossible_for : Given → ℕ → List Row → Run → Bool
impossible_for g lent rows r = impossible g.ls (left_of g).count (right_of g).count (room_of lent) rows r

unfoldable pub run_refusal : Given → ℕ → List Row → Run → Against
run_refusal g lent rows r = refusal_of g (run_rules g.ls (left_of g).count (right_of g).count lent rows r)

unfoldable pub trace_refusal : Given → ℕ → List Row → Run → ℕ → Against
trace_refusal g lent rows r buffer = refusal_of g (trace_rules g.ls (left_of g).count (right_of g).count lent rows r buffer)

-- the side that a refusal names, and the refusal as above
unfoldable pub side_number : Which → ℕ
side_number Left = 1
side_number Right = 2
side_number Both = 3

abbrev pub against_of : SideRefusal → Against
against_of why = against (side_number why.side) why.number

-- An answer in document 01's terms: the refusal with no values, or none with the values.
pub record Reply : Type 0 where
  pub refusal : Against
  pub values : List ℕ

-- What a call leaves: its answer, and what was lent at exit.
pub record Leaves (Lent : Type 0) : Type 0 where
  pub reply : Reply
  pub lent : Lent

-- "A refusal changes no lent buffer, table or record."
abbrev pub leaves : {Lent : Type 0} → Against → List ℕ → Lent → Lent → Leaves Lent
leaves why values changed lent =
    record {
      reply = record { refusal = why; values = cond (eqb why.number 0) values [] };
      lent = cond (eqb why.number 0) changed lent;
    }

abbrev pub exit : {Lent : Type 0} → Reply → Lent → Leaves Lent
exit reply lent = record { reply = reply; lent = lent }

-- the values of a record in an answer
abbrev pub values_of : Run → List ℕ
values_of r = r.settled ∷ r.used ∷ r.outcome ∷ []

-- the state that a run call leaves: the rows lent, the used rows, the record, the budget
unfoldable pub run_after : Given → ℕ → List Row → Run → ℕ → State
run_after g lent rows r budget = run (left_of g) (right_of g) (room_of lent) budget (state rows r.settled r.outcome)
