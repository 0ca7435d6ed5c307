-- "Comparisons with their rows": C1 to C12 with C5r, and what it is that the run's rules give what the table lists. (What the
-- meaning says of them is stated with the demands.)
use Rattle.std.specs.Prelude.{ℕ, ◌≡◌, cond, Option, Some, None, List, [], ◌∷◌, map, eqb, length}
use Rattle.effect.specs.declared.Node.{Node}
use Rattle.effect.specs.declared.Node.TheVariants.{Nil, Empty, Instant, Seq, Choice, Repeat}
use Rattle.effect.specs.Node.{number_of}
use Rattle.goals.specs.Run.{State, started, trace_of}
use Rattle.goals.specs.Refusals.{Given, given, record_of, against, start_refusal, run_refusal, run_after}

-- a comparison of two tables with the same s, in a room
pub record Case : Type 0 where
  pub s : ℕ
  pub left : List Node
  pub right : List Node
  pub room : ℕ

-- what the table lists: the outcome (1 included, 2 refuted, 3 no room), settled, used, and the trace of a refuted one
pub record Listed : Type 0 where
  pub outcome : ℕ
  pub settled : ℕ
  pub used : ℕ
  pub trace : List ℕ

pub record Comparison : Type 0 where
  pub case : Case
  pub listed : Listed

abbrev pub lists : ℕ → List Node → List Node → ℕ → ℕ → ℕ → ℕ → List ℕ → Comparison
lists s left right room outcome settled used trace =
    record {
      case = record { s = s; left = left; right = right; room = room };
      listed = record { outcome = outcome; settled = settled; used = used; trace = trace };
    }

-- "Room is ample unless named": none of these comparisons needs more than 1 + 2 × 2^3 rows
abbrev pub ample : ℕ
ample = 64

-- "D is signal 0, M signal 1, a bar means absent"
abbrev pub comparisons : List Comparison
comparisons =
    -- C1: empty; empty
    lists 0 (Empty ∷ []) (Empty ∷ []) ample 1 1 1 []
    -- C2: empty; nil
    ∷ lists 0 (Empty ∷ []) (Nil ∷ []) ample 2 0 1 []
    -- C3: nil; empty
    ∷ lists 0 (Nil ∷ []) (Empty ∷ []) ample 1 1 1 []
    -- C4: {D}; {}
    ∷ lists 1 (Instant 1 0 ∷ []) (Instant 0 0 ∷ []) ample 1 2 2 []
    -- C5: {}; {D}
    ∷ lists 1 (Instant 0 0 ∷ []) (Instant 1 0 ∷ []) ample 2 1 3 (0 ∷ [])
    -- C5r: the same, room 2
    ∷ lists 1 (Instant 0 0 ∷ []) (Instant 1 0 ∷ []) 2 3 0 2 []
    -- C6: {}; {D} or {‾D}
    ∷ lists 1 (Instant 0 0 ∷ []) (Instant 1 0 ∷ Instant 0 1 ∷ Choice 0 1 ∷ []) ample 1 3 3 []
    -- C7: {D,‾D}; nil
    ∷ lists 1 (Instant 1 1 ∷ []) (Nil ∷ []) ample 1 1 1 []
    -- C8: {D}*; {D}·{D}* or empty
    ∷ lists 1 (Instant 1 0 ∷ Repeat 0 ∷ []) (Instant 1 0 ∷ Instant 1 0 ∷ Repeat 1 ∷ Seq 0 2 ∷ Empty ∷ Choice 3 4 ∷ []) ample 1 3 3 []
    -- C9: {D}·{‾M}; ({D}·{M} or {‾D})*
    ∷ lists 2 (Instant 1 0 ∷ Instant 0 2 ∷ Seq 0 1 ∷ [])
    (Instant 1 0 ∷ Instant 2 0 ∷ Seq 0 1 ∷ Instant 0 1 ∷ Choice 2 3 ∷ Repeat 4 ∷ []) ample 2 2 3 (1 ∷ 0 ∷ [])
    -- C10: {}*; {}
    ∷ lists 0 (Instant 0 0 ∷ Repeat 0 ∷ []) (Instant 0 0 ∷ []) ample 2 0 1 []
    -- C11: {}·{}; {}*
    ∷ lists 0 (Instant 0 0 ∷ Instant 0 0 ∷ Seq 0 1 ∷ []) (Instant 0 0 ∷ Repeat 0 ∷ []) ample 1 3 3 []
    -- C12: {D}·nil; nil
    ∷ lists 1 (Instant 1 0 ∷ Nil ∷ Seq 0 1 ∷ []) (Nil ∷ []) ample 1 2 2 []
    ∷ []

-- the node table of the nodes; none of those above is too wide for its 19 bits
abbrev pub entry_of : Option ℕ → ℕ
entry_of (Some x) = x
entry_of None = 524288

abbrev pub table_of : List Node → List ℕ
table_of t = map (λ n. entry_of (number_of n)) t

abbrev pub given_by : Case → Given
given_by c = given c.s (table_of c.left) c.s (table_of c.right)

-- what a state shows of a run
abbrev pub shown : State → Listed
shown st =
    record {
      outcome = st.outcome;
      settled = st.settled;
      used = length st.rows;
      trace = cond (eqb st.outcome 2) (trace_of st.rows st.settled) [];
    }

-- the run's rules give what is listed: start accepts, and a run call with the room as its budget is accepted and leaves it
pub record Gives (c : Comparison) : Type 0 where
  pub starts : start_refusal (given_by c.case) c.case.room ≡ against 0 0
  pub runs : run_refusal (given_by c.case) c.case.room started.rows (record_of started) ≡ against 0 0
  pub shows : shown (run_after (given_by c.case) c.case.room started.rows (record_of started) c.case.room) ≡ c.listed

-- of every comparison of a list
unfoldable pub Each : (Comparison → Type 0) → List Comparison → Type 0
Each P [] = Unit
Each P (c ∷ cs) = P c × Each P cs
