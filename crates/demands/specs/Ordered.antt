-- Document 01's table of refusals as each call asks it, row after row in the given order.
use Rattle.std.specs.Prelude.{ℕ, zero, suc, ◌-◌, ◌≡◌, Bool, true, false, not, ◌||◌, ◌⊎◌, List, [], ◌∷◌, ◌++◌, eqb, ltb, leb, length, Option, Some, None}
use Rattle.effect.specs.declared.Node.{Node}
use Rattle.effect.specs.Node.{decodings, entry, nodes_of}
use Rattle.effect.specs.Meaning.{at}
use Rattle.effect.specs.Refusals.{some_below, some_child, claimed, names_beyond, twins, instants}
use Rattle.sheet.specs.Sheet.{sheet_length, signals_in, count_in, nodes_in, filling_set}
use Rattle.goals.specs.declared.Row.{Row}
use Rattle.goals.specs.declared.Run.{Run}
use Rattle.goals.specs.Run.{trace_of}
use Rattle.goals.specs.Refusals.{Given, Against, against, impossible_for}

-- a row of the table: the side that it names (1 left, 2 right, 3 both; 0 for reader and writer, which have one), its number,
-- and whether it applies
pub record Rule : Type 0 where
  pub side : ℕ
  pub number : ℕ
  pub applies : Bool

abbrev pub when : ℕ → ℕ → Bool → Rule
when side number applies = record { side = side; number = number; applies = applies }

-- The answer to rows in order: a refusal exactly when its row applies and none before it does; none when no row applies.
abbrev pub Decides : List Rule → Against → Type 0
Decides [] answer = answer ≡ against 0 0
Decides (r ∷ rest) answer =
    ((r.applies ≡ true) × (answer ≡ against r.side r.number)) ⊎ ((r.applies ≡ false) × Decides rest answer)

-- 7: "kind 6 or 7, a field that must be 0 isn't, or the node's 32-bit number is 2^19 or more", which is no node
unfoldable pub no_node : Option Node → Bool
no_node None = true
no_node (Some n) = false

-- 7 to 10 of node i
abbrev pub of_node : ℕ → ℕ → List (Option Node) → ℕ → List Rule
of_node side s ds i =
    let t = nodes_of ds in
    when side 7 (no_node (entry ds i))
    -- "an instant names a signal of number s or above"
    ∷ when side 8 (names_beyond s (at t i))
    -- "a child isn't below its own node"
    ∷ when side 9 (some_child (leb i) (at t i))
    -- "a child is already a lower node's child, or a = b in a sequence or choice"
    ∷ when side 10 (some_child (claimed t i) (at t i) || twins (at t i))
    ∷ []

-- "among 7 to 10 the lowest node decides first": those of node 0, of node 1, .. of node n - 1
unfoldable pub of_nodes : ℕ → ℕ → List (Option Node) → ℕ → List Rule
of_nodes side s ds zero = []
of_nodes side s ds (suc n) = of_nodes side s ds n ++ of_node side s ds n

-- 7 to 12 of a table
abbrev pub of_table : ℕ → ℕ → List (Option Node) → List Rule
of_table side s ds =
    let t = nodes_of ds in
    of_nodes side s ds (length ds)
    -- "a node other than the last is nobody's child"
    ++ (when side 11 (some_below (length ds - 1) (λ c. not (claimed t (length ds) c)))
    -- "more than 63 instants"
    ∷ when side 12 (ltb 63 (instants t (length ds)))
    ∷ [])

-- "2, 3, 7 to 12" of a writer's or a comparer's side
abbrev pub of_side : ℕ → ℕ → List (Option Node) → List Rule
of_side side s ds =
    when side 2 (ltb 8 s)
    -- "no node (a writer or comparer: or over 255)"
    ∷ when side 3 (eqb (length ds) 0 || ltb 255 (length ds))
    ∷ of_table side s ds

-- "The reader gives 1 to 12": the sheet, and how many entries the node table lent has
abbrev pub of_reader : List ℕ → ℕ → List Rule
of_reader sheet count =
    let n = count_in sheet in
    -- "sheet under 2 bytes"
    when 0 1 (ltb (length sheet) 2)
    -- "s above 8"
    ∷ when 0 2 (ltb 8 (signals_in sheet))
    -- "no node"
    ∷ when 0 3 (eqb n 0)
    -- "sheet length differs from the formula"
    ∷ when 0 4 (not (eqb (length sheet) (sheet_length n)))
    -- "a filling bit is set"
    ∷ when 0 5 (filling_set sheet)
    -- "node table lent to the reader is shorter than N"
    ∷ when 0 6 (ltb count n)
    ∷ of_table 0 (signals_in sheet) (decodings (nodes_in sheet))

-- "the writer 2, 3 and 7 to 13": s, the nodes, and how many bytes the output has
abbrev pub of_writer : ℕ → List ℕ → ℕ → List Rule
of_writer s ns room =
    of_side 0 s (decodings ns)
    -- "output too short for the sheet"
    ++ (when 0 13 (ltb room (sheet_length (length ns))) ∷ [])

-- "2, 3, 7 to 12 for the left, then the same for the right, each naming the side, then the rest, naming both"
abbrev pub of_call : Given → List Rule → List Rule
of_call g rest =
    of_side 1 g.ls (decodings g.left)
    ++ (of_side 2 g.rs (decodings g.right)
    -- "the two sides' s differ"
    ++ (when 3 14 (not (eqb g.ls g.rs))
    ∷ rest))

-- start, of so many rows lent: 15, "start with a row table of no rows"
abbrev pub of_start : Given → ℕ → List Rule
of_start g count = of_call g (when 3 15 (eqb count 0) ∷ [])

-- run: 16, "run record or rows impossible"
abbrev pub of_run : Given → ℕ → List Row → Run → List Rule
of_run g count used held = of_call g (when 3 16 (impossible_for g count used held) ∷ [])

-- trace, for a buffer of so many bytes
abbrev pub of_trace : Given → ℕ → List Row → Run → ℕ → List Rule
of_trace g count used held buffer =
    of_call g
    (when 3 16 (impossible_for g count used held)
    -- "trace asked of a run not refuted"
    ∷ when 3 17 (not (eqb held.outcome 2))
    -- "trace buffer shorter than the trace"
    ∷ when 3 18 (ltb buffer (length (trace_of used held.settled)))
    ∷ [])
