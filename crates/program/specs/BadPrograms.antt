-- Bad programs: each is ours but for what it is named after. `proofs/BadPrograms.antt` shows of each that what its lines are to mean is
-- false of it.
use Rattle.std.specs.Prelude.{ℕ, ◌≡◌, cond, List, [], ◌++◌, eqb, ltb, length}
use Rattle.goals.specs.Run.{State, trace_of}
use Rattle.goals.specs.Refusals.{against}
use Rattle.demands.specs.Demands.{most}
use Rattle.program.specs.Lines.{ascii, counts_line, trace_line, refused_line, ended_lines}
use Rattle.program.specs.Program.{sides_in, refusal_in, ended_on}
use Rattle.program.specs.Meaning.{Program}

-- refuses as ours, and else prints `of` the state in which ours ends
abbrev pub printing : (State → List ℕ) → Program
printing of input lines =
    lines ≡ cond (eqb (refusal_in input).number 0) (of (ended_on (sides_in input))) (refused_line (refusal_in input))

-- one that prints `included` to all
abbrev pub prints_included : Program
prints_included = printing (λ st. ascii "included\n" ++ counts_line st.settled (length st.rows))

-- one that prints `refuted` to all, with the empty trace
abbrev pub prints_refuted : Program
prints_refuted = printing (λ st. ascii "refuted\n" ++ (counts_line st.settled (length st.rows) ++ trace_line []))

-- one that prints `no room` to all
abbrev pub prints_no_room : Program
prints_no_room = printing (λ st. ascii "no room\n" ++ counts_line st.settled 1024)

-- one that leaves every run open
abbrev pub prints_open : Program
prints_open = printing (λ st. ascii "open\n" ++ counts_line st.settled (length st.rows))

-- one that prints nothing
abbrev pub prints_nothing : Program
prints_nothing = printing (λ st. [])

-- one that refuses everything
abbrev pub prints_refused : Program
prints_refused = printing (λ st. refused_line (against 3 14))

-- one that answers nothing at all
abbrev pub never_prints : Program
never_prints input lines = ⊥

-- ---- ours, but for what is printed of a run that ends with the outcome
abbrev pub of_outcome : ℕ → (State → List ℕ) → Program
of_outcome outcome of = printing (λ st. cond (eqb st.outcome outcome) (of st) (ended_lines st))

-- `included` that counts no row
abbrev pub includes_none : Program
includes_none = of_outcome 1 (λ st. ascii "included\n" ++ counts_line 0 0)

-- `included` that counts all 1,024 rows as used
abbrev pub includes_all_rows : Program
includes_all_rows = of_outcome 1 (λ st. ascii "included\n" ++ counts_line st.settled 1024)

-- `refuted` with nothing behind it,
abbrev pub refutes_bare : Program
refutes_bare = of_outcome 2 (λ st. ascii "refuted\n")

-- with the empty trace,
abbrev pub refutes_emptily : Program
refutes_emptily = of_outcome 2 (λ st. ascii "refuted\n" ++ (counts_line st.settled (length st.rows) ++ trace_line []))

-- and with its counts exchanged
abbrev pub exchanges_counts : Program
exchanges_counts =
    of_outcome 2
    (λ st. ascii "refuted\n" ++ (counts_line (length st.rows) st.settled ++ trace_line (trace_of st.rows st.settled)))

-- ---- ours, but for what is printed where the input is refused
abbrev pub of_refused : (List ℕ → List ℕ) → Program
of_refused of input lines =
    lines ≡ cond (eqb (refusal_in input).number 0) (ended_lines (ended_on (sides_in input))) (of input)

-- `included`
abbrev pub includes_refused : Program
includes_refused =
    of_refused (λ input. let st = ended_on (sides_in input) in ascii "included\n" ++ counts_line st.settled (length st.rows))

-- `refuted`, with the trace
abbrev pub refutes_refused : Program
refutes_refused =
    of_refused
    (λ input. let st = ended_on (sides_in input) in
    ascii "refuted\n" ++ (counts_line st.settled (length st.rows) ++ trace_line (trace_of st.rows st.settled)))

-- `no room`
abbrev pub no_room_refused : Program
no_room_refused = of_refused (λ input. let st = ended_on (sides_in input) in ascii "no room\n" ++ counts_line st.settled 1024)

-- a refusal that names both sides
abbrev pub blames_both : Program
blames_both = of_refused (λ input. refused_line (against 3 (refusal_in input).number))

-- ---- ours, but for `no room` wherever 1 + m × 2^k is above 1,024
abbrev pub no_room_above : Program
no_room_above input lines =
    let st = ended_on (sides_in input) in
    lines
    ≡ cond (eqb (refusal_in input).number 0)
    (cond (ltb 1024 (most (sides_in input))) (ascii "no room\n" ++ counts_line st.settled 1024) (ended_lines st))
    (refused_line (refusal_in input))
