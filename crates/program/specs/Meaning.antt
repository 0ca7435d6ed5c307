-- What the program's lines mean, of any program: `included` with its count, `refuted` with its trace, `no room`, and that to every input
-- one of these or a refusal is printed, so that a run is never left open. And that counts and letters can be read back from their lines.
use Rattle.std.specs.Prelude.{ℕ, ◌≤◌, ◌<◌, ◌≡◌, ◌⊎◌, ◌↔◌, ◌≢◌, List, ◌++◌, length}
use Rattle.goals.specs.declared.Row.{Row}
use Rattle.demands.specs.Demands.{LeftTrace, RightTrace, Has, Differ, Letters, Reaches, most}
use Rattle.program.specs.Lines.{ascii, counts_line, trace_line, refused_line}
use Rattle.program.specs.Program.{sides_in, refusal_in, ended_on, lines_of}

-- a program as a relation: the bytes of its input, and those that it prints
abbrev pub Program : Type 1
Program = List ℕ → List ℕ → Type 0

-- Every input is answered.
abbrev pub AlwaysPrints : Program → Type 0
AlwaysPrints Prints = (input : List ℕ) → (lines : List ℕ) × Prints input lines

-- `included`: every finite trace of the left is one of the right. Line 2 says n of n rows, n being the number of goals that some trace
-- reaches: as many as a list has that holds each of them, and no other, once.
abbrev pub SaysIncluded : Program → Type 0
SaysIncluded Prints =
    (input rest : List ℕ) → Prints input (ascii "included\n" ++ rest)
    → ((refusal_in input).number ≡ 0)
    × ((w : List ℕ) → LeftTrace (sides_in input) w → RightTrace (sides_in input) w)
    × ((goals : List Row)
    × (rest ≡ counts_line (length goals) (length goals))
    × Differ goals
    × ((p S : ℕ) → Has goals p S ↔ ((w : List ℕ) × Reaches (sides_in input) w p S)))

-- `refuted`: line 3 is a trace of the left that the right lacks. Line 2 has the counts with which the run by the rules ends: a used row is
-- not settled, and no more than 1,024 are used.
abbrev pub SaysRefuted : Program → Type 0
SaysRefuted Prints =
    (input rest : List ℕ) → Prints input (ascii "refuted\n" ++ rest)
    → let st = ended_on (sides_in input) in
    ((refusal_in input).number ≡ 0)
    × ((w : List ℕ)
    × (rest ≡ counts_line st.settled (length st.rows) ++ trace_line w)
    × LeftTrace (sides_in input) w
    × (RightTrace (sides_in input) w → ⊥)
    × (st.settled < length st.rows)
    × (length st.rows ≤ 1024))

-- `no room`: the run by the rules is out of room: all 1,024 rows are used and not all are settled, and so 1 + m × 2^k is above 1,024.
abbrev pub SaysNoRoom : Program → Type 0
SaysNoRoom Prints =
    (input rest : List ℕ) → Prints input (ascii "no room\n" ++ rest)
    → let st = ended_on (sides_in input) in
    ((refusal_in input).number ≡ 0)
    × (rest ≡ counts_line st.settled 1024)
    × (st.outcome ≡ 3)
    × (length st.rows ≡ 1024)
    × (st.settled < 1024)
    × (1024 < most (sides_in input))

-- Never open: where there is a refusal, its line is printed and nothing else; else the output begins with one of the three.
abbrev pub NeverOpen : Program → Type 0
NeverOpen Prints =
    (input lines : List ℕ) → Prints input lines
    → (((refusal_in input).number ≢ 0) × (lines ≡ refused_line (refusal_in input)))
    ⊎ (((refusal_in input).number ≡ 0)
    × ((rest : List ℕ)
    × ((lines ≡ ascii "included\n" ++ rest) ⊎ ((lines ≡ ascii "refuted\n" ++ rest) ⊎ (lines ≡ ascii "no room\n" ++ rest)))))

pub record LinesMean (Prints : Program) : Type 0 where
  pub line_always : AlwaysPrints Prints
  pub line_included : SaysIncluded Prints
  pub line_refuted : SaysRefuted Prints
  pub line_no_room : SaysNoRoom Prints
  pub line_never_open : NeverOpen Prints

-- Line 2 can be read back: it tells both counts, and where it ends,
abbrev pub CountsTold : Type 0
CountsTold = (a b c d : ℕ) (behind behind' : List ℕ) → counts_line a b ++ behind ≡ counts_line c d ++ behind' → (a ≡ c) × (b ≡ d) × (behind ≡ behind')

-- and so can line 3: of letters below 2^8 it tells each,
abbrev pub LettersTold : Type 0
LettersTold = (v w : List ℕ) → Letters 8 v → Letters 8 w → trace_line v ≡ trace_line w → v ≡ w

-- and such are the letters of a trace.
abbrev pub TraceTold : Type 0
TraceTold =
    (input v w : List ℕ) → (refusal_in input).number ≡ 0 → LeftTrace (sides_in input) v → LeftTrace (sides_in input) w
    → trace_line v ≡ trace_line w → v ≡ w

-- the program that prints document 01's lines
abbrev pub prints_lines : Program
prints_lines input lines = lines ≡ lines_of input
