-- The lines of the program's output. "Each line ends in a line feed."
use Rattle.std.specs.Prelude.{ℕ, zero, suc, ◌/◌, ◌%◌, true, false, cond, List, [], ◌∷◌, ◌++◌, eqb, ltb, length, get_or}
use Prim.Native.Char.{code}
use Prim.Native.String.{String, [] as ends, ◌∷◌ as ◌then◌}
use Rattle.goals.specs.Run.{State, trace_of}
use Rattle.goals.specs.Refusals.{Against}

-- the bytes of a text of ASCII characters
unfoldable pub ascii : String → List ℕ
ascii ends = []
ascii (c then text) = code c ∷ ascii text

-- the digit for d, which is below 10 in decimal and below 16 in hex: "lower-case hex digits"
unfoldable pub digit : ℕ → ℕ
digit d = get_or (ascii "0123456789abcdef") d 0

-- n in decimal: the digits of n / 10, then that of n % 10. Each round leaves a lesser number, so n rounds are enough.
unfoldable pub decimal_in : ℕ → ℕ → List ℕ
decimal_in zero n = digit n ∷ []
decimal_in (suc f) n = elim (ltb n 10) [ true ↦ digit n ∷ [] | false ↦ decimal_in f (n / 10) ++ (digit (n % 10) ∷ []) ]

abbrev pub decimal : ℕ → List ℕ
decimal n = decimal_in n n

-- the letters of line 3
unfoldable pub letter : ℕ → List ℕ
letter x = ascii " " ++ (digit (x / 16) ∷ digit (x % 16) ∷ [])

unfoldable pub letters : List ℕ → List ℕ
letters [] = []
letters (x ∷ word) = letter x ++ letters word

-- "Line 1 is `included`, `refuted`, `no room`": outcomes 1, 2 and 3 (0 cannot come out: `never-open`)
unfoldable pub outcome_line : ℕ → List ℕ
outcome_line o = cond (eqb o 1) (ascii "included\n") (cond (eqb o 2) (ascii "refuted\n") (ascii "no room\n"))

-- "or `refused SIDE NUMBER`, SIDE being left, right or both"
unfoldable pub side_text : ℕ → List ℕ
side_text side = cond (eqb side 1) (ascii "left") (cond (eqb side 2) (ascii "right") (ascii "both"))

unfoldable pub refused_line : Against → List ℕ
refused_line why = ascii "refused " ++ side_text why.side ++ ascii " " ++ decimal why.number ++ ascii "\n"

-- "Line 2, unless refused: `settled A of B rows`, B being used."
unfoldable pub counts_line : ℕ → ℕ → List ℕ
counts_line settled used = ascii "settled " ++ decimal settled ++ ascii " of " ++ decimal used ++ ascii " rows\n"

-- "Line 3, if refuted: `trace`, then a space and two lower-case hex digits for each letter."
unfoldable pub trace_line : List ℕ → List ℕ
trace_line word = ascii "trace" ++ letters word ++ ascii "\n"

-- the lines of a run that ended in the state
unfoldable pub ended_lines : State → List ℕ
ended_lines st =
    outcome_line st.outcome
    ++ counts_line st.settled (length st.rows)
    ++ cond (eqb st.outcome 2) (trace_line (trace_of st.rows st.settled)) []
