-- The effect sheet, its reader and its writer, with refusals 1 to 13.
use Rattle.std.specs.Prelude.{ℕ, ◌+◌, ◌-◌, ◌*◌, ◌/◌, ◌≡◌, Bool, cond, not, List, [], ◌∷◌, ◌++◌, ltb, eqb, length, get_or, replicate, Result, Ok, Err}
use Rattle.effect.specs.Node.{decodings}
use Rattle.effect.specs.Refusals.{refusal_number, rule, lowest, some_below, table_refusal, side_refusal, Answer, answered, front}
use Rattle.effect.specs.declared.Refusal.{Refusal}
use Rattle.sheet.specs.declared.Header.{Header}
use Rattle.sheet.specs.Bits.{digits, each, field, fields}

-- "s in 4 bits, node count N in 8, then N nodes of 19 bits": how many bits N nodes take
abbrev pub used_bits : ℕ → ℕ
used_bits n = 12 + 19 * n

-- "exactly ceil((12 + 19 × N) / 8) bytes"
abbrev pub sheet_length : ℕ → ℕ
sheet_length n = (used_bits n + 7) / 8

-- "then zero bits to the byte"
abbrev pub filling_bits : ℕ → ℕ
filling_bits n = 8 * sheet_length n - used_bits n

-- the bits of the sheet of s and the nodes ns
unfoldable pub sheet_bits : ℕ → List ℕ → List ℕ
sheet_bits s ns = digits 4 s ++ (digits 8 (length ns) ++ (each 19 ns ++ replicate (filling_bits (length ns)) 0))

-- the sheet of s and the nodes ns
unfoldable pub sheet_of : ℕ → List ℕ → List ℕ
sheet_of s ns = fields (sheet_bits s ns) 0 8 (sheet_length (length ns))

-- what stands in a sheet: s, N, and the N nodes
unfoldable pub signals_in : List ℕ → ℕ
signals_in sheet = field (each 8 sheet) 0 4

unfoldable pub count_in : List ℕ → ℕ
count_in sheet = field (each 8 sheet) 4 8

unfoldable pub nodes_in : List ℕ → List ℕ
nodes_in sheet = fields (each 8 sheet) 12 19 (count_in sheet)

-- "a filling bit is set"
unfoldable pub filling_set : List ℕ → Bool
filling_set sheet =
    let n = count_in sheet in
    some_below (filling_bits n) (λ k. eqb (get_or (each 8 sheet) (used_bits n + k) 0) 1)

-- 1 to 6, for a table lent of that many entries
unfoldable pub header_refusal : List ℕ → ℕ → ℕ
header_refusal sheet lent =
    let n = count_in sheet in
    lowest
    -- "sheet under 2 bytes"
    (rule 1 (ltb (length sheet) 2)
    -- "s above 8"
    ∷ rule 2 (ltb 8 (signals_in sheet))
    -- "no node"
    ∷ rule 3 (eqb n 0)
    -- "sheet length differs from the formula"
    ∷ rule 4 (not (eqb (length sheet) (sheet_length n)))
    ∷ rule 5 (filling_set sheet)
    -- "node table lent to the reader is shorter than N"
    ∷ rule 6 (ltb lent n)
    ∷ [])

-- "The reader gives 1 to 12"
unfoldable pub read_refusal : List ℕ → ℕ → ℕ
read_refusal sheet lent = lowest (header_refusal sheet lent ∷ table_refusal (signals_in sheet) (decodings (nodes_in sheet)) ∷ [])

-- "the writer 2, 3 and 7 to 13", for an output of that many bytes
unfoldable pub write_refusal : ℕ → List ℕ → ℕ → ℕ
write_refusal s ns room =
    lowest
    (side_refusal s (decodings ns)
    -- "output too short for the sheet"
    ∷ rule 13 (ltb room (sheet_length (length ns)))
    ∷ [])

-- What a call leaves: its answer, and the lent table or output at exit.
pub record Left : Type 0 where
  pub answer : Answer
  pub lent : List ℕ

abbrev pub exit : Answer → List ℕ → Left
exit a l = record { answer = a; lent = l }

-- "A refusal changes no lent buffer, table or record"; else the result is at the front, and reader and writer "leave what lies
-- beyond their result unchanged"
abbrev pub left : ℕ → List ℕ → List ℕ → List ℕ → Left
left refusal values result lent = exit (answered refusal values) (cond (eqb refusal 0) (front result lent) lent)

-- the number and values of each case of what `read` answers: s and N, or a refusal
unfoldable pub reading : Result Header Refusal → Answer
reading (Ok h) = record { number = 0; values = h.s ∷ h.nodes ∷ [] }
reading (Err r) = record { number = refusal_number r; values = [] }

unfoldable pub read_of : List ℕ → List ℕ → Left
read_of sheet lent = left (read_refusal sheet (length lent)) (signals_in sheet ∷ count_in sheet ∷ []) (nodes_in sheet) lent

-- the promise of `read`: what it answers and what it leaves in the table lent
abbrev pub Reads : List ℕ → List ℕ → Result Header Refusal → List ℕ → Type 0
Reads sheet lent r lent' = exit (reading r) lent' ≡ read_of sheet lent

-- the number and values of each case of what `write` answers: the sheet's length, or a refusal
unfoldable pub writing : Result ℕ Refusal → Answer
writing (Ok n) = record { number = 0; values = n ∷ [] }
writing (Err r) = record { number = refusal_number r; values = [] }

unfoldable pub write_of : ℕ → List ℕ → List ℕ → Left
write_of s ns out = left (write_refusal s ns (length out)) (sheet_length (length ns) ∷ []) (sheet_of s ns) out

-- the promise of `write`: what it answers and what it leaves in the output lent
abbrev pub Writes : ℕ → List ℕ → List ℕ → Result ℕ Refusal → List ℕ → Type 0
Writes s ns out r out' = exit (writing r) out' ≡ write_of s ns out
