-- Demand 2's round trips, of any reader and writer; those that meet the promises of `read` and `write` have both. Neither is
-- vacuous: the second call is accepted whenever what is lent to it is long enough.
use Rattle.std.specs.Prelude.{ℕ, ◌^◌, ◌≤◌, ◌<◌, ◌≡◌, List, length, get_or, take, Result, Ok}
use Rattle.effect.specs.declared.Refusal.{Refusal}
use Rattle.effect.specs.Refusals.{front}
use Rattle.sheet.specs.declared.Header.{Header}

-- what a reader is given, answers and leaves: the sheet, the node table lent, the answer, the table at exit
abbrev pub ReadCall : Type 1
ReadCall = List ℕ → List ℕ → Result Header Refusal → List ℕ → Type 0

-- and a writer: s, the nodes, the output lent, the answer, the output at exit
abbrev pub WriteCall : Type 1
WriteCall = ℕ → List ℕ → List ℕ → Result ℕ Refusal → List ℕ → Type 0

-- every entry is a byte, as those of a `&[u8]` are
abbrev pub Bytes : List ℕ → Type 0
Bytes l = (k : ℕ) → get_or l k 0 < 2 ^ 8

-- "An accepted sheet read and written again is the same sheet."
abbrev pub SheetAgain : ReadCall → WriteCall → Type 0
SheetAgain Reads Writes =
    (sheet lent lent' out out' : List ℕ) (s n : ℕ) (r : Result ℕ Refusal)
    → Bytes sheet
    → Reads sheet lent (Ok (record { s = s; nodes = n })) lent'
    → length sheet ≤ length out
    → Writes s (take n lent') out r out'
    → (r ≡ Ok (length sheet)) × (out' ≡ front sheet out)

-- "An accepted node table written and read again is the same table", and the same s.
abbrev pub TableAgain : ReadCall → WriteCall → Type 0
TableAgain Reads Writes =
    (s : ℕ) (ns out out' lent lent' : List ℕ) (k : ℕ) (r : Result Header Refusal)
    → Writes s ns out (Ok k) out'
    → length ns ≤ length lent
    → Reads (take k out') lent r lent'
    → (r ≡ Ok (record { s = s; nodes = length ns })) × (lent' ≡ front ns lent)
