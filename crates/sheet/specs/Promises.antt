-- What `length_by_header` and `refusal_of` promise, by name (for `read` and `write`: `Reads` and `Writes`, in `Sheet.antt`): the contract cites
-- the name, and so does the line which says that any two results that meet it are equal (`proofs/Unique.antt`).
use Rattle.std.specs.Prelude.{ℕ, ◌≡◌, List, Option, Some, None, Result, Ok, Err}
use Rattle.sheet.specs.declared.Header.{Header}
use Rattle.sheet.specs.Sheet.{sheet_length, count_in}

abbrev pub LengthByHeaderIs : List ℕ → ℕ → Type 0
LengthByHeaderIs sheet r = r ≡ sheet_length (count_in sheet)

-- an accepted reading has no refusal, a refused one the number that it has, whatever that is
abbrev pub refused_by : Result Header ℕ → Option ℕ
refused_by (Ok h) = None
refused_by (Err number) = Some number

abbrev pub RefusalOfIs : Result Header ℕ → Option ℕ → Type 0
RefusalOfIs answer r = r ≡ refused_by answer
