-- What stands in the header of a sheet: how large its numbers can be, how many nodes are read, and rule 5 as one field.
use Prim.Native.Nat.{ℕ, ◌^◌, ◌<◌}
use mathlib.Core.Path.{◌≡◌, refl}
use mathlib.Core.Bool.{not}
use mathlib.Core.List.{List}
use lib.Dec.{eqb}
use lib.ListN.{length}
use Rattle.sheet.specs.Bits.{each, field}
use Rattle.sheet.specs.Sheet.{used_bits, filling_bits, signals_in, count_in, nodes_in, filling_set}
use Rattle.sheet.proofs.Fields.{byte-bits, field_lt, field-some, length_fields}

-- a number read of a sheet is below 2 to its width
pub read-lt : (sheet : List ℕ) (o w r : ℕ) → r ≡ field (each 8 sheet) o w → r < 2 ^ w
read-lt sheet o w r e = rw e (field_lt (each 8 sheet) (byte-bits sheet) o w)

pub signals-lt : (sheet : List ℕ) → signals_in sheet < 2 ^ 4
unfolding signals_in
signals-lt sheet = read-lt sheet 0 4 _ refl

pub count-lt : (sheet : List ℕ) → count_in sheet < 2 ^ 8
unfolding count_in
count-lt sheet = read-lt sheet 4 8 _ refl

pub length-nodes : (sheet : List ℕ) → length (nodes_in sheet) ≡ count_in sheet
unfolding nodes_in
length-nodes sheet = length_fields (each 8 sheet) 12 19 (count_in sheet)

-- a filling bit is set exactly when the filling read as a number is not 0
pub filling-field : (sheet : List ℕ) → filling_set sheet ≡ not (eqb (field (each 8 sheet) (used_bits (count_in sheet)) (filling_bits (count_in sheet))) 0)
unfolding filling_set
filling-field sheet = field-some (each 8 sheet) (byte-bits sheet) (used_bits (count_in sheet)) (filling_bits (count_in sheet))
