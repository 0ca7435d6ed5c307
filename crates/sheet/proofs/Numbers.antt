-- A number that the rules of reader and writer give is 0, which is none, or the number of a refusal: so there is a refusal to answer.
use Prim.Native.Nat.{ℕ, zero, suc}
use mathlib.Core.Path.{◌≡◌, refl}
use mathlib.Core.Bool.{Bool, true, false, cond}
use mathlib.Core.Logic.{◌≢◌}
use mathlib.Core.List.{List, [], ◌∷◌}
use lib.Dec.{eqb}
use lib.ListN.{length}
use Rattle.std.specs.Prelude.{Option, Some, None}
use Rattle.effect.specs.declared.Node.{Node}
use Rattle.effect.specs.declared.Refusal.{Refusal}
use Rattle.effect.specs.declared.Refusal.TheVariants.{SheetTooShort, SignalsAboveEight, NodeCount, SheetLength, FillingBit, TableTooShort, NoSuchNode, SignalBeyond, ChildNotBelow, ChildTaken, NobodysChild, TooManyInstants, OutputTooShort}
use Rattle.effect.specs.Node.{decodings}
use Rattle.effect.specs.Refusals.{refusal_number, rule, lowest, lowest_node, node_refusal, refusal_at, table_refusal, side_refusal}
use Rattle.sheet.specs.Sheet.{signals_in, nodes_in, header_refusal, read_refusal, write_refusal}

abbrev pub IsNumber : ℕ → Type 0
IsNumber n = n ≢ 0 → (r : Refusal) × (refusal_number r ≡ n)

none : IsNumber 0
none h = absurd (h refl)

-- a row of the table
row : (r : Refusal) (b : Bool) → IsNumber (rule (refusal_number r) b)
row r true h = (r, refl)
row r false h = absurd (h refl)

either : (b : Bool) (x y : ℕ) → IsNumber x → IsNumber y → IsNumber (cond b x y)
either true x y p q = p
either false x y p q = q

abbrev AreNumbers : List ℕ → Type 0
AreNumbers [] = Unit {0}
AreNumbers (n ∷ ns) = IsNumber n × AreNumbers ns

lowest-number : (ns : List ℕ) → AreNumbers ns → IsNumber (lowest ns)
unfolding lowest
lowest-number [] p = none
lowest-number (n ∷ ns) p = either (eqb n 0) (lowest ns) n (lowest-number ns p.1) p.0

nodes-number : (f : ℕ → ℕ) → ((i : ℕ) → IsNumber (f i)) → (n : ℕ) → IsNumber (lowest_node f n)
unfolding lowest_node
nodes-number f p zero = none
nodes-number f p (suc n) = either (eqb (lowest_node f n) 0) (f n) (lowest_node f n) (p n) (nodes-number f p n)

-- 7 to 10, 7 to 12, and those of a side
node-number : (s i : ℕ) (taken : ℕ → Bool) (d : Option Node) → IsNumber (node_refusal s i taken d)
unfolding node_refusal
node-number s i taken None = λ h. (NoSuchNode, refl)
node-number s i taken (Some n) = lowest-number _ (row SignalBeyond _, (row ChildNotBelow _, (row ChildTaken _, tt)))

table-number : (s : ℕ) (ds : List (Option Node)) → IsNumber (table_refusal s ds)
unfolding table_refusal refusal_at
table-number s ds =
    lowest-number _ (nodes-number _ (λ i. node-number s i _ _) (length ds), (row NobodysChild _, (row TooManyInstants _, tt)))

side-number : (s : ℕ) (ds : List (Option Node)) → IsNumber (side_refusal s ds)
unfolding side_refusal
side-number s ds = lowest-number _ (row SignalsAboveEight _, (row NodeCount _, (table-number s ds, tt)))

-- of the reader, and of the writer
header-number : (sheet : List ℕ) (lent : ℕ) → IsNumber (header_refusal sheet lent)
unfolding header_refusal
header-number sheet lent =
    lowest-number _
    (row SheetTooShort _, (row SignalsAboveEight _, (row NodeCount _, (row SheetLength _, (row FillingBit _, (row TableTooShort _, tt))))))

pub read-number : (sheet : List ℕ) (lent : ℕ) → IsNumber (read_refusal sheet lent)
unfolding read_refusal
read-number sheet lent =
    lowest-number _ (header-number sheet lent, (table-number (signals_in sheet) (decodings (nodes_in sheet)), tt))

pub write-number : (s : ℕ) (ns : List ℕ) (room : ℕ) → IsNumber (write_refusal s ns room)
unfolding write_refusal
write-number s ns room = lowest-number _ (side-number s (decodings ns), (row OutputTooShort _, tt))
