-- The two round trips of specs/RoundTrip. What was accepted says that the second call is accepted, and by `Again` its
-- result is the sheet, or the table, that the first call had; a promise has one result (`Unique`).
use Prim.Native.Nat.{ℕ, ◌^◌, ◌≤◌, ◌<◌}
use mathlib.Core.Path.{◌≡◌, sym, ap, ap₂, ◌∙◌}
use mathlib.Core.List.{List, [], ◌∷◌}
use native.Mathlib.Omega.{arith}
use lib.ListN.{length, get_or, take}
use lib.Seq.{take_at}
use Rattle.effect.specs.Node.{decodings}
use Rattle.effect.specs.Refusals.{table_refusal, front}
use Rattle.std.specs.Prelude.{Ok}
use Rattle.sheet.specs.Sheet.{sheet_length, sheet_of, signals_in, count_in, nodes_in, read_refusal, Left, left, reading, read_of, writing, write_of, Reads, Writes}
use Rattle.sheet.specs.RoundTrip.{Bytes, SheetAgain, TableAgain}
use Rattle.sheet.proofs.Front.{done, left-done}
use Rattle.sheet.proofs.Heading.{length-nodes}
use Rattle.sheet.proofs.Accepted.{FineHeader, Fine, header-none, side-none, read_none, write-none, numbers-small}
use Rattle.sheet.proofs.Calls.{read-side}
use Rattle.sheet.proofs.Again.{length-sheet_of, signals-again, count-again, nodes-again, filling-again, sheet-of}
use Rattle.sheet.proofs.Unique.{read_one, write-one}

-- an answer of number 0 was no refusal
done-left : (r : ℕ) (values values' result lent lent' : List ℕ) → done values lent' ≡ left r values' result lent → (r ≡ 0) × (done values lent' ≡ done values' (front result lent))
done-left r values values' result lent lent' e =
    let z : r ≡ 0 = sym (ap (λ (t : Left). t.answer.number) e) in
    (z, e ∙ left-done r values' result lent z)

value : (k : ℕ) (values values' lent lent' : List ℕ) → done values lent ≡ done values' lent' → get_or values k 0 ≡ get_or values' k 0
value k values values' lent lent' e = ap (λ (t : Left). get_or t.answer.values k 0) e

-- an accepted sheet: what is read from it is accepted, and its sheet is the sheet
module _ (sheet lent : List ℕ) (bytes : Bytes sheet) (none : read_refusal sheet (length lent) ≡ 0) where
  header : FineHeader sheet (length lent)
  header = ((read_none sheet (length lent)).0 none).0

  side : Fine (signals_in sheet) (nodes_in sheet)
  side = (side-none _ _).0 (sym (read-side sheet lent ((header-none sheet (length lent)).1 header)) ∙ none)

  written : (out : List ℕ) → length sheet ≤ length out → Writes (signals_in sheet) (nodes_in sheet) out (Ok (length sheet)) (front sheet out)
  unfolding writing write_of
  written out h =
      let n : sheet_length (length (nodes_in sheet)) ≡ length sheet = ap sheet_length (length-nodes sheet) ∙ sym header.size in
      sym
      (left-done _ _ (sheet_of (signals_in sheet) (nodes_in sheet)) out ((write-none (signals_in sheet) (nodes_in sheet) (length out)).1 (side, omega (arith, n, h)))
      ∙ ap₂ (λ (k : ℕ) (l : List ℕ). done (k ∷ []) (front l out)) n (sheet-of sheet header.size header.filled bytes))

pub sheet_again : SheetAgain Reads Writes
unfolding reading read_of
sheet_again sheet lent lent' out out' s n r bytes rd fits wr =
    let d = done-left _ _ _ (nodes_in sheet) lent lent' rd in
    let is : s ≡ signals_in sheet = value 0 _ _ _ _ d.1 in
    let many : n ≡ count_in sheet = value 1 _ _ _ _ d.1 in
    let nodes : take n lent' ≡ nodes_in sheet = ap₂ take many (ap (λ (t : Left). t.lent) d.1) ∙ take_at (nodes_in sheet) _ (count_in sheet) (length-nodes sheet) in
    write-one (signals_in sheet) (nodes_in sheet) out out' (front sheet out) r (Ok (length sheet))
    (wr ∙ ap₂ (λ (x : ℕ) (l : List ℕ). write_of x l out) is nodes)
    (written sheet lent bytes d.0 out fits)

-- an accepted table: its sheet is accepted, and what is read from it is the table
module _ (s : ℕ) (ns : List ℕ) (side : Fine s ns) where
  few : length ns < 2 ^ 8
  few = omega (arith, side.few)

  signals : signals_in (sheet_of s ns) ≡ s
  signals = signals-again s ns (omega (arith, side.signals))

  many : count_in (sheet_of s ns) ≡ length ns
  many = count-again s ns few

  nodes : nodes_in (sheet_of s ns) ≡ ns
  nodes = nodes-again s ns few (numbers-small s ns side.table)

  header-back : (lent : ℕ) → length ns ≤ lent → FineHeader (sheet_of s ns) lent
  header-back lent h =
      record {
        long = (let z : length ns ≡ 0 → ⊥ = side.some in omega (arith, length-sheet_of s ns, z));
        signals = rw signals side.signals;
        some = rw many side.some;
        size = length-sheet_of s ns ∙ ap sheet_length (sym many);
        filled = filling-again s ns few;
        room = rw many h;
      }

  read_back : (lent : List ℕ) → length ns ≤ length lent → Reads (sheet_of s ns) lent (Ok (record { s = s; nodes = length ns })) (front ns lent)
  unfolding reading read_of
  read_back lent h =
      sym
      (left-done _ _ (nodes_in (sheet_of s ns)) lent ((read_none (sheet_of s ns) (length lent)).1 (header-back (length lent) h, ap₂ (λ (x : ℕ) (l : List ℕ). table_refusal x (decodings l)) signals nodes ∙ side.table))
      ∙ (let e : done (signals_in (sheet_of s ns) ∷ count_in (sheet_of s ns) ∷ []) (front (nodes_in (sheet_of s ns)) lent) ≡ done (s ∷ length ns ∷ []) (front ns lent) = rw (signals, many, nodes) in e))

pub table_again : TableAgain Reads Writes
unfolding writing write_of
table_again s ns out out' lent lent' k r wr fits rd =
    let d = done-left _ _ _ (sheet_of s ns) out out' wr in
    let a = (write-none s ns (length out)).0 d.0 in
    let long : k ≡ sheet_length (length ns) = value 0 _ _ _ _ d.1 in
    let sheet : take k out' ≡ sheet_of s ns = ap₂ take long (ap (λ (t : Left). t.lent) d.1) ∙ take_at (sheet_of s ns) _ (sheet_length (length ns)) (length-sheet_of s ns) in
    read_one (sheet_of s ns) lent lent' (front ns lent) r (Ok (record { s = s; nodes = length ns }))
    (rd ∙ ap (λ (l : List ℕ). read_of l lent) sheet)
    (read_back s ns a.0 lent fits)
