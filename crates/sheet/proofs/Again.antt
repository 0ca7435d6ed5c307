-- The sheet of a table, read: s, the number of nodes, the nodes, and no filling bit. And a sheet of the right length
-- with no filling bit is the sheet of what is read from it. Both by the bits: those of a sheet's bytes are the bits
-- that were packed, and a field's digits are the bits that it was read from.
use Prim.Native.Nat.{ℕ, ◌+◌, ◌-◌, ◌*◌, ◌/◌, ◌%◌, ◌^◌, ◌<◌, ◌≤◌}
use mathlib.Core.Path.{◌≡◌, sym, ap, ap₂, ◌∙◌}
use mathlib.Core.Bool.{false}
use mathlib.Core.Logic.{⊎_elim}
use mathlib.Core.List.{List}
use native.Mathlib.Omega.{arith}
use lib.Dec.{eqb}
use lib.ListN.{length, get_or, get_or-eq_default}
use lib.Seq.{ext_get_or}
use borrow.Author.Tests.{ne_eqb, eqb-false}
use Rattle.std.proofs.lemmas.Bool.{cases_lt}
use Rattle.bits.specs.Bit.{bit}
use Rattle.effect.proofs.Laws.{below_none}
use Rattle.sheet.specs.Bits.{each, field}
use Rattle.sheet.specs.Sheet.{used_bits, sheet_length, filling_bits, sheet_bits, sheet_of, signals_in, count_in, nodes_in, filling_set}
use Rattle.sheet.specs.RoundTrip.{Bytes}
use Rattle.sheet.proofs.Fields.{length-each, each_at, each-bit, byte-bits, digit-of-field, field-of-digits, length_fields, getD-fields, fields-of-digits, packed, unpacked}
use Rattle.sheet.proofs.Heading.{length-nodes}
use Rattle.sheet.proofs.SheetBits.{length-sheet_bits, signals-bit, count-bit, node-bit, sheet_bits-bits}

module _ (s : ℕ) (ns : List ℕ) where
  pub length-sheet_of : length (sheet_of s ns) ≡ sheet_length (length ns)
  unfolding sheet_of
  length-sheet_of = length_fields (sheet_bits s ns) 0 8 (sheet_length (length ns))

  pub bits-again : each 8 (sheet_of s ns) ≡ sheet_bits s ns
  unfolding sheet_of
  bits-again = packed 8 (sheet_bits s ns) (sheet_length (length ns)) (omega arith) (sheet_bits-bits s ns) (length-sheet_bits s ns)

  pub signals-again : s < 2 ^ 4 → signals_in (sheet_of s ns) ≡ s
  unfolding signals_in
  signals-again h =
      rw bits-again (field-of-digits (sheet_bits s ns) 0 4 s h (λ k l. signals-bit s ns (0 + k) (omega arith) ∙ ap (bit s) (omega arith)))

  pub count-again : length ns < 2 ^ 8 → count_in (sheet_of s ns) ≡ length ns
  unfolding count_in
  count-again h =
      rw bits-again (field-of-digits (sheet_bits s ns) 4 8 (length ns) h (λ k l. count-bit s ns (4 + k) (omega arith) (omega arith) ∙ ap (bit (length ns)) (omega arith)))

  pub nodes-again : length ns < 2 ^ 8 → ((k : ℕ) → get_or ns k 0 < 2 ^ 19) → nodes_in (sheet_of s ns) ≡ ns
  unfolding nodes_in
  nodes-again h small =
      rw (bits-again, count-again h)
      (fields-of-digits (sheet_bits s ns) 12 19 ns small
      (λ k j l m. node-bit s ns (12 + 19 * k + j) (omega arith) ∙ ap (λ (i : ℕ). get_or (each 19 ns) i 0) (let z : 12 + 19 * k + j - 12 ≡ 19 * k + j = omega arith in z) ∙ each_at 19 ns k j m))

  pub filling-again : length ns < 2 ^ 8 → filling_set (sheet_of s ns) ≡ false
  unfolding filling_set
  filling-again h =
      rw (count-again h, bits-again)
      ((below_none (λ k. eqb (get_or (sheet_bits s ns) (used_bits (length ns) + k) 0) 1) (filling_bits (length ns))).1
      (λ k l. ne_eqb (get_or (sheet_bits s ns) (used_bits (length ns) + k) 0) 1 (λ e. let z = node-bit s ns (used_bits (length ns) + k) (omega arith) ∙ get_or-eq_default (each 19 ns) 0 (omega (arith, length-each 19 ns)) in omega arith)))

-- a sheet that is as long as the formula says and has no filling bit
module _ (sheet : List ℕ) (size : length sheet ≡ sheet_length (count_in sheet)) (filled : filling_set sheet ≡ false) where
  -- bit k of a field of the sheet
  bit_in : (o w k : ℕ) → k < w → bit (field (each 8 sheet) o w) (w - (k + 1)) ≡ get_or (each 8 sheet) (o + k) 0
  bit_in o w k h = digit-of-field (each 8 sheet) (byte-bits sheet) o w k h

  -- bit i of the nodes
  node_in : (i : ℕ) → i < 19 * count_in sheet → get_or (each 19 (nodes_in sheet)) i 0 ≡ get_or (each 8 sheet) (12 + i) 0
  unfolding nodes_in
  node_in i h =
      each-bit 19 (nodes_in sheet) i (omega arith)
      ∙ ap (λ (v : ℕ). bit v (19 - (i % 19 + 1))) (getD-fields (each 8 sheet) 12 19 (count_in sheet) (i / 19) (omega arith))
      ∙ bit_in (12 + 19 * (i / 19)) 19 (i % 19) (omega arith)
      ∙ ap (λ (k : ℕ). get_or (each 8 sheet) k 0) (omega arith)

  -- a bit past the nodes
  filling-in : (i : ℕ) → 19 * count_in sheet ≤ i → 12 + i < 8 * length sheet → get_or (each 8 sheet) (12 + i) 0 ≡ 0
  unfolding filling_set
  filling-in i h l =
      let k = i - 19 * count_in sheet in
      let f : get_or (each 8 sheet) (used_bits (count_in sheet) + k) 0 ≡ 1 → ⊥ = eqb-false _ 1 ((below_none (λ k. eqb (get_or (each 8 sheet) (used_bits (count_in sheet) + k) 0) 1) (filling_bits (count_in sheet))).0 filled k (omega arith)) in
      let e : used_bits (count_in sheet) + k ≡ 12 + i = omega arith in
      let g : get_or (each 8 sheet) (12 + i) 0 ≡ 1 → ⊥ = λ q. f (ap (λ (j : ℕ). get_or (each 8 sheet) j 0) e ∙ q) in
      omega (arith, g, byte-bits sheet (12 + i))

  bits_of : sheet_bits (signals_in sheet) (nodes_in sheet) ≡ each 8 sheet
  unfolding signals_in count_in
  bits_of = ext_get_or 0 bits (each 8 sheet) (omega (arith, long, length-each 8 sheet)) (λ i h. same i (omega (arith, long)))
    where
      s : ℕ
      s = signals_in sheet

      ns : List ℕ
      ns = nodes_in sheet

      bits : List ℕ
      bits = sheet_bits s ns

      long : length bits ≡ 8 * length sheet
      long = length-sheet_bits s ns ∙ ap (λ (n : ℕ). 8 * n) (ap sheet_length (length-nodes sheet) ∙ sym size)

      same : (i : ℕ) → i < 8 * length sheet → get_or bits i 0 ≡ get_or (each 8 sheet) i 0
      same i h =
          ⊎_elim
          (λ l. signals-bit s ns i l ∙ ap (bit s) (let z : 3 - i ≡ 4 - (i + 1) = omega arith in z) ∙ bit_in 0 4 i l ∙ ap (λ (k : ℕ). get_or (each 8 sheet) k 0) (omega arith))
          (λ g.
          ⊎_elim
          (λ l. count-bit s ns i g l ∙ ap₂ bit (length-nodes sheet) (let z : 11 - i ≡ 8 - (i - 4 + 1) = omega arith in z) ∙ bit_in 4 8 (i - 4) (omega arith) ∙ ap (λ (k : ℕ). get_or (each 8 sheet) k 0) (omega arith))
          (λ m. node-bit s ns i m ∙ rest (i - 12) (omega arith) ∙ ap (λ (k : ℕ). get_or (each 8 sheet) k 0) (omega arith))
          (cases_lt i 12))
          (cases_lt i 4)
        where
          rest : (j : ℕ) → 12 + j < 8 * length sheet → get_or (each 19 ns) j 0 ≡ get_or (each 8 sheet) (12 + j) 0
          rest j l =
              ⊎_elim (node_in j)
              (λ m. get_or-eq_default (each 19 ns) 0 (omega (arith, length-each 19 ns, length-nodes sheet)) ∙ sym (filling-in j m l))
              (cases_lt j (19 * count_in sheet))

  pub sheet-of : Bytes sheet → sheet_of (signals_in sheet) (nodes_in sheet) ≡ sheet
  unfolding sheet_of
  sheet-of bytes = rw (bits_of, length-nodes sheet, ← size) (unpacked 8 sheet bytes)
