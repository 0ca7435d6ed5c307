-- The bits of a sheet, one at a time: 4 of s, 8 of the number of nodes, 19 of each node, and zeros from there on.
use Prim.Native.Nat.{ℕ, ◌-◌, ◌*◌, ◌<◌, ◌≤◌}
use mathlib.Core.Path.{◌≡◌, ap, ◌∙◌}
use mathlib.Core.Logic.{⊎_elim}
use mathlib.Core.List.{List}
use native.Mathlib.Omega.{arith}
use lib.ListN.{length, get_or, length-append, length-replicate, get_or-append}
use Rattle.std.proofs.lemmas.Bool.{cases_lt}
use Rattle.std.proofs.lemmas.List.{get_or-append_right}
use Rattle.bits.specs.Bit.{bit}
use Rattle.bits.proofs.Laws.{bit-lt}
use Rattle.sheet.specs.Bits.{digits, each}
use Rattle.sheet.specs.Sheet.{sheet_bits, sheet_length, filling_bits}
use Rattle.sheet.proofs.Fields.{AreBits, getD-zeros, length_digits, getD-digits, length-each, each_bits}

module _ (s : ℕ) (ns : List ℕ) where
  pub length-sheet_bits : length (sheet_bits s ns) ≡ 8 * sheet_length (length ns)
  unfolding sheet_bits
  length-sheet_bits =
      simp (length-append, length_digits, length-each, length-replicate) (omega arith)

  pub signals-bit : (i : ℕ) → i < 4 → get_or (sheet_bits s ns) i 0 ≡ bit s (3 - i)
  unfolding sheet_bits
  signals-bit i h =
      get_or-append (digits 4 s) _ 0 i (omega (arith, length_digits 4 s))
      ∙ getD-digits 4 s i h
      ∙ ap (bit s) (omega arith)

  pub count-bit : (i : ℕ) → 4 ≤ i → i < 12 → get_or (sheet_bits s ns) i 0 ≡ bit (length ns) (11 - i)
  unfolding sheet_bits
  count-bit i h l =
      get_or-append_right (digits 4 s) _ 4 i 0 (length_digits 4 s) h
      ∙ get_or-append (digits 8 (length ns)) _ 0 (i - 4) (omega (arith, length_digits 8 (length ns)))
      ∙ getD-digits 8 (length ns) (i - 4) (omega arith)
      ∙ ap (bit (length ns)) (omega arith)

  pub node-bit : (i : ℕ) → 12 ≤ i → get_or (sheet_bits s ns) i 0 ≡ get_or (each 19 ns) (i - 12) 0
  unfolding sheet_bits
  node-bit i h =
      get_or-append_right (digits 4 s) _ 4 i 0 (length_digits 4 s) (omega arith)
      ∙ get_or-append_right (digits 8 (length ns)) _ 8 (i - 4) 0 (length_digits 8 (length ns)) (omega arith)
      ∙ getD-zeros (each 19 ns) (filling_bits (length ns)) (i - 4 - 8)
      ∙ ap (λ (k : ℕ). get_or (each 19 ns) k 0) (omega arith)

  pub sheet_bits-bits : AreBits (sheet_bits s ns)
  sheet_bits-bits i =
      ⊎_elim (λ h. rw (signals-bit i h) (bit-lt s (3 - i)))
      (λ h. ⊎_elim (λ l. rw (count-bit i h l) (bit-lt (length ns) (11 - i))) (λ l. rw (node-bit i l) (each_bits 19 ns (omega arith) (i - 12))) (cases_lt i 12))
      (cases_lt i 4)
