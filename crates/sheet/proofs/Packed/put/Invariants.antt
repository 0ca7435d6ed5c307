-- The loop has put the bytes below k.
use Prim.Native.Nat.{ℕ, ◌+◌, ◌*◌, ◌<◌}
use mathlib.Core.Path.{◌≡◌}
use lib.ListN.{get_or}
use Rattle.sheet.specs.Bits.{field}
use Rattle.sheet.specs.Sheet.{sheet_bits}
use Rattle.sheet.proofs.Packed.put.Given as goal

abbrev pub invariant-loop-k : goal.invariant-loop-k
invariant-loop-k l = (i : ℕ) → i < l.k → get_or l.byte-items i 0 ≡ field (sheet_bits l.self.s l.self.nodes.now) (0 + 8 * i) 8
