-- The loop has taken the nodes below k.
use Prim.Native.Nat.{ℕ, ◌+◌, ◌*◌, ◌<◌}
use mathlib.Core.Path.{◌≡◌}
use lib.ListN.{get_or}
use Rattle.sheet.specs.Bits.{each, field}
use Rattle.sheet.proofs.take_nodes.Given as goal

abbrev pub invariant-loop-k : goal.invariant-loop-k
invariant-loop-k l = (i : ℕ) → i < l.k → get_or l.node-items i 0 ≡ field (each 8 l.sheet) (12 + 19 * i) 19
