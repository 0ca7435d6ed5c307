-- The loop has read the first k bits, which are below 2 ^ k.
use Prim.Native.Nat.{ℕ, ◌^◌, ◌<◌}
use mathlib.Core.Path.{◌≡◌}
use mathlib.Core.List.{List}
use lib.ListN.{get_or}
use Rattle.sheet.specs.Bits.{field}
use Rattle.sheet.proofs.number_of.Given as goal

abbrev pub invariant-loop-k : goal.invariant-loop-k
invariant-loop-k g l = (l.v < 2 ^ l.k) × ((bs : List ℕ) → ((i b : ℕ) → goal.F-post g l.bit i b → b ≡ get_or bs i 0) → l.v ≡ field bs l.o l.k)
