-- `columns::trace_length`. The loop keeps: the rows counted and those still above row 0 are the whole way.
use Prim.Native.Nat.{◌<◌}
use mathlib.Core.Path.{ap}
use mathlib.Core.List.{[]}
use native.Mathlib.Omega.{arith}
use lib.ListN.{length, get_or}
use Rattle.columns.proofs.Climbing.{climb-end, parent-below, climb-short, climb-longer}
use Rattle.columns.proofs.trace_length.Goals as goal
use Rattle.columns.proofs.trace_length.Goals.{In-loop-i}

pub overflow_add-n : goal.overflow_add-n
overflow_add-n c =
    let a = c.args in
    omega (arith, climb-short a.parents.now [] a.row a.row)

below : (c : In-loop-i) → get_or c.args.parents.now c.loop-i.i 0 < c.loop-i.i
below c =
    parent-below
    c.args.parents.now _ c.loop-i.i c.requires.3 c.loop-i.invariant.0
    c.loop-i-test.true

pub loop-i-preserved : goal.loop-i-preserved
loop-i-preserved c =
    let longer = climb-longer c.args.parents.now [] _ c.loop-i.i c.requires.3 c.loop-i.invariant.0 c.loop-i-test.true in
    (omega (arith, below (goal.at.loop-i-preserved c).In-loop-i), omega (arith, longer))

pub returns : goal.returns
returns c =
    omega (arith, ap length (climb-end c.args.parents.now [] c.loop-i.i c.loop-i-test.false))
