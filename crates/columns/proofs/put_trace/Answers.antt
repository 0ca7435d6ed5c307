-- `columns::put_trace`. The loop keeps: the way to row i at the front of the buffer is the whole way at the front of the buffer as it was lent.
use Prim.Native.Nat.{ℕ, suc, ◌<◌}
use mathlib.Core.Path.{◌≡◌, sym, ap, ◌∙◌}
use mathlib.Core.List.{List}
use native.Mathlib.Omega.{arith}
use lib.ListN.{length, get_or, length-set}
use Rattle.effect.specs.Refusals.{front}
use Rattle.columns.specs.Core.{climb}
use Rattle.columns.proofs.Climbing.{climb-end, parent-below, climb-longer, front-climb}
use Rattle.columns.proofs.put_trace.Goals as goal
use Rattle.columns.proofs.put_trace.Goals.{In-loop-i}

longer : (c : In-loop-i) → let a = c.args in let i = c.loop-i.i in let p = get_or a.parents.now i 0 in
    length (climb a.parents.now a.letters.now i i) ≡ suc (length (climb a.parents.now a.letters.now p p))
longer c =
    climb-longer c.args.parents.now c.args.letters.now _ c.loop-i.i c.requires.rows.3 c.loop-i.invariant.0 c.loop-i-test.true

pub overflow_sub-k : goal.overflow_sub-k
overflow_sub-k c = omega (arith, longer c)

pub bounds-out-k : goal.bounds-out-k
bounds-out-k c = omega (arith, longer (goal.at.bounds-out-k c).In-loop-i)

below : (c : In-loop-i) → get_or c.args.parents.now c.loop-i.i 0 < c.loop-i.i
below c =
    parent-below
    c.args.parents.now _ c.loop-i.i c.requires.rows.3 c.loop-i.invariant.0
    c.loop-i-test.true

pub loop-i-preserved : goal.loop-i-preserved
loop-i-preserved c = (
  omega (arith, below (goal.at.loop-i-preserved c).In-loop-i),
  omega (arith, longer (goal.at.loop-i-preserved c).In-loop-i),
  simp length-set (omega arith),
  simp length-set c.loop-i.invariant.3,
  front-climb c.args.parents.now c.args.letters.now c.loop-i.out _ c.loop-i.i c.loop-i.k c.requires.rows.3 c.loop-i.invariant.0 c.loop-i-test.true c.loop-i.invariant.1 c.loop-i.invariant.2 ∙ c.loop-i.invariant.4,
)

pub returns : goal.returns
returns c =
    let a = c.args in
    sym (ap (λ (w : List ℕ). front w c.loop-i.out) (climb-end a.parents.now a.letters.now c.loop-i.i c.loop-i-test.false)) ∙ c.loop-i.invariant.4
