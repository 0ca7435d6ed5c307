-- `columns::steps_on`. The loop keeps what is left of the budget and the rows so far (`Goes`).
use Prim.Native.Nat.{ℕ}
use Rattle.std.proofs.Common.{subst, arith}
use borrow.Author.Rules.{rules}
use Rattle.columns.specs.Tables.{of_table}
use Rattle.columns.proofs.Budget.{Goes, goes_none, goes-next, goes-stop, goes_end, ready-next}
use Rattle.columns.proofs.steps_on.Goals as goal

pub loop-b-init : goal.loop-b-init
loop-b-init c =
    let a = c.args in
    record {
      ready = c.requires;
      goes = goes_none a.sides.now.left a.sides.now.right a.room a.budget (of_table a.table.now) a.run c.requires.fits;
      same = search rules;
    }

pub returns-then-next-clause-steps : goal.returns-then-next-clause-steps
returns-then-next-clause-steps c =
    let a = c.args in
    let v = c.loop-b.invariant in
    goes-stop
    a.sides.now.left a.sides.now.right a.room a.budget a.sides.now.letters (of_table a.table.now) (of_table c.loop-b.table) (of_table c.step_on-next.new.table) a.run c.loop-b.cur c.step_on-next.result
    c.loop-b._b c.loop-b-test.true v.ready v.goes c.step_on-next.ensures.steps c.if-next.true

pub loop-b-preserved : goal.loop-b-preserved
loop-b-preserved c =
    let a = c.args in
    let v = c.loop-b.invariant in
    let r = c.step_on-next.result in
    record {
      ready = ready-next (of_table c.loop-b.table) (of_table c.step_on-next.new.table) a.room a.sides.now.left a.sides.now.right a.sides.now.letters c.loop-b.cur r v.ready c.step_on-next.ensures.steps c.if-next.false;
      goes =
          goes-next
          a.sides.now.left a.sides.now.right a.room a.budget a.sides.now.letters (of_table a.table.now) (of_table c.loop-b.table) (of_table c.step_on-next.new.table) a.run c.loop-b.cur r c.loop-b._b
          c.loop-b-test.true v.ready v.goes c.step_on-next.ensures.steps c.if-next.false;
      same = search rules;
    }

pub returns-clause-steps : goal.returns-clause-steps
returns-clause-steps c =
    let a = c.args in
    goes_end
    a.sides.now.left a.sides.now.right a.room a.budget (of_table a.table.now) (of_table c.loop-b.table) a.run c.loop-b.cur
    (subst
    (λ (n : ℕ). Goes a.sides.now.left a.sides.now.right a.room a.budget (of_table a.table.now) a.run (of_table c.loop-b.table) n c.loop-b.cur)
    (omega (arith, c.loop-b.auto._b-end, c.loop-b-test.false)) c.loop-b.invariant.goes)
