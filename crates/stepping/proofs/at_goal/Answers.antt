-- `stepping::at_goal`. The loop keeps: the letters from here on lead where those from the start led.
use Rattle.std.proofs.Common.{◌-◌, sym, ap, ◌∙◌, arith}
use Rattle.stepping.specs.declared.Cursor.{Cursor}
use Rattle.stepping.specs.Next.{letters_in, at_goal}
use Rattle.stepping.proofs.Laws.{letter-is, goal-here, goal-next, goal-end}
use Rattle.stepping.proofs.at_goal.Goals as goal

pub loop-cur-smaller : goal.loop-cur-smaller
loop-cur-smaller c =
    let e = ap (λ (r : Cursor). r.x) c.at_letter-cur.ensures ∙ letter-is c.args.from c.loop-cur.cur.x in
    omega (arith, e, c.min-n.ensures)

pub loop-cur-preserved : goal.loop-cur-preserved
loop-cur-preserved c =
    let from = c.args.from in
    let n = letters_in from in
    ap (λ (r : Cursor). at_goal from (n - r.x) r) c.at_letter-cur.ensures
    ∙ sym (goal-next from n c.loop-cur.cur c.loop-cur-test.true (omega (arith, c.min-n.ensures)))
    ∙ c.loop-cur.invariant

pub returns-else-cur-n : goal.returns-else-cur-n
returns-else-cur-n c =
    sym (goal-end c.args.from (letters_in c.args.from) c.loop-cur.cur (omega (arith, c.min-n.ensures))) ∙ c.loop-cur.invariant

pub returns-after-loop-cur : goal.returns-after-loop-cur
returns-after-loop-cur c = sym (goal-here c.args.from _ c.loop-cur.cur c.loop-cur-test.false) ∙ c.loop-cur.invariant
