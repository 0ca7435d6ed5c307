-- `stepping::at_goal`. The loop keeps: the letters from here on lead where those from the start led.
use Rattle.std.proofs.Common.{◌≡◌, ◌-◌}
use Rattle.stepping.specs.Next.{letters_in, at_goal}
use Rattle.stepping.proofs.at_goal.Given as goal

abbrev pub invariant-loop-cur : goal.invariant-loop-cur
invariant-loop-cur l = at_goal l.from (letters_in l.from - l.cur.x) l.cur ≡ at_goal l.from (letters_in l.from - l.fn.at.x) l.fn.at

abbrev pub decreases-loop-cur : goal.decreases-loop-cur
decreases-loop-cur l = letters_in l.from - l.cur.x
