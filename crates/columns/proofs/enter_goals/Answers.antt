-- `columns::enter_goals`. The loop keeps: the goals done stand in the columns, and what is to come at the cursor are the others.
use Rattle.std.proofs.Common.{◌≡◌, ◌∷◌, sym, ap, subst, length, refl, arith}
use borrow.Author.Rules.{rules}
use Rattle.std.proofs.lemmas.Result.{err_from_is_err_and}
use Rattle.stepping.specs.Rest.{all_goals, rest}
use Rattle.stepping.proofs.Laws.{rest-start, goal-comes, none-comes}
use Rattle.columns.specs.Tables.{of_table}
use Rattle.columns.proofs.Laws.{Standing, stand-start, stand-fits, stand-done, stand-next, stand-stop}
use Rattle.columns.proofs.enter_goals.Goals as goal
use Rattle.columns.proofs.enter_goals.Goals.{In-Some}

-- the goal that the answer named comes first of what is to come
comes : (c : In-Some) → rest c.args.from c.loop-goal.cur ≡ c.in-Some.goal ∷ rest c.args.from c.in-Some.next
comes c = goal-comes c.args.from c.loop-goal.cur c.next_goal.result _ _ c.in-Some.is c.next_goal.ensures.first

pub loop-goal-init : goal.loop-goal-init
loop-goal-init c =
    let a = c.args in
    let l = of_table a.table.now in
    record {
      standing = subst (Standing l a.used a.room (all_goals a.from) l a.used) (sym (rest-start a.from 0 0)) (stand-start l a.used a.room (all_goals a.from) c.requires);
      same = search rules;
    }

pub enter_goal-requires : goal.enter_goal-requires
enter_goal-requires c =
    let a = c.args in
    stand-fits (of_table a.table.now) a.used a.room (all_goals a.from) c.requires (of_table c.loop-goal.table) c.loop-goal.u _ c.loop-goal.invariant.standing

pub returns-in_err-u-clause-entered : goal.returns-in_err-u-clause-entered
returns-in_err-u-clause-entered c =
    let a = c.args in
    let p = err_from_is_err_and c.from_residual.result c.from_residual.ensures.1 in
    rw (p.1, p.2)
    (stand-stop (of_table a.table.now) a.used a.room (all_goals a.from) c.requires (of_table c.loop-goal.table) c.loop-goal.u _ c.loop-goal.invariant.standing
    c.in-Some.goal _ (comes (goal.at.returns-in_err-u-clause-entered c).In-Some) (of_table c.enter_goal.new.table) _ c.in_err-u.ensures.entered refl)

pub loop-goal-smaller : goal.loop-goal-smaller
loop-goal-smaller c = let e = comes (goal.at.loop-goal-smaller c).In-Some in omega (arith, ap length e)

pub loop-goal-preserved : goal.loop-goal-preserved
loop-goal-preserved c =
    let a = c.args in
    record {
      standing =
          stand-next (of_table a.table.now) a.used a.room (all_goals a.from) c.requires (of_table c.loop-goal.table) c.loop-goal.u _ c.loop-goal.invariant.standing
          c.in-Some.goal _ (comes (goal.at.loop-goal-preserved c).In-Some) (of_table c.enter_goal.new.table) _ c.in_ok-u.ensures.entered refl;
      same = search rules;
    }

pub returns-clause-entered : goal.returns-clause-entered
returns-clause-entered c =
    let a = c.args in
    stand-done (of_table a.table.now) a.used a.room (all_goals a.from) c.requires (of_table c.loop-goal.table) c.loop-goal.u _ c.loop-goal.invariant.standing
    (none-comes a.from c.loop-goal.cur c.next_goal.result c.in_default.is c.next_goal.ensures.first)
