-- `columns::may_run`: the sides first, and then 16.
use Rattle.std.proofs.Common.{◌≡◌, ap, ◌∙◌, ℕ, arith}
use Rattle.std.proofs.lemmas.Result.{err_from_is_err_and}
use Rattle.goals.specs.Refusals.{room_of, impossible}
use Rattle.columns.specs.Calls.{rows_in, lent_in}
use Rattle.columns.specs.Tables.{of_view}
use Rattle.columns.proofs.Calling.{fits-lent, refuses-sides, refuses-16, refuses-none, impossible_on}
use Rattle.columns.proofs.may_run.Goals as goal
use Rattle.columns.proofs.may_run.Goals.{After-is_impossible}

pub returns-in_err-why_not : goal.returns-in_err-why_not
returns-in_err-why_not c =
    let a = c.args in
    let p = err_from_is_err_and c.from_residual.result c.from_residual.ensures.1 in
    rw (p.1, p.2) (refuses-sides a.sides (lent_in a.view.now.lent (of_view a.view.now)) (of_view a.view.now) a.held _ c.in_err-why_not.ensures)

pub is_impossible-requires : goal.is_impossible-requires
is_impossible-requires c =
    let a = c.args in
    fits-lent a.view.now.lent (of_view a.view.now) 0 _ (c.room_of-room.ensures ∙ ap room_of c.rows.ensures) (omega arith)

-- 16 as it was asked is 16 of the two sides
asked : (c : After-is_impossible) → let a = c.args in c.is_impossible.result ≡ impossible_on a.sides (lent_in a.view.now.lent (of_view a.view.now)) (of_view a.view.now) a.held
asked c =
    let a = c.args in
    c.is_impossible.ensures
    ∙ ap (λ (m : ℕ). impossible a.sides.left.s a.sides.left.count a.sides.right.count m (rows_in (of_view a.view.now) a.held.used) a.held) (c.room_of-room.ensures ∙ ap room_of c.rows.ensures)

pub returns-then-is_impossible : goal.returns-then-is_impossible
returns-then-is_impossible c =
    let a = c.args in
    refuses-16 a.sides (lent_in a.view.now.lent (of_view a.view.now)) (of_view a.view.now) a.held c.in_ok-why_not.ensures c.is_impossible.result
    (asked (goal.at.returns-then-is_impossible c).After-is_impossible) c.both.result c.both.ensures c.if-is_impossible.true

pub returns : goal.returns
returns c =
    let a = c.args in
    refuses-none a.sides (lent_in a.view.now.lent (of_view a.view.now)) (of_view a.view.now) a.held c.in_ok-why_not.ensures c.is_impossible.result
    (asked (goal.at.returns c).After-is_impossible) c.if-is_impossible.false
