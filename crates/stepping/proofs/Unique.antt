-- Any two results that meet the promise are equal: it is an equation of the result.
use Rattle.std.proofs.Common.{◌≡◌, sym, ◌∙◌, Option}
use Rattle.goals.specs.declared.Row.{Row}
use Rattle.stepping.specs.declared.Source.{Source}
use Rattle.stepping.specs.declared.Cursor.{Cursor}
use Rattle.stepping.specs.Promises.{NextGoalIs}

pub next-goal-one : (src : Source) (c : Cursor) (r r' : Option (Row × Cursor)) → NextGoalIs src c r → NextGoalIs src c r' → r ≡ r'
next-goal-one src c r r' e f = e ∙ sym f
