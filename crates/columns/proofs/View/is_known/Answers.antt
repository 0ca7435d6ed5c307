-- `columns::View::is_known`.
use Rattle.std.proofs.Common.{sym, ◌∙◌}
use Rattle.columns.specs.Tables.{of_view}
use Rattle.columns.proofs.Rows.{known-none, known-here, known-further}
use Rattle.columns.proofs.View.is_known.Goals as goal

pub loop-i-init : goal.loop-i-init
loop-i-init c = known-none c.args.row (of_view c.args.self.now)

pub returns-then-same_goal : goal.returns-then-same_goal
returns-then-same_goal c =
    sym (known-here c.args.row (of_view c.args.self.now) c.args.used c.loop-i.i c.loop-i-test.true (sym c.same_goal.ensures ∙ c.if-same_goal.true))

pub loop-i-preserved : goal.loop-i-preserved
loop-i-preserved c =
    known-further c.args.row (of_view c.args.self.now) c.loop-i.i c.loop-i.invariant (sym c.same_goal.ensures ∙ c.if-same_goal.false)
