-- `columns::trace_on`. Refused as run is, for 17 or 18, or the way to the refuted row at the front of the buffer.
use Rattle.std.proofs.Common.{◌≡◌, ◌<◌, sym, ap, subst, ◌∙◌, ℕ, length}
use borrow.Author.Rules.{rules}
use Rattle.std.proofs.lemmas.Result.{err_from_is_err_and}
use Rattle.columns.specs.Tables.{of_view}
use Rattle.columns.specs.Core.{climb}
use Rattle.columns.proofs.Calling.{trace-refused, trace-early, trace-short, trace-done, Traceable, traceable}
use Rattle.columns.proofs.Climbing.{climb-length}
use Rattle.columns.proofs.trace_on.Goals as goal
use Rattle.columns.proofs.trace_on.Goals.{Else-run, After-trace_length-n}

-- past 16 and 17 the way of the refuted row is known
found : (c : Else-run) → Traceable (of_view c.args.view.now) c.args.run
found c =
    let a = c.args in
    traceable a.asked a.view.now.lent (of_view a.view.now) a.run (sym c.in_ok-may_run.was ∙ c.may_run.ensures) c.if-run.false

-- the length of the trace does not depend on its letters
length-is : (c : After-trace_length-n) → let a = c.args in
    c.trace_length-n.result ≡ length (climb a.view.now.parents.now a.view.now.letters.now a.run.settled a.run.settled)
length-is c = let a = c.args in c.trace_length-n.ensures ∙ climb-length a.view.now.parents.now _ a.view.now.letters.now a.run.settled a.run.settled

pub returns-in_err-may_run : goal.returns-in_err-may_run
returns-in_err-may_run c =
    let a = c.args in
    let p = err_from_is_err_and c.from_residual.result c.from_residual.ensures.1 in
    rw (p.1, p.2) (trace-refused a.asked a.view.now.lent (of_view a.view.now) a.run a.out.now _ (sym c.in_err-may_run.was ∙ c.may_run.ensures))

pub returns-then-run : goal.returns-then-run
returns-then-run c =
    let a = c.args in
    trace-early a.asked a.view.now.lent (of_view a.view.now) a.run a.out.now (sym c.in_ok-may_run.was ∙ c.may_run.ensures)
    c.both.result c.both.ensures c.if-run.true

pub trace_length-n-requires : goal.trace_length-n-requires
trace_length-n-requires c = let t = found (goal.at.trace_length-n-requires c).Else-run in (t.row, t.few, t.parents, t.rooted)

pub returns-then-out-n : goal.returns-then-out-n
returns-then-out-n c =
    let a = c.args in
    let p = goal.at.returns-then-out-n c in
    trace-short a.asked a.view.now.lent (of_view a.view.now) a.run a.out.now (sym c.in_ok-may_run.was ∙ c.may_run.ensures)
    c.both-then-out-n.result c.both-then-out-n.ensures c.if-run.false
    (subst (λ (k : ℕ). length a.out.now < k) (length-is p.After-trace_length-n ∙ ap length (sym (found p.Else-run).word)) c.if-out-n.true)

pub put_trace-requires : goal.put_trace-requires
put_trace-requires c =
    let p = goal.at.put_trace-requires c in
    let t = found p.Else-run in
    record {
      rows = (t.row, t.parents, t.letters, t.rooted);
      bytes = t.bytes;
      long = (length-is p.After-trace_length-n, search rules);
    }

pub returns : goal.returns
returns c =
    let a = c.args in
    let p = goal.at.returns c in
    trace-done a.asked a.view.now.lent (of_view a.view.now) a.run a.out.now (sym c.in_ok-may_run.was ∙ c.may_run.ensures) c.if-run.false
    c.trace_length-n.result c.put_trace.new.out (length-is p.After-trace_length-n) (search rules) c.put_trace.ensures
