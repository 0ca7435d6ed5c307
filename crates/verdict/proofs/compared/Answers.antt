-- `verdict::compared`: what is decided, as lines; a run that ended has two, and a third where it is refuted.
use Rattle.std.proofs.Common.{Result, ℕ, subst, refl, sym, ap, ◌∙◌, arith, length, replicate, length-take-le}
use Rattle.goals.specs.Refusals.{given}
use Rattle.columns.proofs.Tables.{TracesOf, traces-of}
use Rattle.goals.specs.declared.SideRefusal.{SideRefusal}
use Rattle.columns.specs.Calls.{columns, tracing, Traces}
use Rattle.columns.specs.Tables.{of_table}
use Rattle.columns.proofs.Rows.{seen}
use Rattle.program.specs.Lines.{trace_line}
use Rattle.verdict.specs.Core.{of_text, Ended}
use Rattle.verdict.proofs.Laws.{nothing_put, nothing, stands_to, counts_to, same_text, whole_text, length-outcome}
use Rattle.verdict.proofs.Deciding.{ended_of, decides-refuses}
use Rattle.verdict.proofs.Printing.{Lettered, trace-lettered, never-refused, counts-small, lines_two, lines-three, lines-refused, lines-ended}
use Rattle.verdict.proofs.compared.Goals as goal
use Rattle.verdict.proofs.compared.Goals.{In-Ok, After-trace_on, In-Ok-trace_on}

-- an accepted answer is that of a run that has ended
has_ended : (c : In-Ok) → let a = c.args in Ended (given a.ls a.left.now a.rs a.right.now) (of_table c.decide.new.table) c.in-Ok.held
has_ended c =
    let a = c.args in
    let g = given a.ls a.left.now a.rs a.right.now in
    ended_of g (columns (replicate 1024 0) (replicate 1024 0) (replicate 1024 0) (replicate 1024 0)) _ c.in-Ok.held c.decide.result c.in-Ok.is refl (c.decide.ensures.decides g c.ask-asked.ensures)

-- what the trace call answered, for the tables
traced-as : (c : After-trace_on) → let a = c.args in
    TracesOf (given a.ls a.left.now a.rs a.right.now) 1024 (of_table c.decide.new.table) c.in-Ok.held (replicate 1024 0) c.trace_on.result c.trace_on.new.out
traced-as c =
    let a = c.args in
    let t = c.decide.new.table in
    let held = c.in-Ok.held in
    traces-of (given a.ls a.left.now a.rs a.right.now) c.ask-asked.result c.ask-asked.ensures 1024 (of_table t) held (replicate 1024 0) c.trace_on.result c.trace_on.new.out
    (subst (λ (n : ℕ). Traces c.ask-asked.result n (of_table t) held (replicate 1024 0) c.trace_on.result c.trace_on.new.out) c.decide.ensures.same.0
    (seen (λ n k. Traces c.ask-asked.result n k held (replicate 1024 0) c.trace_on.result c.trace_on.new.out) t c.view.result c.view.ensures c.trace_on.ensures))

-- what the trace call told
lettered : (c : In-Ok-trace_on) → let a = c.args in let g = given a.ls a.left.now a.rs a.right.now in
    Ended g (of_table c.decide.new.table) c.in-Ok.held → TracesOf g 1024 (of_table c.decide.new.table) c.in-Ok.held (replicate 1024 0) c.trace_on.result c.trace_on.new.out
    → Lettered g c.in-Ok-trace_on.n c.trace_on.new.out
lettered c e t = trace-lettered _ _ _ c.trace_on.result (replicate 1024 0) _ c.in-Ok-trace_on.n c.in-Ok-trace_on.is e c.if-held.true refl t

pub returns-in-Err : goal.returns-in-Err
returns-in-Err c =
    let a = c.args in
    let g = given a.ls a.left.now a.rs a.right.now in
    let w = decides-refuses g _ _ _ c.decide.result c.in-Err.is (c.decide.ensures.decides g c.ask-asked.ensures) in
    c.refused.ensures ∙ ap of_text (lines-refused g _ w.0 w.1)

pub put_counts-requires : goal.put_counts-requires
put_counts-requires c =
    let n = counts-small _ _ c.in-Ok.held (has_ended (goal.at.put_counts-requires c).In-Ok) in
    (omega (arith, n.0), omega (arith, n.1), omega (arith, nothing_put _ c.new-out.ensures, stands_to _ _ _ c.put_outcome.ensures, length-outcome c.in-Ok.held.outcome))

pub slice_bounds-word-end : goal.slice_bounds-word-end
slice_bounds-word-end c =
    let p = goal.at.slice_bounds-word-end c in
    omega (arith, (lettered p.In-Ok-trace_on (has_ended p.In-Ok) (traced-as p.After-trace_on)).few)

pub slice_bounds-put_trace-end : goal.slice_bounds-put_trace-end
slice_bounds-put_trace-end c =
    let p = goal.at.slice_bounds-put_trace-end c in
    sym (length-take-le _ _ (omega (arith, (lettered p.In-Ok-trace_on (has_ended p.In-Ok) (traced-as p.After-trace_on)).few)))

pub put_trace-requires : goal.put_trace-requires
put_trace-requires c =
    let p = goal.at.put_trace-requires c in
    let e = has_ended p.In-Ok in
    let l = lettered p.In-Ok-trace_on e (traced-as p.After-trace_on) in
    let n = counts-small _ _ c.in-Ok.held e in
    omega (
      arith,
      l.few,
      l.count,
      ap length l.letters,
      nothing_put _ c.new-out.ensures,
      stands_to _ _ _ c.put_outcome.ensures,
      counts_to _ _ _ _ c.put_counts.ensures (omega (arith, n.0, n.1)) (omega (arith, n.0, n.1)),
      length-outcome c.in-Ok.held.outcome,
    )

pub returns-in-Ok-trace_on : goal.returns-in-Ok-trace_on
returns-in-Ok-trace_on c =
    let p = goal.at.returns-in-Ok-trace_on c in
    let e = has_ended p.In-Ok in
    let l = lettered p.In-Ok-trace_on e (traced-as p.After-trace_on) in
    whole_text _ _ _ c.new-out.ensures
    (lines-three _ _ c.in-Ok.held _ _ _ _ e c.if-held.true (nothing _ c.new-out.ensures) c.put_outcome.ensures c.put_counts.ensures
    (same_text _ _ _ _ (ap trace_line l.letters) c.put_trace.ensures))
    ∙ ap of_text (lines-ended _ e.accepted)

pub returns-in_default : goal.returns-in_default
unfolding tracing
returns-in_default c =
    let p = goal.at.returns-in_default c in
    absurd
    (never-refused _ _ _ c.trace_on.result (replicate 1024 0) _ (ap (λ (x : Result ℕ SideRefusal). (tracing x).values) c.in_default.is) (has_ended p.In-Ok) c.if-held.true refl
    (traced-as p.After-trace_on))

pub returns-else-held : goal.returns-else-held
returns-else-held c =
    whole_text _ _ _ c.new-out.ensures
    (lines_two _ _ c.in-Ok.held _ _ _ (has_ended (goal.at.returns-else-held c).In-Ok) c.if-held.false (nothing _ c.new-out.ensures) c.put_outcome.ensures c.put_counts.ensures)
    ∙ ap of_text (lines-ended _ (has_ended (goal.at.returns-else-held c).In-Ok).accepted)
