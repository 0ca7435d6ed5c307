-- `verdict::decide`. Start refuses, and that is the answer; or the run call ends the run that it began.
use Rattle.std.proofs.Common.{ℕ, Ok, refl, sym, subst, ◌∙◌}
use Rattle.std.proofs.lemmas.Result.{err_from_is_err_and}
use Rattle.columns.specs.Tables.{of_table}
use Rattle.columns.proofs.Tables.{StartsOf, RunsOf, starts-of, runs_of}
use Rattle.verdict.proofs.Deciding.{decides-refused, decides-ran}
use Rattle.verdict.proofs.decide.Goals as goal

pub returns-in_err-held-clause-decides : goal.returns-in_err-held-clause-decides
returns-in_err-held-clause-decides c g e =
    let t = c.args.table.now in
    let s = c.start_on.new.table in
    let p = err_from_is_err_and c.from_residual.result c.from_residual.ensures.1 in
    rw (p.1, p.2, sym c.in_err-held.was)
    (decides-refused g (of_table t) (of_table s) _ c.start_on.result c.in_err-held.was c.requires.1
    (subst (λ (n : ℕ). StartsOf g n (of_table t) c.start_on.result (of_table s)) c.requires.0
    (starts-of g c.args.asked e t.lent (of_table t) c.start_on.result (of_table s) c.start_on.ensures.starts)))

pub returns-clause-decides : goal.returns-clause-decides
returns-clause-decides c g e =
    let t = c.args.table.now in
    let s = c.start_on.new.table in
    let held = c.in_ok-held.held in
    decides-ran g (of_table t) (of_table s) (of_table c.run_on.new.table) held (Ok held) c.run_on.result refl c.requires.1
    (subst (λ (n : ℕ). StartsOf g n (of_table t) (Ok held) (of_table s)) c.requires.0
    (starts-of g c.args.asked e t.lent (of_table t) (Ok held) (of_table s) c.in_ok-held.ensures.starts))
    (subst (λ (n : ℕ). RunsOf g n (of_table s) held 1024 c.run_on.result (of_table c.run_on.new.table)) (c.start_on.ensures.same.0 ∙ c.requires.0)
    (runs_of g c.args.asked e s.lent (of_table s) held 1024 c.run_on.result (of_table c.run_on.new.table) c.run_on.ensures.runs))
