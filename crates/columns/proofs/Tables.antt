-- The calls on the sides that `ask` makes of two tables leave what the tables' own promises say.
use Rattle.std.specs.Prelude.{Result}
use Prim.Native.Nat.{ℕ}
use mathlib.Core.Path.{◌≡◌, refl, ap, subst, ◌∙◌}
use mathlib.Core.List.{List}
use lib.ListN.{length}
use Rattle.goals.specs.declared.Run.{Run}
use Rattle.goals.specs.Run.{State, started}
use Rattle.goals.specs.Refusals.{Given, record_of, start_refusal, run_refusal, trace_refusal, values_of, run_after}
use Rattle.asking.specs.declared.Asked.{Asked}
use Rattle.asking.specs.Asked.{asked_of}
use Rattle.asking.proofs.Refusing.{leaves-same}
use Rattle.asking.proofs.Asking.{start-asked, run-asked, trace-asked, after-asked}
use Rattle.goals.specs.declared.SideRefusal.{SideRefusal}
use Rattle.columns.specs.Calls.{Columns, rows_in, put, lent_in, CallsBy, Starts, Runs, TracesBy, Traces}

-- the promises of the three calls, said of two tables
abbrev pub StartsOf : Given → ℕ → Columns → Result Run SideRefusal → Columns → Type 0
StartsOf g lent c answer c' = CallsBy (start_refusal g (lent_in lent c)) started c answer c'

abbrev pub RunsOf : Given → ℕ → Columns → Run → ℕ → Result Run SideRefusal → Columns → Type 0
RunsOf g lent c r budget answer c' =
    let rows = rows_in c r.used in
    CallsBy (run_refusal g (lent_in lent c) rows r) (run_after g (lent_in lent c) rows r budget) c answer c'

abbrev pub TracesOf : Given → ℕ → Columns → Run → List ℕ → Result ℕ SideRefusal → List ℕ → Type 0
TracesOf g lent c r out answer out' =
    let rows = rows_in c r.used in
    TracesBy (trace_refusal g (lent_in lent c) rows r (length out)) rows r out answer out'

module _ (g : Given) (a : Asked) (e : a ≡ asked_of g) (lent : ℕ) (c : Columns) where
  pub starts-of : (answer : Result Run SideRefusal) (c' : Columns) → Starts a lent c answer c' → StartsOf g lent c answer c'
  starts-of answer c' h =
      subst (λ (b : Asked). Starts b lent c answer c') e h ∙ leaves-same _ _ _ _ _ _ c (start-asked g (lent_in lent c)) (λ _. (refl, refl))

  module _ (r : Run) where
    pub runs_of : (budget : ℕ) (answer : Result Run SideRefusal) (c' : Columns) → Runs a lent c r budget answer c' → RunsOf g lent c r budget answer c'
    runs_of budget answer c' h =
        subst (λ (b : Asked). Runs b lent c r budget answer c') e h
        ∙ leaves-same _ _ _ _ _ _ c (run-asked g (lent_in lent c) (rows_in c r.used) r)
        (λ z. let s = after-asked g (lent_in lent c) (rows_in c r.used) r budget z in
        (ap (λ (st : State). values_of (record_of st)) s, ap (λ (st : State). put st.rows c) s))

    pub traces-of : (out : List ℕ) (answer : Result ℕ SideRefusal) (out' : List ℕ) → Traces a lent c r out answer out' → TracesOf g lent c r out answer out'
    traces-of out answer out' h =
        subst (λ (b : Asked). Traces b lent c r out answer out') e h
        ∙ leaves-same _ _ _ _ _ _ out (trace-asked g (lent_in lent c) (rows_in c r.used) r (length out)) (λ _. (refl, refl))
