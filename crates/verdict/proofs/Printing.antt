-- The lines of a run that has ended.
use Rattle.std.proofs.Common.{Result, Ok, ℕ, ◌≤◌, ◌≡◌, refl, sym, ap, ap₂, ◌∙◌, ◌≢◌, Bool, false, cond, List, [], ◌++◌, append-nil, arith, eqb, length, get_or, take, take_at, eq-eqb, ne_eqb}
use Rattle.goals.specs.declared.Run.{Run}
use Rattle.goals.specs.Refusals.{Given, Against, against, start_refusal, record_of}
use Rattle.goals.specs.declared.SideRefusal.{SideRefusal}
use Rattle.columns.proofs.Tables as core
use Rattle.columns.specs.Calls.{Columns, tracing}
use Rattle.program.specs.Lines.{outcome_line, counts_line, trace_line, refused_line, ended_lines}
use Rattle.program.specs.Program.{ended_on, trace_in}
use Rattle.verdict.specs.declared.Lines.{Lines}
use Rattle.verdict.specs.Core.{with_text, Ended, comparison_lines}
use Rattle.verdict.proofs.Laws.{both_texts, same_text}
use Rattle.program.proofs.Running.{ended-fits, ended-settled}
use Rattle.verdict.proofs.Tracing.{trace-ended}

-- counts that the record of an ended run has
pub counts-small : (g : Given) (c : Columns) (r : Run) → Ended g c r → (r.settled ≤ 1024) × (r.used ≤ 1024)
counts-small g c r e =
    let same : (f : Run → ℕ) → f r ≡ f (record_of (ended_on g)) = λ f. ap f e.now in (
      omega (arith, same (λ r. r.settled), ended-settled g e.accepted),
      omega (arith, same (λ r. r.used), ended-fits g e.accepted),
    )

-- lines 1 and 2 are those of the state
abbrev two_lines : Run → List ℕ
two_lines r = outcome_line r.outcome ++ counts_line r.settled r.used

ended-two : (g : Given) (c : Columns) (r : Run) → Ended g c r → two_lines r ≡ two_lines (record_of (ended_on g))
ended-two g c r e = ap two_lines e.now

ended-outcome : (g : Given) (c : Columns) (r : Run) → Ended g c r → r.outcome ≡ (ended_on g).outcome
ended-outcome g c r e = ap (λ (x : Run). x.outcome) e.now

-- a run that is not refuted has no line 3
pub lines_two :
    (g : Given) (c : Columns) (r : Run) (before o p : Lines) → Ended g c r → r.outcome ≢ 2 → before.len ≤ length before.bytes
    → o ≡ with_text (outcome_line r.outcome) before → p ≡ with_text (counts_line r.settled r.used) o
    → p ≡ with_text (ended_lines (ended_on g)) before
unfolding ended_lines
lines_two g c r before o p e h n a b =
    same_text (two_lines r) (ended_lines (ended_on g)) before p
    (ended-two g c r e
    ∙ sym (ap (λ (b : Bool). two_lines (record_of (ended_on g)) ++ cond b (trace_line (trace_in g)) []) (ne_eqb _ _ (λ z. h (ended-outcome g c r e ∙ z)))
    ∙ append-nil (two_lines (record_of (ended_on g)))))
    (both_texts _ _ before o p n a b)

-- a refuted one has
pub lines-three :
    (g : Given) (c : Columns) (r : Run) (before o p q : Lines) → Ended g c r → r.outcome ≡ 2 → before.len ≤ length before.bytes
    → o ≡ with_text (outcome_line r.outcome) before → p ≡ with_text (counts_line r.settled r.used) o
    → q ≡ with_text (trace_line (trace_in g)) p → q ≡ with_text (ended_lines (ended_on g)) before
unfolding ended_lines
lines-three g c r before o p q e h n a b t =
    same_text (two_lines r ++ trace_line (trace_in g)) (ended_lines (ended_on g)) before q
    (ap (λ (x : List ℕ). x ++ trace_line (trace_in g)) (ended-two g c r e)
    ∙ sym (ap (λ (b : Bool). two_lines (record_of (ended_on g)) ++ cond b (trace_line (trace_in g)) []) (eq-eqb _ _ (sym (ended-outcome g c r e) ∙ h))))
    (both_texts _ _ before p q n (both_texts _ _ before o p n a b) t)

-- the letters that the trace call of a refuted run answers
pub record Lettered (g : Given) (n : ℕ) (word : List ℕ) : Type 0 where
  pub few : n ≤ 1024
  pub count : n ≡ length (trace_in g)
  pub letters : take n word ≡ trace_in g

number_of : (m n : ℕ) → ◌≡◌ {A = Result ℕ SideRefusal} (Ok m) (Ok n) → m ≡ n
unfolding tracing
number_of m n e = ap (λ (x : Result ℕ SideRefusal). get_or (tracing x).values 0 0) e

pub trace-lettered :
    (g : Given) (c : Columns) (r : Run) (answer : Result ℕ SideRefusal) (out out' : List ℕ) (n : ℕ) → answer ≡ Ok n → Ended g c r → r.outcome ≡ 2
    → length out ≡ 1024 → core.TracesOf g 1024 c r out answer out' → Lettered g n out'
trace-lettered g c r answer out out' n e ended refuted size h =
    let t = trace-ended g c r answer out out' ended refuted size h in
    let many : n ≡ length (trace_in g) = number_of n (length (trace_in g)) (sym e ∙ t.0) in
    record {
      few = omega (arith, many, t.2);
      count = many;
      letters = ap₂ take many t.1 ∙ take_at (trace_in g) _ (length (trace_in g)) refl;
    }

-- and it answers
pub never-refused :
    (g : Given) (c : Columns) (r : Run) (answer : Result ℕ SideRefusal) (out out' : List ℕ) → (tracing answer).values ≡ [] → Ended g c r → r.outcome ≡ 2
    → length out ≡ 1024 → core.TracesOf g 1024 c r out answer out' → ⊥
unfolding tracing
never-refused g c r answer out out' e ended refuted size h =
    let t = trace-ended g c r answer out out' ended refuted size h in
    omega (arith, ap length (sym e ∙ ap (λ (x : Result ℕ SideRefusal). (tracing x).values) t.0))

-- the lines of a comparison, refused and accepted
pub lines-refused : (g : Given) (why : Against) → why ≡ start_refusal g 1024 → eqb (start_refusal g 1024).number 0 ≡ false → refused_line why ≡ comparison_lines g
lines-refused g why e h = ap refused_line e ∙ sym (ap (λ (b : Bool). cond b (ended_lines (ended_on g)) (refused_line (start_refusal g 1024))) h)

pub lines-ended : (g : Given) → start_refusal g 1024 ≡ against 0 0 → ended_lines (ended_on g) ≡ comparison_lines g
lines-ended g h = sym (ap (λ (x : Against). cond (eqb x.number 0) (ended_lines (ended_on g)) (refused_line x)) h)
