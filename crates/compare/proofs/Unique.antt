-- Each promise fixes what a call leaves: two results that meet the promise of a call are equal.
use Rattle.std.specs.Prelude.{Result, Ok, Err}
use Prim.Native.Nat.{ℕ}
use mathlib.Core.Path.{◌≡◌, refl, sym, ap, ◌∙◌}
use mathlib.Core.List.{List}
use native.Mathlib.Omega.{arith}
use Rattle.asking.specs.declared.Asked.{Asked}
use Rattle.goals.specs.declared.Which.{Which}
use Rattle.goals.specs.declared.Which.TheVariants.{Left, Right, Both}
use Rattle.goals.specs.Refusals.{Given, side_number, Reply}
use Rattle.columns.specs.Calls.{tracing}
use Rattle.columns.proofs.Unique.{refusal-one, left_one, tracing-one}
use Rattle.demands.specs.Calls.{Lent, Starts, Runs, Traces}
use Rattle.goals.specs.declared.SideRefusal.{SideRefusal}
use Rattle.compare.specs.declared.Work.{Work}
use Rattle.compare.specs.Calls.{answered, Works, TracesAsked}

-- a refusal names a side
some-side : (w : Which) → 0 ≡ side_number w → ⊥
unfolding side_number
some-side Left e = omega (arith, e)
some-side Right e = omega (arith, e)
some-side Both e = omega (arith, e)

answered-one : (r r' : Result Unit SideRefusal) → answered r ≡ answered r' → r ≡ r'
unfolding answered
answered-one (Ok u) (Ok v) e = refl
answered-one (Ok u) (Err w) e = absurd (some-side w.side (ap (λ (t : Reply). t.refusal.side) e))
answered-one (Err w) (Ok u) e = absurd (some-side w.side (sym (ap (λ (t : Reply). t.refusal.side) e)))
answered-one (Err w) (Err w') e = ap Err (refusal-one w w' (ap (λ (t : Reply). t.refusal) e))

pub start-one : (g : Given) (l k k' : Lent) (r r' : Result Unit SideRefusal) → Starts g l (answered r) k → Starts g l (answered r') k' → (r ≡ r') × (k ≡ k')
start-one g l k k' r r' p q = let e = left_one (p ∙ sym q) in (answered-one r r' e.0, e.1)

pub run-one : (g : Given) (l k k' : Lent) (budget : ℕ) (r r' : Result Unit SideRefusal) → Runs g l budget (answered r) k → Runs g l budget (answered r') k' → (r ≡ r') × (k ≡ k')
run-one g l k k' budget r r' p q = let e = left_one (p ∙ sym q) in (answered-one r r' e.0, e.1)

pub call-one : (work : Work) (a : Asked) (l k k' : Lent) (r r' : Result Unit SideRefusal) → Works work a l (answered r) k → Works work a l (answered r') k' → (r ≡ r') × (k ≡ k')
call-one work a l k k' r r' p q = let e = left_one (p ∙ sym q) in (answered-one r r' e.0, e.1)

pub trace-one : (g : Given) (l : Lent) (out o o' : List ℕ) (r r' : Result ℕ SideRefusal) → Traces g l out (tracing r) o → Traces g l out (tracing r') o' → (r ≡ r') × (o ≡ o')
trace-one g l out o o' r r' p q = let e = left_one (p ∙ sym q) in (tracing-one r r' e.0, e.1)

pub trace-asked-one : (a : Asked) (l : Lent) (out o o' : List ℕ) (r r' : Result ℕ SideRefusal) → TracesAsked a l out (tracing r) o → TracesAsked a l out (tracing r') o' → (r ≡ r') × (o ≡ o')
trace-asked-one a l out o o' r r' p q = let e = left_one (p ∙ sym q) in (tracing-one r r' e.0, e.1)
