-- What the calls on rows answer and leave: on any two sides by value.
use Rattle.std.specs.Prelude.{ℕ, ◌≡◌, Result, Ok, Err, List, [], ◌∷◌, length}
use Rattle.effect.specs.Refusals.{front}
use Rattle.goals.specs.Run.{State, started, trace_of}
use Rattle.goals.specs.Refusals.{Against, against, against_of, Reply, exit, leaves}
use Rattle.asking.specs.declared.Asked.{Asked}
use Rattle.asking.specs.Asked.{start_refusal_on, run_refusal_on, trace_refusal_on, run_after_on}
use Rattle.demands.specs.Calls.{Lent, used_in, holding}
use Rattle.goals.specs.declared.SideRefusal.{SideRefusal}
use Rattle.compare.specs.declared.Work.{Work}
use Rattle.compare.specs.declared.Work.TheVariants as work-variants

-- the number of each case of what start and run answer, with no values: the record tells them
unfoldable pub answered : Result Unit SideRefusal → Reply
answered (Ok u) = record { refusal = against 0 0; values = [] }
answered (Err why) = record { refusal = against_of why; values = [] }

-- Start and run on any two sides by value: the refusal of each, and the state that it leaves.
unfoldable pub work_refusal : Work → Asked → Lent → Against
work_refusal work-variants.Start a l = start_refusal_on a (length l.rows)
work_refusal (work-variants.Run budget) a l = run_refusal_on a (length l.rows) (used_in l) l.held

unfoldable pub work_after : Work → Asked → Lent → State
work_after work-variants.Start a l = started
work_after (work-variants.Run budget) a l = run_after_on a (length l.rows) (used_in l) l.held budget

-- the promise of `call`
abbrev pub Works : Work → Asked → Lent → Reply → Lent → Type 0
Works work a l reply l' = exit reply l' ≡ leaves (work_refusal work a l) [] (holding (work_after work a l) l) l

-- The promise of `trace_asked`, on any two sides by value.
abbrev pub TracesAsked : Asked → Lent → List ℕ → Reply → List ℕ → Type 0
TracesAsked a l out reply out' =
    let word = trace_of (used_in l) l.held.settled in
    exit reply out'
    ≡ leaves (trace_refusal_on a (length l.rows) (used_in l) l.held (length out)) (length word ∷ []) (front word out) out
