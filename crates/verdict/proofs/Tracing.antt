-- The trace of a run that ended refuted: a trace call on its rows is accepted, and 1,024 letters are room for it.
use Rattle.std.proofs.Common.{Result, Ok, Err, ℕ, zero, suc, ◌≤◌, ◌≡◌, sym, ap, ◌∙◌, Bool, true, false, List, [], ◌∷◌, ◌++◌, le_trans, arith, eqb, length, get_or, length-append}
use Rattle.effect.specs.Refusals.{front}
use Rattle.goals.specs.declared.Row.{Row}
use Rattle.goals.specs.declared.Run.{Run}
use Rattle.goals.specs.Goals.{row_zero}
use Rattle.goals.specs.Run.{State, word_in, trace_of}
use Rattle.goals.specs.Refusals.{Given, record_of, against, start_refusal, trace_refusal, Leaves, leaves}
use Rattle.goals.specs.declared.SideRefusal.{SideRefusal}
use Rattle.columns.proofs.Tables as core
use Rattle.columns.specs.Calls.{Columns, lent_in, state_of, tracing}
use Rattle.columns.proofs.Budget.{state-held}
use Rattle.demands.proofs.Accepting.{trace-passes, accepted-leaves}
use Rattle.program.specs.Program.{ended_on, trace_in}
use Rattle.verdict.specs.Core.{Ended}
use Rattle.program.proofs.Running.{few, both, end-possible, ended-settled}

-- f rounds give at most f letters
word-short : (rows : List Row) (f i : ℕ) → length (word_in rows f i) ≤ f
unfolding word_in
word-short rows zero i = omega arith
word-short rows (suc f) i = by (eqb i 0) (word-short rows f (get_or rows i row_zero).parent)
  where
    by : (b : Bool) → length (word_in rows f (get_or rows i row_zero).parent) ≤ f
        → length {A = ℕ} (elim b [ true ↦ [] | false ↦ word_in rows f (get_or rows i row_zero).parent ++ ((get_or rows i row_zero).letter ∷ []) ]) ≤ suc f
    by true h = omega arith
    by false h = omega (arith, length-append (word_in rows f (get_or rows i row_zero).parent) ((get_or rows i row_zero).letter ∷ []))

-- a trace has at most as many letters as rows are settled
pub trace-short : (g : Given) → start_refusal g 1024 ≡ against 0 0 → length (trace_in g) ≤ 1024
trace-short g starts = le_trans (word-short (ended_on g).rows (ended_on g).settled (ended_on g).settled) (ended-settled g starts)

-- an answer that tells a number is an accepted one
tells : (answer : Result ℕ SideRefusal) (n : ℕ) → (tracing answer).values ≡ n ∷ [] → answer ≡ Ok n
unfolding tracing
tells (Ok m) n h = ap Ok (ap (λ (v : List ℕ). get_or v 0 0) h)
tells (Err why) n h = absurd (omega (arith, ap length h))

-- a trace call on the rows and the record of the run that ended
pub trace-ended : (g : Given) (c : Columns) (r : Run) (answer : Result ℕ SideRefusal) (out out' : List ℕ) → Ended g c r → r.outcome ≡ 2 → length out ≡ 1024
    → core.TracesOf g 1024 c r out answer out'
    → (answer ≡ Ok (length (trace_in g))) × (out' ≡ front (trace_in g) out) × (length (trace_in g) ≤ 1024)
trace-ended g c r answer out out' e two size h = (tells answer (length (trace_in g)) done.2, done.1, short)
  where
    short : length (trace_in g) ≤ 1024
    short = trace-short g e.accepted

    rows_are : state_of c r ≡ ended_on g
    rows_are = state-held c c (ended_on g) r (record { columns = e.columns; now = e.now })

    -- it is not refused
    passes : trace_refusal g 1024 (ended_on g).rows (record_of (ended_on g)) (length out) ≡ against 0 0
    passes =
        (trace-passes g 1024 (ended_on g).rows (record_of (ended_on g)) (length out)).1
        (both g 1024 few e.accepted, end-possible g 1024 few e.accepted, sym (ap (λ (k : Run). k.outcome) e.now) ∙ two, le_trans short (omega (arith, size)))

    why : trace_refusal g (lent_in 1024 c) (state_of c r).rows r (length out) ≡ against 0 0
    why = (λ i. trace_refusal g (e.lent i) (rows_are i).rows (e.now i) (length out)) ∙ passes

    word : trace_of (state_of c r).rows r.settled ≡ trace_in g
    word = ap (λ (s : State). trace_of s.rows s.settled) rows_are

    done : (trace_refusal g (lent_in 1024 c) (state_of c r).rows r (length out) ≡ against 0 0)
        × (out' ≡ front (trace_in g) out)
        × ((tracing answer).values ≡ length (trace_in g) ∷ [])
    done =
        accepted-leaves (tracing answer) (trace_refusal g (lent_in 1024 c) (state_of c r).rows r (length out)) (length (trace_in g) ∷ []) (front (trace_in g) out) out out'
        (h ∙ ap (λ (w : List ℕ). leaves (trace_refusal g (lent_in 1024 c) (state_of c r).rows r (length out)) (length w ∷ []) (front w out) out) word)
        (ap (λ (k : Leaves (List ℕ)). k.reply.refusal) h ∙ why)
