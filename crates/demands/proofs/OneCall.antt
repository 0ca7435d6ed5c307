-- A chain of two calls: start, and one accepted run call on rows of which each is the start row.
use Prim.Native.Nat.{ℕ, zero, suc, ◌+◌, ◌≤◌}
use mathlib.Core.Path.{◌≡◌, refl, sym, ap, ◌∙◌}
use mathlib.Core.Logic.{◌≢◌}
use mathlib.Core.List.{[]}
use lib.ListN.{length, replicate, length-replicate}
use Rattle.goals.specs.Goals.{row_zero}
use Rattle.goals.specs.Run.{started}
use Rattle.goals.specs.Refusals.{Given, record_of, Against, against, start_refusal, Reply, leaves}
use Rattle.demands.specs.Calls.{Lent, lent, used_in, holding, RunCall, TraceCall, Starts}
use Rattle.demands.specs.Demands.{Chain, begun, goes}
use Rattle.demands.proofs.Accepting.{start-passes}
use Rattle.demands.proofs.Calling.{used-holding}

-- so many rows, and the record that start leaves
abbrev pub ready : ℕ → Lent
ready room = lent (replicate room row_zero) (record_of started)

pub ready-length : (room : ℕ) → length (ready room).rows ≡ room
ready-length room = length-replicate room row_zero

pub ready-used : (room : ℕ) → room ≢ 0 → used_in (ready room) ≡ started.rows
ready-used zero h = absurd (h refl)
ready-used (suc room) h = refl

abbrev pub accepted : Reply
accepted = record { refusal = against 0 0; values = [] }

-- start
pub start-call : {runs : RunCall} {traces : TraceCall} (g : Given) (least room : ℕ) → start_refusal g room ≡ against 0 0
    → Chain (record { starts = Starts; runs = runs; traces = traces }) g least (used_in (holding started (ready room))) (record_of started) 0
start-call g least room starts =
    begun {l = ready room} {l' = holding started (ready room)} {reply = accepted}
    (ap (λ (w : Against). leaves w [] (holding started (ready room)) (ready room)) (sym (ap (start_refusal g) (ready-length room) ∙ starts))) refl

-- and run
pub one-call : (runs : RunCall) {traces : TraceCall} (g : Given) (least room budget : ℕ) (l' : Lent) → start_refusal g room ≡ against 0 0 → least ≤ room
    → runs g (ready room) budget accepted l' → Chain (record { starts = Starts; runs = runs; traces = traces }) g least (used_in l') l'.held (0 + budget)
one-call runs g least room budget l' starts h r =
    goes {rows = (ready room).rows} {held = record_of started} (start-call g least room starts)
    (ready-used room ((start-passes g room).0 starts).1 ∙ sym (used-holding started (ready room)))
    (rw (ready-length room) h) r refl
