-- The calls as a caller makes them, on a lent table of rows and a lent record: what each is given, answers and leaves. They are the
-- promises of `compare::start`, `run` and `trace`.
use Rattle.std.specs.Prelude.{ℕ, ◌≡◌, ◌≢◌, List, [], ◌∷◌, length, take}
use Rattle.effect.specs.Refusals.{front}
use Rattle.goals.specs.declared.Row.{Row}
use Rattle.goals.specs.declared.Run.{Run}
use Rattle.goals.specs.Run.{State, started, trace_of}
use Rattle.goals.specs.Refusals.{Given, record_of, start_refusal, run_refusal, trace_refusal, against, Reply, exit, leaves, run_after}

-- what a call is lent: a table of rows, and the run record
pub record Lent : Type 0 where
  pub rows : List Row
  pub held : Run

abbrev pub lent : List Row → Run → Lent
lent rows held = record { rows = rows; held = held }

-- the used rows of what is lent
abbrev pub used_in : Lent → List Row
used_in l = take l.held.used l.rows

-- A call as a relation: both sides' s and nodes, what is lent, the budget or the buffer, the answer, what is left. (Trace reads
-- rows and record and leaves them; it is the buffer that it writes.)
abbrev pub StartCall : Type 1
StartCall = Given → Lent → Reply → Lent → Type 0

abbrev pub RunCall : Type 1
RunCall = Given → Lent → ℕ → Reply → Lent → Type 0

abbrev pub TraceCall : Type 1
TraceCall = Given → Lent → List ℕ → Reply → List ℕ → Type 0

-- what a state leaves of what was lent: its rows at the front, "the other rows stay", and its record
abbrev pub holding : State → Lent → Lent
holding st l = lent (front st.rows l.rows) (record_of st)

-- the promise of start
abbrev pub Starts : StartCall
Starts g l reply l' = exit reply l' ≡ leaves (start_refusal g (length l.rows)) [] (holding started l) l

-- the promise of run
abbrev pub Runs : RunCall
Runs g l budget reply l' =
    exit reply l'
    ≡ leaves (run_refusal g (length l.rows) (used_in l) l.held) []
    (holding (run_after g (length l.rows) (used_in l) l.held budget) l) l

-- the promise of trace: "the letters from row 0 to the refuted row, one byte each, at the buffer's front, and answers how many;
-- the rest stays"
abbrev pub Traces : TraceCall
Traces g l out reply out' =
    let word = trace_of (used_in l) l.held.settled in
    exit reply out'
    ≡ leaves (trace_refusal g (length l.rows) (used_in l) l.held (length out)) (length word ∷ []) (front word out) out

-- accepted, and refused
abbrev pub Accepted : Reply → Type 0
Accepted reply = reply.refusal ≡ against 0 0

abbrev pub Refused : Reply → Type 0
Refused reply = reply.refusal.number ≢ 0

-- three calls
pub record Calls : Type 1 where
  pub starts : StartCall
  pub runs : RunCall
  pub traces : TraceCall

-- ours
abbrev pub ours : Calls
ours = record { starts = Starts; runs = Runs; traces = Traces }
