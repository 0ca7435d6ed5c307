-- What the functions under `verdict` promise each other.
use Rattle.std.specs.Prelude.{ℕ, ◌+◌, ◌≡◌, cond, List, ◌++◌, eqb, length, take, replicate, Result}
use Rattle.effect.specs.Refusals.{front}
use Rattle.effect.specs.declared.Refusal.{Refusal}
use Rattle.sheet.specs.declared.Header.{Header}
use Rattle.sheet.specs.Sheet.{reading}
use Rattle.goals.specs.declared.Run.{Run}
use Rattle.goals.specs.declared.SideRefusal.{SideRefusal}
use Rattle.goals.specs.Refusals.{Given, record_of, start_refusal, against, leaves, exit, values_of}
use Rattle.columns.specs.Calls.{Columns, called, put, lent_in}
use Rattle.program.specs.Lines.{refused_line, ended_lines}
use Rattle.program.specs.Program.{ended_on}
use Rattle.verdict.specs.declared.Lines.{Lines}

-- an output with a text alone: it stands at the front, and zeros behind it
abbrev pub of_text : List ℕ → Lines
of_text text = record { bytes = front text (replicate 4096 0); len = length text }

-- an output with a text put behind what stands there already
abbrev pub with_text : List ℕ → Lines → Lines
with_text text out = record { bytes = front (take out.len out.bytes ++ text) out.bytes; len = out.len + length text }

-- start, and then a run call that ends the run
abbrev pub Decides : Given → Columns → Result Run SideRefusal → Columns → Type 0
Decides g c answer c' =
    let st = ended_on g in
    exit (called answer) c' ≡ leaves (start_refusal g 1024) (values_of (record_of st)) (put st.rows c) c

-- the columns and the record are those of the run that ended
pub record Ended (g : Given) (c : Columns) (r : Run) : Type 0 where
  pub accepted : start_refusal g 1024 ≡ against 0 0
  pub lent : lent_in 1024 c ≡ 1024
  pub columns : c ≡ put (ended_on g).rows c
  pub now : r ≡ record_of (ended_on g)

-- the lines of a comparison of two node tables
abbrev pub comparison_lines : Given → List ℕ
comparison_lines g =
    cond (eqb (start_refusal g 1024).number 0) (ended_lines (ended_on g)) (refused_line (start_refusal g 1024))

-- the number of a reading's refusal
abbrev pub reading_number : Result Header Refusal → ℕ
reading_number r = (reading r).number
