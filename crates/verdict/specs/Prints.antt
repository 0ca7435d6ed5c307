-- What `verdict` promises: the lines of the program, and the bytes that hold them.
use Rattle.std.specs.Prelude.{ℕ, ◌≡◌, List, length, take, replicate}
use Rattle.effect.specs.Refusals.{front}
use Rattle.program.specs.Program.{lines_of}
use Rattle.program.specs.Meaning.{Program, LinesMean}
use Rattle.verdict.specs.declared.Lines.{Lines}

-- the promise of `verdict`: the lines at the front of the bytes, zeros behind them, and how many there are
abbrev pub Prints : List ℕ → Lines → Type 0
Prints input r = r ≡ record { bytes = front (lines_of input) (replicate 4096 0); len = length (lines_of input) }

-- the program that prints the first `len` bytes of what `verdict` answers
abbrev pub prints_answer : Program
prints_answer input lines = (r : Lines) × Prints input r × (lines ≡ take r.len r.bytes)

-- What its lines mean: `included`, `refuted` with its trace, `no room`, and never open (proved as `verdict-says`). The statements are of
-- any program, and stand with the definitions of the lines.
abbrev pub VerdictSays : Type 0
VerdictSays = LinesMean prints_answer
