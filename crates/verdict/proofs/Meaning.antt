-- What `verdict` answers is true: the first `len` bytes are the program's lines, and those say what they mean.
use Rattle.std.proofs.Common.{ℕ, refl, ◌∙◌, List}
use Rattle.program.specs.Meaning.{prints_lines}
use Rattle.program.proofs.Meaning.{lines-mean}
use Rattle.verdict.specs.Prints.{prints_answer, VerdictSays}
use Rattle.verdict.proofs.Fitting.{lines-printed}

-- what is printed is what the program is to print
prints-lines : (input lines : List ℕ) → prints_answer input lines → prints_lines input lines
prints-lines input lines (r, p, e) = e ∙ lines-printed input r p

pub verdict-says : VerdictSays
verdict-says =
    record {
      line_always = λ input. (_, (_, refl, refl));
      line_included = λ input rest p. lines-mean.line_included input rest (prints-lines input _ p);
      line_refuted = λ input rest p. lines-mean.line_refuted input rest (prints-lines input _ p);
      line_no_room = λ input rest p. lines-mean.line_no_room input rest (prints-lines input _ p);
      line_never_open = λ input lines p. lines-mean.line_never_open input lines (prints-lines input lines p);
    }
