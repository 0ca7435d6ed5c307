-- What is printed lies within the bytes that `verdict` answers.
use Rattle.std.proofs.Common.{arith}
use Rattle.verdict.proofs.Fitting.{lines_fit}
use Rattle.inspect.proofs.main.Goals as goal

pub shared_ref_as_front-write_all : goal.shared_ref_as_front-write_all
shared_ref_as_front-write_all c = omega (arith, lines_fit _ _ c.verdict-lines.ensures)
