-- `verdict::Lines::put_trace`: three texts, one behind the other.
use Rattle.std.proofs.Common.{◌≤◌, arith, length}
use Rattle.program.specs.Lines.{ascii, trace_line}
use Rattle.verdict.proofs.Laws.{both_texts}
use Rattle.verdict.proofs.Lines.put_trace.Goals as goal

pub returns : goal.returns
unfolding trace_line ascii
returns c =
    let h : c.args.self.now.len ≤ length c.args.self.now.bytes = omega (arith, c.requires) in
    both_texts _ _ _ _ _ h (both_texts _ _ _ _ _ h c.put.ensures c.put_letters.ensures) c.put-2.ensures
