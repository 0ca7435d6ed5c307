-- `verdict::Lines::put_counts`: five texts, one behind the other.
use Rattle.std.proofs.Common.{◌≤◌, arith, length}
use Rattle.program.specs.Lines.{ascii, counts_line}
use Rattle.verdict.proofs.Laws.{both_texts}
use Rattle.verdict.proofs.Lines.put_counts.Goals as goal

pub returns : goal.returns
unfolding counts_line ascii
returns c =
    let h : c.args.self.now.len ≤ length c.args.self.now.bytes = omega (arith, c.requires.2) in
    both_texts _ _ _ _ _ h (both_texts _ _ _ _ _ h (both_texts _ _ _ _ _ h (both_texts _ _ _ _ _ h c.put.ensures c.put_decimal.ensures) c.put-2.ensures) c.put_decimal-2.ensures) c.put-3.ensures
