-- `verdict::refused`: five texts, one behind the other.
use Rattle.std.proofs.Common.{ap}
use Rattle.program.specs.Lines.{ascii, decimal, refused_line}
use Rattle.verdict.proofs.Laws.{both_texts, whole_text, nothing, same_text}
use Rattle.verdict.proofs.refused.Goals as goal

pub returns : goal.returns
unfolding refused_line ascii
returns c =
    let h = nothing _ c.new-out.ensures in
    whole_text _ _ _ c.new-out.ensures
    (both_texts _ _ _ _ _ h (both_texts _ _ _ _ _ h (both_texts _ _ _ _ _ h (both_texts _ _ _ _ _ h c.put.ensures c.put_side.ensures) c.put-2.ensures) (same_text _ _ _ _ (ap decimal c.from.ensures) c.put_decimal.ensures)) c.put-3.ensures)
