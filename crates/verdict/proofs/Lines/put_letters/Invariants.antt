-- The loop has put the letters before x.
use Rattle.std.proofs.Common.{◌≡◌, take}
use Rattle.program.specs.Lines.{letters}
use Rattle.verdict.specs.Core.{with_text}
use Rattle.verdict.proofs.Lines.put_letters.Given as goal

abbrev pub invariant-loop-x : goal.invariant-loop-x
invariant-loop-x l = l.self ≡ with_text (letters (take l.x-index l.word)) l.initial.self
