-- The loop has put the bytes before this one.
use Rattle.std.proofs.Common.{◌≡◌, take}
use Rattle.verdict.specs.Core.{with_text}
use Rattle.verdict.proofs.Lines.put.Given as goal

abbrev pub invariant-loop-byte : goal.invariant-loop-byte
invariant-loop-byte l = l.self ≡ with_text (take l.byte-index l.text) l.initial.self
