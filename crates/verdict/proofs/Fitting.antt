-- What is printed fits the bytes that hold it, and the first `len` of them are the lines.
use Rattle.std.proofs.Common.{ℕ, ◌≤◌, ◌≡◌, ap, ◌∙◌, List, arith, length, take, drop, replicate, length-append}
use lib.Seq.{take-append_seam}
use Rattle.verdict.specs.declared.Lines.{Lines}
use Rattle.program.specs.Program.{lines_of}
use Rattle.verdict.specs.Prints.{Prints}

pub lines_fit : (input : List ℕ) (r : Lines) → Prints input r → r.len ≤ length r.bytes
lines_fit input r p =
    let lines = lines_of input in
    omega (
      arith,
      ap (λ (x : Lines). x.len) p,
      ap (λ (x : Lines). length x.bytes) p ∙ length-append lines (drop (length lines) (replicate 4096 0)),
    )

pub lines-printed : (input : List ℕ) (r : Lines) → Prints input r → take r.len r.bytes ≡ lines_of input
lines-printed input r p =
    ap (λ (x : Lines). take x.len x.bytes) p ∙ take-append_seam (lines_of input) (drop (length (lines_of input)) (replicate 4096 0))
