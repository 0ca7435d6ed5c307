-- Any two results that meet the promise of `verdict` are equal.
use Rattle.std.proofs.Common.{ℕ, ◌≡◌, sym, ◌∙◌, List}
use Rattle.verdict.specs.declared.Lines.{Lines}
use Rattle.verdict.specs.Prints.{Prints}

pub verdict-one : (input : List ℕ) (r r' : Lines) → Prints input r → Prints input r' → r ≡ r'
verdict-one input r r' p q = p ∙ sym q
