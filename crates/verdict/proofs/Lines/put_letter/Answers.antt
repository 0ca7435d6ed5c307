-- `verdict::Lines::put_letter`: a space, and what the library writes of a byte.
use Rattle.std.proofs.Common.{ℕ, ◌≡◌, refl, ap, ◌∙◌, List, [], ◌∷◌, ◌++◌, arith, rules}
use Rattle.hex.specs.Hex.{encode_with, encode_lower}
use Rattle.program.specs.Lines.{ascii, digit, letter}
use Rattle.verdict.proofs.Laws.{both_texts, same_text}
use Rattle.verdict.proofs.Lines.put_letter.Goals as goal

one-letter : (x : ℕ) → (32 ∷ []) ++ encode_lower (x ∷ []) ≡ letter x
unfolding letter digit ascii encode_with
one-letter x = refl

pub returns : goal.returns
returns c =
    same_text _ _ _ _ (ap (λ (t : List ℕ). (32 ∷ []) ++ t) (search rules) ∙ one-letter c.args.x)
    (both_texts _ _ c.args.self.now c.put.new.self _ (omega (arith, c.requires)) c.put.ensures c.put-2.ensures)
