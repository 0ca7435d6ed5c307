-- The loop has put the letters before x.
use Rattle.std.proofs.Common.{ℕ, ◌+◌, ◌*◌, ◌<◌, ◌≤◌, ◌≡◌, refl, sym, ap, ◌∙◌, List, [], ◌∷◌, ◌++◌, append_assoc, append-nil, arith, add-one, length, get_or, take, take-suc, length-take-le}
use Rattle.program.specs.Lines.{letter, letters}
use Rattle.verdict.specs.declared.Lines.{Lines}
use Rattle.verdict.specs.Core.{with_text}
use Rattle.verdict.proofs.Laws.{both_texts, no_text, same_text, length-letters}
use Rattle.verdict.proofs.Lines.put_letters.Goals as goal

-- one letter more
letters-append : (v w : List ℕ) → letters (v ++ w) ≡ letters v ++ letters w
unfolding letters
letters-append [] w = refl
letters-append (x ∷ v) w = ap (λ (t : List ℕ). letter x ++ t) (letters-append v w) ∙ sym (append_assoc (letter x) (letters v) (letters w))

letters-next : (word : List ℕ) (i : ℕ) → i < length word → letters (take i word) ++ letter (get_or word i 0) ≡ letters (take (i + 1) word)
unfolding letters
letters-next word i h =
    sym (ap (λ (n : ℕ). letters (take n word)) (add-one i) ∙ ap letters (take-suc word i 0 h) ∙ letters-append (take i word) (get_or word i 0 ∷ [])
    ∙ ap (λ (t : List ℕ). letters (take i word) ++ t) (append-nil (letter (get_or word i 0))))

-- the loop has put three bytes a letter
so_far : (word : List ℕ) (i : ℕ) (before out : Lines) → i ≤ length word → out ≡ with_text (letters (take i word)) before → out.len ≡ before.len + 3 * i
so_far word i before out h p =
    let z : out.len ≡ before.len + length (letters (take i word)) = ap (λ (x : Lines). x.len) p in
    omega (arith, z, length-letters (take i word), length-take-le i word h)

pub loop-x-init : goal.loop-x-init
unfolding letters
loop-x-init c = no_text c.args.self.now (omega (arith, c.requires))

pub put_letter-requires : goal.put_letter-requires
put_letter-requires c =
    omega (arith, so_far c.args.word.now c.loop-x.x-index _ _ (omega arith) c.loop-x.invariant, c.requires)

pub loop-x-preserved : goal.loop-x-preserved
loop-x-preserved c =
    same_text _ _ _ _ (letters-next c.args.word.now c.loop-x.x-index (omega arith))
    (both_texts _ _ c.args.self.now c.loop-x.self _ (omega (arith, c.requires)) c.loop-x.invariant c.put_letter.ensures)
