-- The loop has put the bytes before this one.
use Rattle.std.proofs.Common.{ℕ, ◌+◌, ◌<◌, ◌≤◌, ◌≡◌, sym, ap, ◌∙◌, List, [], ◌∷◌, ◌++◌, arith, add-one, length, get_or, set, take, take-suc, length-take-le}
use Rattle.effect.specs.Refusals.{front}
use Rattle.effect.proofs.Front.{front-next, front-taken}
use Rattle.verdict.specs.declared.Lines.{Lines}
use Rattle.verdict.specs.Core.{with_text}
use Rattle.verdict.proofs.Laws.{both_texts, same_text, stands_to}
use Rattle.verdict.proofs.Lines.put.Goals as goal

-- one byte put behind what stands there
one_byte : (x : ℕ) (out : Lines) → out.len < length out.bytes → record { bytes = set out.bytes out.len x; len = out.len + 1 } ≡ with_text (x ∷ []) out
one_byte x out h = λ i. record { bytes = bytes i; len = out.len + 1 }
  where
    bytes : set out.bytes out.len x ≡ front (take out.len out.bytes ++ (x ∷ [])) out.bytes
    bytes =
        ap (λ (l : List ℕ). set l out.len x) (sym (front-taken out.len out.bytes (omega (arith, h))))
        ∙ front-next (take out.len out.bytes) out.bytes out.len x (length-take-le out.len out.bytes (omega (arith, h))) h

-- one byte more
byte_next : (text : List ℕ) (k : ℕ) (before out : Lines) → before.len ≤ length before.bytes → k < length text → out.len < length out.bytes → out ≡ with_text (take k text) before
    → record { bytes = set out.bytes out.len (get_or text k 0); len = out.len + 1 } ≡ with_text (take (k + 1) text) before
byte_next text k before out h l m p =
    same_text _ _ before _ (sym (ap (λ (n : ℕ). take n text) (add-one k) ∙ take-suc text k 0 l))
    (both_texts (take k text) (get_or text k 0 ∷ []) before out _ h p (one_byte (get_or text k 0) out m))

-- how far the loop has come
so_far : (text : List ℕ) (k : ℕ) (before out : Lines) → k ≤ length text → out ≡ with_text (take k text) before → out.len ≡ before.len + k
so_far text k before out h p = let z = stands_to (take k text) before out p in omega (arith, z, length-take-le k text h)

pub loop-byte-preserved : goal.loop-byte-preserved
loop-byte-preserved c =
    let z = so_far c.args.text.now c.loop-byte.byte-index c.args.self.now c.loop-byte.self (omega arith) c.loop-byte.invariant in
    byte_next c.args.text.now c.loop-byte.byte-index c.args.self.now c.loop-byte.self (omega (arith, c.requires)) (omega arith) (omega (arith, z, c.requires)) c.loop-byte.invariant
