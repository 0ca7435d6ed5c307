-- Each promise fixes what a call leaves: two results that meet the promise of `read`, or of `write`, are equal. An
-- answer's number and values tell every case of a result from every other, and what is lent is left as it says.
use Prim.Native.Nat.{ℕ}
use mathlib.Core.Path.{◌≡◌, refl, sym, ap, ◌∙◌}
use mathlib.Core.List.{List}
use native.Mathlib.Omega.{arith}
use lib.ListN.{length, get_or}
use Rattle.effect.specs.Refusals.{Answer}
use Rattle.effect.specs.declared.Refusal.{Refusal}
use Rattle.effect.proofs.Numbers.{number-inj}
use Rattle.std.specs.Prelude.{Option, Result, Ok, Err}
use Rattle.sheet.specs.declared.Header.{Header}
use Rattle.sheet.specs.Sheet.{Left, reading, writing, Reads, Writes}
use Rattle.sheet.specs.Promises.{LengthByHeaderIs, RefusalOfIs}

number_of : {a b : Answer} → a ≡ b → a.number ≡ b.number
number_of e = ap (λ (t : Answer). t.number) e

-- a refusal has no values, and an answer of values is none
differ : {a b : Answer} {P : Type 0} → a ≡ b → (length a.values ≡ length b.values → ⊥) → P
differ e h = absurd (h (ap (λ (t : Answer). length t.values) e))

pub reading-one : (r r' : Result Header Refusal) → reading r ≡ reading r' → r ≡ r'
unfolding reading
reading-one (Ok h) (Ok h') e = λ i. Ok (record { s = get_or (e i).values 0 0; nodes = get_or (e i).values 1 0 })
reading-one (Ok h) (Err r) e = differ e (λ h. omega arith)
reading-one (Err r) (Ok h) e = differ e (λ h. omega arith)
reading-one (Err r) (Err r') e = ap Err (number-inj r r' (number_of e))

pub writing-one : (r r' : Result ℕ Refusal) → writing r ≡ writing r' → r ≡ r'
unfolding writing
writing-one (Ok n) (Ok n') e = cc (ap (λ (t : Answer). t.values) e)
writing-one (Ok n) (Err r) e = differ e (λ h. omega arith)
writing-one (Err r) (Ok n) e = differ e (λ h. omega arith)
writing-one (Err r) (Err r') e = ap Err (number-inj r r' (number_of e))

answer-of : {a b : Left} → a ≡ b → a.answer ≡ b.answer
answer-of e = ap (λ (t : Left). t.answer) e

lent_of : {a b : Left} → a ≡ b → a.lent ≡ b.lent
lent_of e = ap (λ (t : Left). t.lent) e

pub read_one : (sheet lent l l' : List ℕ) (r r' : Result Header Refusal) → Reads sheet lent r l → Reads sheet lent r' l' → (r ≡ r') × (l ≡ l')
read_one sheet lent l l' r r' p q = let e = p ∙ sym q in (reading-one r r' (answer-of e), lent_of e)

pub write-one : (s : ℕ) (ns out o o' : List ℕ) (r r' : Result ℕ Refusal) → Writes s ns out r o → Writes s ns out r' o' → (r ≡ r') × (o ≡ o')
write-one s ns out o o' r r' p q = let e = p ∙ sym q in (writing-one r r' (answer-of e), lent_of e)

pub length-by-header-one : (sheet : List ℕ) (r r' : ℕ) → LengthByHeaderIs sheet r → LengthByHeaderIs sheet r' → r ≡ r'
length-by-header-one sheet r r' e f = e ∙ sym f

pub refusal-of-one : (answer : Result Header ℕ) (r r' : Option ℕ) → RefusalOfIs answer r → RefusalOfIs answer r' → r ≡ r'
refusal-of-one answer r r' e f = e ∙ sym f
