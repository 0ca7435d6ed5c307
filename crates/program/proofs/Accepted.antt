-- An input that is not refused: both sheets are read, and start accepts their sides.
use Rattle.std.proofs.Common.{ℕ, ◌≡◌, refl, sym, ap, ◌∙◌, Bool, true, false, cond, not, ◌⊎◌, List, [], ◌∷◌, arith, eqb, eqb-true}
use borrow.Author.Tests.{eqb-false}
use Rattle.effect.specs.Node.{decodings}
use Rattle.effect.specs.Refusals.{rule, side_refusal}
use Rattle.effect.proofs.Laws.{rule-none}
use Rattle.sheet.specs.Sheet.{signals_in, nodes_in, read_refusal}
use Rattle.sheet.proofs.Heading.{count-lt, length-nodes}
use Rattle.sheet.proofs.Accepted.{read_none, side-none}
use Rattle.goals.specs.Refusals.{Against, against, first, start_refusal}
use Rattle.program.specs.Program.{left_sheet, right_sheet, sides_in, refusal_in, ended_on}
use Rattle.program.proofs.Running.{three-outcomes}

-- ---- the first of the rules, where the one before is none, and where it is one
pub refusal-skip : (side n : ℕ) (rest : List Against) → n ≡ 0 → first (against side n ∷ rest) ≡ first rest
unfolding first
refusal-skip side n rest e = ap (λ (k : ℕ). cond (eqb k 0) (first rest) (against side k)) e

pub refusal-here : (side n : ℕ) (rest : List Against) → eqb n 0 ≡ false → first (against side n ∷ rest) ≡ against side n
unfolding first
refusal-here side n rest e = ap (λ (b : Bool). cond b (first rest) (against side n)) e

-- ---- sheets that are read
-- a sheet that is read is an accepted side
side-accepted : (sheet : List ℕ) → read_refusal sheet 255 ≡ 0 → side_refusal (signals_in sheet) (decodings (nodes_in sheet)) ≡ 0
side-accepted sheet h =
    let z = (read_none sheet 255).0 h in
    (side-none (signals_in sheet) (nodes_in sheet)).1
    record {
      signals = z.0.signals;
      some = λ e. z.0.some (sym (length-nodes sheet) ∙ e);
      few = omega (arith, count-lt sheet, length-nodes sheet);
      table = z.1;
    }

-- two of them: what start refuses is what the program refuses
no-fifteen : (n : ℕ) → first (against 3 n ∷ against 3 (rule 15 (eqb 1024 0)) ∷ []) ≡ first (against 3 n ∷ [])
unfolding first
no-fifteen n = ap (λ (k : ℕ). first (against 3 n ∷ against 3 k ∷ [])) ((rule-none 14 (eqb 1024 0)).1 refl)

pub start_is : (input : List ℕ) → read_refusal (left_sheet input) 255 ≡ 0 → read_refusal (right_sheet input) 255 ≡ 0 → start_refusal (sides_in input) 1024 ≡ refusal_in input
unfolding refusal_in start_refusal
start_is input l r =
    refusal-skip 1 _ _ (side-accepted (left_sheet input) l) ∙ refusal-skip 2 _ _ (side-accepted (right_sheet input) r)
    ∙ no-fifteen (rule 14 (not (eqb (sides_in input).ls (sides_in input).rs)))
    ∙ sym (refusal-skip 1 _ _ l ∙ refusal-skip 2 _ _ r)

-- ---- an input that is not refused
-- a refusal of number 0 is none
none_is : (rules : List Against) → (first rules).number ≡ 0 → first rules ≡ against 0 0
unfolding first
none_is [] h = refl
none_is (r ∷ rest) h = by (eqb r.number 0) refl h (none_is rest)
  where
    by : (b : Bool) → eqb r.number 0 ≡ b → (cond b (first rest) r).number ≡ 0 → ((first rest).number ≡ 0 → first rest ≡ against 0 0)
        → cond b (first rest) r ≡ against 0 0
    by true e h next = next h
    by false e h next = absurd (eqb-false _ _ e h)

module _ (input : List ℕ) (fine : (refusal_in input).number ≡ 0) where
  left-read : read_refusal (left_sheet input) 255 ≡ 0
  unfolding refusal_in
  left-read = by (eqb (read_refusal (left_sheet input) 255) 0) refl
    where
      by : (b : Bool) → eqb (read_refusal (left_sheet input) 255) 0 ≡ b → read_refusal (left_sheet input) 255 ≡ 0
      by true e = eqb-true _ _ e
      by false e = sym (ap (λ (w : Against). w.number) (refusal-here 1 _ _ e)) ∙ fine

  right-read : read_refusal (right_sheet input) 255 ≡ 0
  unfolding refusal_in
  right-read = by (eqb (read_refusal (right_sheet input) 255) 0) refl
    where
      by : (b : Bool) → eqb (read_refusal (right_sheet input) 255) 0 ≡ b → read_refusal (right_sheet input) 255 ≡ 0
      by true e = eqb-true _ _ e
      by false e = sym (ap (λ (w : Against). w.number) (refusal-skip 1 _ _ left-read ∙ refusal-here 2 _ _ e)) ∙ fine

  -- start accepts its sides
  pub input-accepted : start_refusal (sides_in input) 1024 ≡ against 0 0
  unfolding start_refusal
  input-accepted = none_is _ (ap (λ (w : Against). w.number) (start_is input left-read right-read) ∙ fine)

  -- outcome 0 cannot come out
  pub never-open : ((ended_on (sides_in input)).outcome ≡ 1) ⊎ (((ended_on (sides_in input)).outcome ≡ 2) ⊎ ((ended_on (sides_in input)).outcome ≡ 3))
  never-open = three-outcomes (sides_in input) input-accepted
