-- The input's parting into two sheets, what the reader says of each, and the lines that follow.
use Rattle.std.proofs.Common.{Result, Ok, Err, ℕ, ◌-◌, ◌≡◌, refl, sym, ap, ap₂, ◌∙◌, Bool, true, false, cond, List, [], ◌∷◌, arith, eqb, length, get_or, take, drop, length-drop, take_all, take_at}
use Rattle.effect.specs.Refusals.{Answer, front}
use Rattle.sheet.specs.declared.Header.{Header}
use Rattle.effect.specs.declared.Refusal.{Refusal}
use Rattle.sheet.specs.Sheet.{signals_in, count_in, nodes_in, read_refusal, Left, exit, left, reading, read_of, Reads}
use Rattle.sheet.proofs.Heading.{length-nodes}
use Rattle.goals.specs.Refusals.{Against, against}
use Rattle.program.specs.Lines.{refused_line, ended_lines}
use Rattle.program.specs.Program.{left_sheet, right_sheet, sides_in, refusal_in, ended_on, lines_of}
use Rattle.program.proofs.Accepted.{refusal-skip, refusal-here, start_is}
use Rattle.verdict.specs.Core.{comparison_lines}

-- all that is left
pub part-rest : (n : ℕ) (input : List ℕ) → take (length input - n) (drop n input) ≡ drop n input
part-rest n input = take_all (length input - n) (drop n input) (omega (arith, length-drop n input))

-- what a refused reading says of its sheet
pub unread :
    (sheet lent lent' : List ℕ) (r : Result Header Refusal) (why : Refusal) → r ≡ Err why → Reads sheet lent r lent'
    → ((reading r).number ≡ read_refusal sheet (length lent)) × (eqb (read_refusal sheet (length lent)) 0 ≡ false)
unfolding reading read_of
unread sheet lent lent' r why e h = (
  ap (λ (x : Left). x.answer.number) h,
  by (eqb (read_refusal sheet (length lent)) 0) (sym (ap (λ (x : Result Header Refusal). (reading x).values) e) ∙ ap (λ (x : Left). x.answer.values) h),
)
  where
    by : (b : Bool) → [] ≡ cond b (signals_in sheet ∷ count_in sheet ∷ []) [] → b ≡ false
    by true x = absurd (omega (arith, ap length x))
    by false x = refl

-- what an accepted one says: s, and the nodes at the front of the table
pub record Readable (sheet lent lent' : List ℕ) (s n : ℕ) : Type 0 where
  pub none : read_refusal sheet (length lent) ≡ 0
  pub signals : s ≡ signals_in sheet
  pub count : n ≡ count_in sheet
  pub nodes : take n lent' ≡ nodes_in sheet

pub readable : (sheet lent lent' : List ℕ) (r : Result Header Refusal) (s n : ℕ) → r ≡ Ok (record { s = s; nodes = n }) → Reads sheet lent r lent' → Readable sheet lent lent' s n
unfolding reading read_of
readable sheet lent lent' r s n e h =
    let answer : reading r ≡ record { number = 0; values = s ∷ n ∷ [] } = ap reading e in
    let none : read_refusal sheet (length lent) ≡ 0 = sym (ap (λ (x : Left). x.answer.number) h) ∙ ap (λ (x : Answer). x.number) answer in
    let whole : exit (record { number = 0; values = s ∷ n ∷ [] }) lent' ≡ exit (record { number = 0; values = signals_in sheet ∷ count_in sheet ∷ [] }) (front (nodes_in sheet) lent) =
    sym (ap (λ (a : Answer). exit a lent') answer) ∙ h ∙ ap (λ (k : ℕ). left k (signals_in sheet ∷ count_in sheet ∷ []) (nodes_in sheet) lent) none in
    let value : (k : ℕ) → get_or (s ∷ n ∷ []) k 0 ≡ get_or (signals_in sheet ∷ count_in sheet ∷ []) k 0 = λ k. ap (λ (x : Left). get_or x.answer.values k 0) whole in
    record {
      none = none;
      signals = value 0;
      count = value 1;
      nodes = ap₂ take (value 1) (ap (λ (x : Left). x.lent) whole) ∙ take_at (nodes_in sheet) _ (count_in sheet) (length-nodes sheet);
    }

-- the left sheet refused
refused-is : (input : List ℕ) (why : Against) → refusal_in input ≡ why → eqb why.number 0 ≡ false → refused_line why ≡ lines_of input
unfolding lines_of
refused-is input why e h =
    sym (ap (λ (w : Against). cond (eqb w.number 0) (ended_lines (ended_on (sides_in input))) (refused_line w)) e
    ∙ ap (λ (b : Bool). cond b (ended_lines (ended_on (sides_in input))) (refused_line why)) h)

pub lines_left : (input : List ℕ) (n : ℕ) → n ≡ read_refusal (left_sheet input) 255 → eqb (read_refusal (left_sheet input) 255) 0 ≡ false → refused_line (against 1 n) ≡ lines_of input
unfolding refusal_in
lines_left input n e h = ap (λ (k : ℕ). refused_line (against 1 k)) e ∙ refused-is input _ (refusal-here 1 _ _ h) h

-- the right one, and not the left
pub lines-right :
    (input : List ℕ) (n : ℕ) → read_refusal (left_sheet input) 255 ≡ 0 → n ≡ read_refusal (right_sheet input) 255 → eqb (read_refusal (right_sheet input) 255) 0 ≡ false
    → refused_line (against 2 n) ≡ lines_of input
unfolding refusal_in
lines-right input n l e h = ap (λ (k : ℕ). refused_line (against 2 k)) e ∙ refused-is input _ (refusal-skip 1 _ _ l ∙ refusal-here 2 _ _ h) h

-- neither
pub lines-both : (input : List ℕ) → read_refusal (left_sheet input) 255 ≡ 0 → read_refusal (right_sheet input) 255 ≡ 0 → comparison_lines (sides_in input) ≡ lines_of input
unfolding lines_of
lines-both input l r = ap (λ (w : Against). cond (eqb w.number 0) (ended_lines (ended_on (sides_in input))) (refused_line w)) (start_is input l r)
