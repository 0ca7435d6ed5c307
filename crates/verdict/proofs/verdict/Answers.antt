-- `verdict::verdict`: the input's parts are its sheets; the first that is refused is named, or the two are compared.
use Rattle.std.proofs.Common.{Result, ℕ, min, ◌≡◌, sym, ap, subst, ◌∙◌, List, arith, length, take, drop, replicate, length-take-le}
use Rattle.std.proofs.lemmas.List.{take_min, drop_min}
use Rattle.effect.specs.declared.Refusal.{Refusal}
use Rattle.sheet.specs.declared.Header.{Header}
use Rattle.sheet.specs.Sheet.{sheet_length, count_in, reading, Reads}
use Rattle.sheet.proofs.Heading.{count-lt}
use Rattle.goals.specs.Refusals.{given, side_number}
use Rattle.program.specs.Program.{left_sheet, right_sheet}
use Rattle.verdict.specs.Core.{of_text, comparison_lines}
use Rattle.verdict.proofs.Parting.{part-rest, unread, Readable, readable, lines_left, lines-right, lines-both}
use Rattle.verdict.proofs.verdict.Goals as goal
use Rattle.verdict.proofs.verdict.Goals.{After-lesser-end, After-read-on_left, After-read-on_right, In-Ok, In-Ok-on_right}

-- the lines of equal sides are equal
same_lines :
    {ls ls' rs rs' : ℕ} {left left' right right' : List ℕ} → ls ≡ ls' → left ≡ left' → rs ≡ rs' → right ≡ right'
    → comparison_lines (given ls left rs right) ≡ comparison_lines (given ls' left' rs' right')
same_lines a b c d = λ i. comparison_lines (given (a i) (b i) (c i) (d i))

-- where the left sheet ends
ends-at : (input : List ℕ) (end long : ℕ) → end ≡ min long (length input) → long ≡ sheet_length (count_in input) → end ≡ min (sheet_length (count_in input)) (length input)
ends-at input end long e f = e ∙ ap (λ (n : ℕ). min n (length input)) f

-- what is read is the left sheet, and then the right
reads-left : (input : List ℕ) (end : ℕ) (r : Result Header Refusal) (nodes : List ℕ) → end ≡ min (sheet_length (count_in input)) (length input)
    → Reads (take end input) (replicate 255 0) r nodes → Reads (left_sheet input) (replicate 255 0) r nodes
reads-left input end r nodes e h =
    subst (λ (x : List ℕ). Reads x (replicate 255 0) r nodes) (ap (λ (n : ℕ). take n input) e ∙ take_min _ input) h

reads-right : (input : List ℕ) (end : ℕ) (r : Result Header Refusal) (nodes : List ℕ) → end ≡ min (sheet_length (count_in input)) (length input)
    → Reads (drop end input) (replicate 255 0) r nodes → Reads (right_sheet input) (replicate 255 0) r nodes
reads-right input end r nodes e h =
    subst (λ (x : List ℕ). Reads x (replicate 255 0) r nodes) (ap (λ (n : ℕ). drop n input) e ∙ drop_min _ input) h

left-read : (c : After-read-on_left) → Reads (left_sheet c.args.input.now) (replicate 255 0) c.read-on_left.result c.read-on_left.new.nodes
left-read c =
    let input = c.args.input.now in
    reads-left input c.lesser-end.result _ _ (ends-at input _ _ c.lesser-end.ensures c.length_by_header.ensures) c.read-on_left.ensures

right-read : (c : After-read-on_right) → Reads (right_sheet c.args.input.now) (replicate 255 0) c.read-on_right.result c.read-on_right.new.nodes
right-read c =
    let input = c.args.input.now in
    reads-right input c.lesser-end.result _ _ (ends-at input _ _ c.lesser-end.ensures c.length_by_header.ensures)
    (subst (λ (x : List ℕ). Reads x (replicate 255 0) c.read-on_right.result c.read-on_right.new.nodes) (part-rest c.lesser-end.result input) c.read-on_right.ensures)

-- what was accepted
was-left : (c : In-Ok) → Readable (left_sheet c.args.input.now) (replicate 255 0) c.read-on_left.new.nodes c.in-Ok.field-0.s c.in-Ok.field-0.nodes
was-left c =
    let input = c.args.input.now in
    readable _ _ _ _ _ _ c.in-Ok.is (reads-left input c.lesser-end.result _ _ (ends-at input _ _ c.lesser-end.ensures c.length_by_header.ensures) c.read-on_left.ensures)

was-right : (c : In-Ok-on_right) → Readable (right_sheet c.args.input.now) (replicate 255 0) c.read-on_right.new.nodes c.in-Ok-on_right.field-0.s c.in-Ok-on_right.field-0.nodes
was-right c =
    let input = c.args.input.now in
    readable _ _ _ _ _ _ c.in-Ok-on_right.is
    (reads-right input c.lesser-end.result _ _ (ends-at input _ _ c.lesser-end.ensures c.length_by_header.ensures)
    (subst (λ (x : List ℕ). Reads x (replicate 255 0) c.read-on_right.result c.read-on_right.new.nodes) (part-rest c.lesser-end.result input) c.read-on_right.ensures))

pub returns-in_default : goal.returns-in_default
unfolding side_number reading
returns-in_default c =
    let u = unread _ _ _ _ _ c.in_default.is (left-read (goal.at.returns-in_default c).After-read-on_left) in
    c.unread.ensures ∙ ap of_text (lines_left _ _ u.0 u.1)

pub returns-in_default-on_right : goal.returns-in_default-on_right
unfolding side_number reading
returns-in_default-on_right c =
    let p = goal.at.returns-in_default-on_right c in
    let u = unread _ _ _ _ _ c.in_default-on_right.is (right-read p.After-read-on_right) in
    c.unread-in_default-on_right.ensures ∙ ap of_text (lines-right _ _ (was-left p.In-Ok).none u.0 u.1)

pub slice_bounds-left-end : goal.slice_bounds-left-end
slice_bounds-left-end c = omega (arith, (was-left (goal.at.slice_bounds-left-end c).In-Ok).count, count-lt (left_sheet c.args.input.now), c.read-on_left.auto.nodes)

pub slice_bounds-compared-end : goal.slice_bounds-compared-end
slice_bounds-compared-end c =
    sym (length-take-le _ _ (omega (arith, (was-left (goal.at.slice_bounds-compared-end c).In-Ok).count, count-lt (left_sheet c.args.input.now), c.read-on_left.auto.nodes)))

pub slice_bounds-right-end : goal.slice_bounds-right-end
slice_bounds-right-end c =
    omega (arith, (was-right (goal.at.slice_bounds-right-end c).In-Ok-on_right).count, count-lt (right_sheet c.args.input.now), c.read-on_right.auto.nodes)

pub slice_bounds-compared-end-2 : goal.slice_bounds-compared-end-2
slice_bounds-compared-end-2 c =
    sym (length-take-le _ _ (omega (arith, (was-right (goal.at.slice_bounds-compared-end-2 c).In-Ok-on_right).count, count-lt (right_sheet c.args.input.now), c.read-on_right.auto.nodes)))

pub returns : goal.returns
returns c =
    let p = goal.at.returns c in
    let l = was-left p.In-Ok in
    let r = was-right p.In-Ok-on_right in
    c.compared.ensures ∙ ap of_text (same_lines l.signals l.nodes r.signals r.nodes ∙ lines-both c.args.input.now l.none r.none)
