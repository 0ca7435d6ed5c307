-- Each of the bad programs breaks a statement: on a worked input, where ours says the truth, or on the empty input, which is refused.
use Rattle.std.proofs.Common.{ℕ, ◌≡◌, refl, sym, ap, ◌∙◌, Bool, true, cond, ⊎_elim, ◌≢◌, List, [], ◌∷◌, ◌++◌, arith, eqb, ltb, length, get_or, eq-eqb}
use Rattle.bits.specs.Bit.{bit}
use Rattle.effect.specs.Node.{kind_of, decode_of, fields_of, number_of}
use Rattle.effect.specs.Refusals.{lowest, one_if_instant, instants}
use Rattle.effect.proofs.Examples.{instant-trace}
use Rattle.sheet.specs.Bits.{digits, each, field, fields}
use Rattle.sheet.specs.Sheet.{signals_in, count_in, nodes_in, header_refusal, read_refusal}
use Rattle.goals.specs.Refusals.{Against, against, first}
use Rattle.demands.specs.Demands.{LeftTrace, RightTrace, row_of, Reaches, most}
use Rattle.program.specs.Lines.{ascii, digit, decimal_in, letter, letters, side_text, counts_line, trace_line, refused_line, ended_lines}
use Rattle.program.specs.Program.{sides_in, refusal_in, ended_on}
use Rattle.program.specs.Meaning.{Program, AlwaysPrints, SaysIncluded, SaysRefuted, SaysNoRoom, NeverOpen}
use Rattle.program.specs.BadPrograms.{prints_included, prints_refuted, prints_no_room, prints_open, prints_nothing, prints_refused, never_prints, of_outcome, includes_none, includes_all_rows, refutes_bare, refutes_emptily, exchanges_counts, of_refused, includes_refused, refutes_refused, no_room_refused, blames_both, no_room_above}
use Rattle.program.proofs.Meaning.{fifth, included-told, refuted-told, lines-mean}
use Rattle.program.proofs.Reading.{counts-told}
use Rattle.program.proofs.Worked.{worked_input, exchanged, above_input, worked-input, worked-exchanged, worked-above}

-- a line 2 that nothing stands behind
counts_alone : (a b c d : ℕ) → counts_line a b ≡ counts_line c d → (a ≡ c) × (b ≡ d)
counts_alone a b c d e = let (first, second, behind) = counts-told a b c d [] [] (ap (λ (line : List ℕ). line ++ []) e) in (first, second)

-- ---- the truth, as ours says it
-- how the runs end
worked-refuted : ((refusal_in worked_input).number ≡ 0) × ((ended_on (sides_in worked_input)).outcome ≡ 2)
unfolding ascii
worked-refuted =
    let (fine, o, is) = refuted-told worked_input (ascii "settled 1 of 3 rows\ntrace 00\n") (sym worked-input) in
    (fine, o)

worked-included : ((refusal_in exchanged).number ≡ 0) × ((ended_on (sides_in exchanged)).outcome ≡ 1)
unfolding ascii
worked-included =
    let (fine, o, is) = included-told exchanged (ascii "settled 2 of 2 rows\n") (sym worked-exchanged) in
    (fine, o)

truly-refuted : (w : List ℕ) × LeftTrace (sides_in worked_input) w × (RightTrace (sides_in worked_input) w → ⊥)
unfolding ascii
truly-refuted =
    let (fine, (w, is, l, r, fewer, few)) = lines-mean.line_refuted worked_input (ascii "settled 1 of 3 rows\ntrace 00\n") (sym worked-input) in
    (w, l, r)

truly-included : (w : List ℕ) → LeftTrace (sides_in exchanged) w → RightTrace (sides_in exchanged) w
unfolding ascii
truly-included = (lines-mean.line_included exchanged (ascii "settled 2 of 2 rows\n") (sym worked-exchanged)).1

-- a goal that some trace reaches: each of the two that ours counts
some-goal : (p : ℕ) × (S : ℕ) × (w : List ℕ) × Reaches (sides_in exchanged) w p S
unfolding ascii digit decimal_in counts_line
some-goal =
    let (fine, among, (goals, is, once, each)) = lines-mean.line_included exchanged (ascii "settled 2 of 2 rows\n") (sym worked-exchanged) in
    let two : 2 ≡ length goals = (counts_alone 2 2 (length goals) (length goals) is).0 in
    let (w, reached) = (each (row_of goals 0).place (row_of goals 0).set).0 (0, omega arith, refl, refl) in
    ((row_of goals 0).place, (row_of goals 0).set, w, reached)

-- 1 + 1 × 2^1
three-goals : most (sides_in worked_input) ≡ 3
unfolding bit kind_of decode_of fields_of number_of one_if_instant instants signals_in count_in nodes_in digits each field fields
three-goals = refl

-- to an input that is not refused the text is printed
prints : (input text : List ℕ) → (refusal_in input).number ≡ 0 → text ≡ cond (eqb (refusal_in input).number 0) text (refused_line (refusal_in input))
prints input text fine = ap (λ (n : ℕ). cond (eqb n 0) text (refused_line (refusal_in input))) (sym fine)

-- and where the run ends with the outcome
at-outcome : (input text : List ℕ) (o : ℕ) → ((refusal_in input).number ≡ 0) × ((ended_on (sides_in input)).outcome ≡ o) → of_outcome o (λ st. text) input text
at-outcome input text o (fine, e) =
    let st = ended_on (sides_in input) in
    sym (ap (λ (n : ℕ). cond (eqb n 0) (cond (eqb st.outcome o) text (ended_lines st)) (refused_line (refusal_in input))) fine
    ∙ ap (λ (b : Bool). cond b text (ended_lines st)) (eq-eqb _ _ e))

-- ---- `included`: ours has a trace of the left that the right lacks
pub prints-included : SaysIncluded prints_included → ⊥
prints-included h =
    let (w, l, r) = truly-refuted in
    r ((h worked_input _ (prints worked_input _ worked-refuted.0)).1 w l)

-- no row is counted, though some trace reaches a goal
pub includes_none_lem : SaysIncluded includes_none → ⊥
includes_none_lem h =
    let (fine, among, (goals, is, once, each)) = h exchanged _ (at-outcome exchanged _ 1 worked-included) in
    let none : 0 ≡ length goals = (counts_alone 0 0 (length goals) (length goals) is).0 in
    let (p, S, w, reached) = some-goal in
    let (i, below, place, set) = (each p S).1 (w, reached) in
    omega (arith, none, below)

-- two rows are settled, and so two are used
pub includes-all-rows : SaysIncluded includes_all_rows → ⊥
unfolding ascii digit decimal_in counts_line
includes-all-rows h =
    let (fine, o, line) = included-told exchanged (ascii "settled 2 of 2 rows\n") (sym worked-exchanged) in
    let two : 2 ≡ (ended_on (sides_in exchanged)).settled = (counts_alone 2 2 (ended_on (sides_in exchanged)).settled (length (ended_on (sides_in exchanged)).rows) line).0 in
    let (none, among, (goals, is, once, each)) = h exchanged _ (at-outcome exchanged _ 1 worked-included) in
    let (settled, used) = counts_alone (ended_on (sides_in exchanged)).settled 1024 (length goals) (length goals) is in
    omega (arith, two, settled, used)

-- ---- `refuted`: whatever the trace, ours says that the right has it
pub prints-refuted : SaysRefuted prints_refuted → ⊥
prints-refuted h =
    let (fine, (w, is, l, r, fewer, few)) = h exchanged _ (prints exchanged _ worked-included.0) in
    r (truly-included w l)

-- there is no line 2
pub refutes-bare : SaysRefuted refutes_bare → ⊥
unfolding ascii counts_line
refutes-bare h =
    let (fine, (w, is, l, r, fewer, few)) = h worked_input [] (at-outcome worked_input _ 2 worked-refuted) in
    omega (arith, ap (λ (rest : List ℕ). get_or rest 0 0) is)

-- the left has traces of one letter alone
pub refutes-emptily : SaysRefuted refutes_emptily → ⊥
unfolding bit kind_of decode_of fields_of number_of signals_in count_in nodes_in digits each field fields ascii trace_line letters letter
refutes-emptily h =
    let (fine, (w, is, l, r, fewer, few)) = h worked_input _ (at-outcome worked_input _ 2 worked-refuted) in
    let (x, one, m) = instant-trace _ _ _ 0 0 w refl l in
    let line : trace_line [] ≡ trace_line (x ∷ []) = (counts-told _ _ _ _ _ _ is).2 ∙ ap trace_line one in
    omega (arith, ap (λ (text : List ℕ). get_or text 5 0) line)

-- fewer rows are settled than used
pub exchanges-counts : SaysRefuted exchanges_counts → ⊥
exchanges-counts h =
    let (fine, (w, is, l, r, fewer, few)) = h worked_input _ (at-outcome worked_input _ 2 worked-refuted) in
    let (first, second, third) = counts-told _ _ _ _ _ _ is in
    omega (arith, fewer, first)

-- ---- `no room`: 1,024 rows are room enough for 3 goals
pub prints-no-room : SaysNoRoom prints_no_room → ⊥
prints-no-room h =
    let (fine, is, o, all, fewer, above) = h worked_input _ (prints worked_input _ worked-refuted.0) in
    omega (arith, above, three-goals)

-- the run ends for another reason, though 1 + 1 × 2^10 is above 1,024
above-bound : ltb 1024 (most (sides_in above_input)) ≡ true
unfolding bit kind_of decode_of fields_of number_of one_if_instant instants signals_in count_in nodes_in digits each field fields
above-bound = refl

pub no-room-above : SaysNoRoom no_room_above → ⊥
unfolding ascii
no-room-above h =
    let st = ended_on (sides_in above_input) in
    let (fine, two, line) = refuted-told above_input (ascii "settled 1 of 2 rows\ntrace 00\n") (sym worked-above) in
    let text : List ℕ = ascii "no room\n" ++ counts_line st.settled 1024 in
    let p : no_room_above above_input text =
    sym (ap (λ (n : ℕ). cond (eqb n 0) (cond (ltb 1024 (most (sides_in above_input))) text (ended_lines st)) (refused_line (refusal_in above_input))) fine
    ∙ ap (λ (b : Bool). cond b text (ended_lines st)) above-bound) in
    let (none, is, three, all, fewer, above) = h above_input (counts_line st.settled 1024) p in
    omega (arith, two, three)

-- ---- a text that is none of the three, as its fifth byte tells: nothing, a run left open, or a refusal where there is none
none-of-three : (Prints : Program) (text : List ℕ) → Prints worked_input text → fifth text ≢ 117 → fifth text ≢ 116 → fifth text ≢ 111 → NeverOpen Prints → ⊥
unfolding ascii
none-of-three Prints text p u t o h =
    ⊎_elim (λ k. k.0 worked-refuted.0)
    (λ k. ⊎_elim (λ e. u (ap fifth e)) (⊎_elim (λ e. t (ap fifth e)) (λ e. o (ap fifth e))) k.1.1)
    (h worked_input text p)

pub prints-nothing : NeverOpen prints_nothing → ⊥
prints-nothing = none-of-three prints_nothing _ (prints worked_input _ worked-refuted.0) (λ e. omega (arith, e)) (λ e. omega (arith, e)) (λ e. omega (arith, e))

pub prints-open : NeverOpen prints_open → ⊥
unfolding ascii
prints-open = none-of-three prints_open _ (prints worked_input _ worked-refuted.0) (λ e. omega (arith, e)) (λ e. omega (arith, e)) (λ e. omega (arith, e))

pub prints-refused : NeverOpen prints_refused → ⊥
unfolding ascii refused_line
prints-refused = none-of-three prints_refused _ (prints worked_input _ worked-refuted.0) (λ e. omega (arith, e)) (λ e. omega (arith, e)) (λ e. omega (arith, e))

-- ---- the empty input is refused: its left has no header
empty-refused : refusal_in [] ≡ against 1 1
unfolding refusal_in read_refusal header_refusal lowest first count_in signals_in nodes_in field fields each
empty-refused = refl

at-refused : (text : List ℕ) → of_refused (λ input. text) [] text
at-refused text = sym (ap (λ (why : Against). cond (eqb why.number 0) (ended_lines (ended_on (sides_in []))) text) empty-refused)

is_one : (refusal_in []).number ≡ 1
is_one = ap (λ (why : Against). why.number) empty-refused

-- so nothing is told of its sides
pub includes-refused : SaysIncluded includes_refused → ⊥
includes-refused h = omega (arith, (h [] _ (at-refused _)).0, is_one)

pub refutes-refused : SaysRefuted refutes_refused → ⊥
refutes-refused h = omega (arith, (h [] _ (at-refused _)).0, is_one)

pub no-room-refused : SaysNoRoom no_room_refused → ⊥
no-room-refused h = omega (arith, (h [] _ (at-refused _)).0, is_one)

-- a text that is not its line, as one of its bytes tells
not-its-line : (Prints : Program) (text : List ℕ) (i : ℕ) → Prints [] text → get_or text i 0 ≢ get_or (refused_line (against 1 1)) i 0 → NeverOpen Prints → ⊥
not-its-line Prints text i p differs h =
    ⊎_elim (λ k. differs (ap (λ (line : List ℕ). get_or line i 0) (k.1 ∙ ap refused_line empty-refused))) (λ k. omega (arith, k.0, is_one)) (h [] text p)

pub includes-refused-too : NeverOpen includes_refused → ⊥
unfolding ascii refused_line
includes-refused-too = not-its-line includes_refused _ 0 (at-refused _) (λ e. omega (arith, e))

-- it is the left that is refused
pub blames-both : NeverOpen blames_both → ⊥
unfolding ascii refused_line side_text
blames-both = not-its-line blames_both _ 8 (at-refused _) (λ e. omega (arith, e))

-- ---- no answer at all
pub never-prints : AlwaysPrints never_prints → ⊥
never-prints h = (h []).1
