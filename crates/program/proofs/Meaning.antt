-- What is printed is true: from the output's first line to the traces of the two sides in the input.
use Rattle.std.proofs.Common.{ℕ, ◌<◌, ◌≡◌, refl, sym, ap, ap₂, subst, ◌∙◌, Bool, true, false, cond, ◌⊎◌, inl, inr, ◌≢◌, List, [], ◌++◌, append-nil, arith, eqb, length, get_or, drop, eqb-true}
use borrow.Author.Tests.{eqb-false}
use Rattle.goals.specs.Run.{State, trace_of}
use Rattle.goals.specs.Refusals.{Against}
use Rattle.program.specs.Lines.{ascii, outcome_line, counts_line, trace_line, refused_line, ended_lines}
use Rattle.program.specs.Program.{sides_in, refusal_in, ended_on, trace_in, lines_of}
use Rattle.program.specs.Meaning.{SaysIncluded, SaysRefuted, SaysNoRoom, NeverOpen, LinesMean, prints_lines}
use Rattle.program.proofs.Running.{ended-fits, ended-undone, ended-included, ended-goals, ended-refuted, all-used, outgrown}
use Rattle.program.proofs.Accepted.{input-accepted, never-open}

-- line 2 of a run that ended in the state
abbrev counts_of : State → List ℕ
counts_of st = counts_line st.settled (length st.rows)

-- ---- the four outputs: a refusal, or one of the three outcomes of an accepted input
data Output (input : List ℕ) : Type 0 where
  is_refused : (refusal_in input).number ≢ 0 → lines_of input ≡ refused_line (refusal_in input) → Output input
  is_included : (refusal_in input).number ≡ 0 → (ended_on (sides_in input)).outcome ≡ 1 → lines_of input ≡ ascii "included\n" ++ counts_of (ended_on (sides_in input)) → Output input
  is_refuted : (refusal_in input).number ≡ 0 → (ended_on (sides_in input)).outcome ≡ 2
      → lines_of input ≡ ascii "refuted\n" ++ (counts_of (ended_on (sides_in input)) ++ trace_line (trace_in (sides_in input))) → Output input
  is_no_room : (refusal_in input).number ≡ 0 → (ended_on (sides_in input)).outcome ≡ 3 → lines_of input ≡ ascii "no room\n" ++ counts_of (ended_on (sides_in input)) → Output input

-- the lines of a state by its outcome
abbrev ended_by : State → ℕ → List ℕ
ended_by st outcome = outcome_line outcome ++ counts_of st ++ cond (eqb outcome 2) (trace_line (trace_of st.rows st.settled)) []

output : (input : List ℕ) → Output input
unfolding ascii lines_of ended_lines outcome_line
output input = by (eqb (refusal_in input).number 0) refl
  where
    st : State
    st = ended_on (sides_in input)

    lines : (b : Bool) → eqb (refusal_in input).number 0 ≡ b → lines_of input ≡ cond b (ended_lines st) (refused_line (refusal_in input))
    lines b e = ap (λ (accepts : Bool). cond accepts (ended_lines st) (refused_line (refusal_in input))) e

    ended : (refusal_in input).number ≡ 0 → lines_of input ≡ ended_lines st → (st.outcome ≡ 1) ⊎ ((st.outcome ≡ 2) ⊎ (st.outcome ≡ 3)) → Output input
    ended fine is (inl e) = is_included fine e (is ∙ ap (ended_by st) e ∙ append-nil (ascii "included\n" ++ counts_of st))
    ended fine is (inr (inl e)) = is_refuted fine e (is ∙ ap (ended_by st) e)
    ended fine is (inr (inr e)) = is_no_room fine e (is ∙ ap (ended_by st) e ∙ append-nil (ascii "no room\n" ++ counts_of st))

    by : (b : Bool) → eqb (refusal_in input).number 0 ≡ b → Output input
    by true e = ended (eqb-true _ _ e) (lines true e) (never-open input (eqb-true _ _ e))
    by false e = is_refused (eqb-false _ _ e) (lines false e)

-- ---- which of them it is, told by the fifth byte: inclUded, refuTed, no rOom, refuSed
abbrev pub fifth : List ℕ → ℕ
fifth lines = get_or lines 4 0

fifth-refused : (why : Against) → fifth (refused_line why) ≡ 115
unfolding refused_line ascii
fifth-refused why = refl

-- and what stands behind the first line
module _ (input rest : List ℕ) where
  pub included-told : ascii "included\n" ++ rest ≡ lines_of input
      → ((refusal_in input).number ≡ 0) × ((ended_on (sides_in input)).outcome ≡ 1) × (rest ≡ counts_of (ended_on (sides_in input)))
  unfolding ascii
  included-told p =
      elim (output input) [
        | is_refused n e ↦ absurd (omega (arith, ap fifth (p ∙ e), fifth-refused (refusal_in input)))
        | is_included fine o e ↦ (fine, o, ap (drop 9) (p ∙ e))
        | is_refuted fine o e ↦ absurd (omega (arith, ap fifth (p ∙ e)))
        | is_no_room fine o e ↦ absurd (omega (arith, ap fifth (p ∙ e)))
      ]

  pub refuted-told : ascii "refuted\n" ++ rest ≡ lines_of input
      → ((refusal_in input).number ≡ 0)
      × ((ended_on (sides_in input)).outcome ≡ 2)
      × (rest ≡ counts_of (ended_on (sides_in input)) ++ trace_line (trace_in (sides_in input)))
  unfolding ascii
  refuted-told p =
      elim (output input) [
        | is_refused n e ↦ absurd (omega (arith, ap fifth (p ∙ e), fifth-refused (refusal_in input)))
        | is_included fine o e ↦ absurd (omega (arith, ap fifth (p ∙ e)))
        | is_refuted fine o e ↦ (fine, o, ap (drop 8) (p ∙ e))
        | is_no_room fine o e ↦ absurd (omega (arith, ap fifth (p ∙ e)))
      ]

  no-room-told : ascii "no room\n" ++ rest ≡ lines_of input
      → ((refusal_in input).number ≡ 0) × ((ended_on (sides_in input)).outcome ≡ 3) × (rest ≡ counts_of (ended_on (sides_in input)))
  unfolding ascii
  no-room-told p =
      elim (output input) [
        | is_refused n e ↦ absurd (omega (arith, ap fifth (p ∙ e), fifth-refused (refusal_in input)))
        | is_included fine o e ↦ absurd (omega (arith, ap fifth (p ∙ e)))
        | is_refuted fine o e ↦ absurd (omega (arith, ap fifth (p ∙ e)))
        | is_no_room fine o e ↦ (fine, o, ap (drop 8) (p ∙ e))
      ]

-- ---- what the program says
says-included : SaysIncluded prints_lines
says-included input rest p =
    let (fine, o, is) = included-told input rest p in
    let (goals, settled, used, once, each) = ended-goals (sides_in input) (input-accepted input fine) o in
    (fine, ended-included (sides_in input) (input-accepted input fine) o, (goals, is ∙ ap₂ counts_line (sym settled) (sym used), once, each))

says-refuted : SaysRefuted prints_lines
says-refuted input rest p =
    let (fine, o, is) = refuted-told input rest p in
    let starts = input-accepted input fine in
    let (l, r) = ended-refuted (sides_in input) starts o in
    (fine, (trace_in (sides_in input), is, l, r, ended-undone (sides_in input) starts (λ e. omega (arith, o, e)), ended-fits (sides_in input) starts))

says-no-room : SaysNoRoom prints_lines
says-no-room input rest p =
    let (fine, o, is) = no-room-told input rest p in
    let starts = input-accepted input fine in
    let all = all-used (sides_in input) starts o in
    let fewer : (ended_on (sides_in input)).settled < length (ended_on (sides_in input)).rows = ended-undone (sides_in input) starts (λ e. omega (arith, o, e)) in
    (fine, is ∙ ap (counts_line _) all, o, all, subst (λ (n : ℕ). (ended_on (sides_in input)).settled < n) all fewer, outgrown (sides_in input) starts o)

says-never-open : NeverOpen prints_lines
says-never-open input lines p =
    elim (output input) [
      | is_refused n e ↦ inl (n, p ∙ e)
      | is_included fine o e ↦ inr (fine, (_, inl (p ∙ e)))
      | is_refuted fine o e ↦ inr (fine, (_, inr (inl (p ∙ e))))
      | is_no_room fine o e ↦ inr (fine, (_, inr (inr (p ∙ e))))
    ]

pub lines-mean : LinesMean prints_lines
lines-mean =
    record {
      line_always = λ input. (lines_of input, refl);
      line_included = says-included;
      line_refuted = says-refuted;
      line_no_room = says-no-room;
      line_never_open = says-never-open;
    }
