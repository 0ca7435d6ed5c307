-- Each return is the definition at the tests passed so far. What is read is first written back as the field that it is.
use Prim.Native.Nat.{◌<◌, ◌^◌}
use mathlib.Core.Path.{◌≡◌}
use mathlib.Core.Bool.{not}
use mathlib.Core.List.{[], ◌∷◌}
use native.Mathlib.Omega.{arith}
use lib.Dec.{eqb, ltb}
use borrow.Author.Tests.{lt-ltb, le-ltb, eq-eqb, ne_eqb}
use Rattle.effect.specs.Refusals.{rule, lowest}
use Rattle.sheet.specs.Sheet.{signals_in, count_in, header_refusal, reading}
use Rattle.sheet.proofs.Heading.{read-lt, count-lt, filling-field}
use Rattle.sheet.proofs.read_header.Goals as goal
use Rattle.sheet.proofs.read_header.Goals.{After-field_at, Else-n-eq0}

pub returns-then-sheet-lt2 : goal.returns-then-sheet-lt2
unfolding reading header_refusal lowest
returns-then-sheet-lt2 c = rw (lt-ltb _ _ c.if-sheet-lt2.true)

pub overflow_cast-s : goal.overflow_cast-s
overflow_cast-s c = omega (arith, read-lt c.args.sheet.now _ _ _ c.field_at-s.ensures)

pub returns-then-s-gt8 : goal.returns-then-s-gt8
unfolding reading header_refusal lowest signals_in
returns-then-s-gt8 c =
    let s : c.field_at-s.result ≡ signals_in c.args.sheet.now = c.field_at-s.ensures in
    rw (← s, le-ltb _ _ c.if-sheet-lt2.false, lt-ltb _ _ c.if-s-gt8.true)

pub returns-then-n-eq0 : goal.returns-then-n-eq0
unfolding reading header_refusal lowest signals_in count_in
returns-then-n-eq0 c =
    rw (← c.field_at-s.ensures, ← c.field_at-n.ensures, le-ltb _ _ c.if-sheet-lt2.false, le-ltb _ _ c.if-s-gt8.false, eq-eqb _ _ c.if-n-eq0.true)

-- N has 8 bits
small : (c : Else-n-eq0) → c.field_at-n.result < 2 ^ 8
unfolding count_in
small c = omega (arith, count-lt c.args.sheet.now, c.field_at-n.ensures)

pub length_of-length-requires : goal.length_of-length-requires
length_of-length-requires c = omega (arith, small c)

pub returns-then-sheet-length : goal.returns-then-sheet-length
unfolding reading header_refusal lowest signals_in count_in
returns-then-sheet-length c =
    rw (
      ← c.field_at-s.ensures,
      ← c.field_at-n.ensures,
      ← c.length_of-length.ensures,
      le-ltb _ _ c.if-sheet-lt2.false,
      le-ltb _ _ c.if-s-gt8.false,
      ne_eqb _ _ c.if-n-eq0.false,
      ne_eqb _ _ c.if-sheet-length.true,
    )

pub field_at-requires : goal.field_at-requires
field_at-requires c = omega (arith, small (goal.at.field_at-requires c).Else-n-eq0)

-- past 4 what was read of the filling decides, then what was lent
past-four :
    (c : After-field_at)
    → let a = c.args in
    header_refusal a.sheet.now a.lent ≡ lowest (rule 5 (not (eqb c.field_at.result 0)) ∷ rule 6 (ltb a.lent c.field_at-n.result) ∷ [])
unfolding header_refusal lowest signals_in count_in
past-four c =
    rw (
      filling-field,
      ← c.field_at-s.ensures,
      ← c.field_at-n.ensures,
      ← c.length_of-length.ensures,
      ← c.field_at.ensures,
      le-ltb _ _ c.if-sheet-lt2.false,
      le-ltb _ _ c.if-s-gt8.false,
      ne_eqb _ _ c.if-n-eq0.false,
      eq-eqb _ _ c.if-sheet-length.false,
    )

pub returns-then-field_at-ne0 : goal.returns-then-field_at-ne0
unfolding reading lowest
returns-then-field_at-ne0 c = rw (past-four (goal.at.returns-then-field_at-ne0 c).After-field_at, ne_eqb c.field_at.result 0 c.if-field_at-ne0.true)

pub returns-then-lent-n : goal.returns-then-lent-n
unfolding reading lowest
returns-then-lent-n c = rw (past-four (goal.at.returns-then-lent-n c).After-field_at, eq-eqb c.field_at.result 0 c.if-field_at-ne0.false, lt-ltb _ _ c.if-lent-n.true)

pub returns : goal.returns
unfolding reading lowest signals_in count_in
returns c =
    rw (
      past-four (goal.at.returns c).After-field_at,
      eq-eqb c.field_at.result 0 c.if-field_at-ne0.false,
      le-ltb _ _ c.if-lent-n.false,
      ← c.field_at-s.ensures,
      ← c.field_at-n.ensures,
    )
