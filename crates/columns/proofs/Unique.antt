-- Each promise fixes what a call leaves: two results that meet the promise of `start_on`, `run_on` or `trace_on` are equal. An
-- answer's refusal and values tell every case of a result from every other.
use Rattle.std.specs.Prelude.{Result, Ok, Err}
use Prim.Native.Nat.{ℕ}
use mathlib.Core.Path.{◌≡◌, refl, sym, ap, ◌∙◌}
use mathlib.Core.List.{List}
use native.Mathlib.Omega.{arith}
use lib.ListN.{length, get_or}
use Rattle.goals.specs.declared.Run.{Run}
use Rattle.goals.specs.declared.Which.{Which}
use Rattle.goals.specs.declared.Which.TheVariants.{Left, Right, Both}
use Rattle.goals.specs.declared.SideRefusal.{SideRefusal}
use Rattle.goals.specs.Refusals.{Against, side_number, against_of, Reply, Leaves}
use Rattle.asking.specs.declared.Asked.{Asked}
use Rattle.goals.specs.declared.Row.{Row}
use Rattle.columns.specs.Tables.{ViewIs, RowsIs, TakesRows, GivesRows}
use Rattle.columns.specs.Calls.{Columns, called, tracing, Starts, Runs, Traces}

-- a refusal has no values, and an answer of values is none
differ : {a b : Reply} {P : Type 0} → a ≡ b → (length a.values ≡ length b.values → ⊥) → P
differ e h = absurd (h (ap (λ (t : Reply). length t.values) e))

value : {a b : Reply} → a ≡ b → (i : ℕ) → get_or a.values i 0 ≡ get_or b.values i 0
value e i = ap (λ (t : Reply). get_or t.values i 0) e

side-one : (a b : Which) → side_number a ≡ side_number b → a ≡ b
unfolding side_number
side-one Left Left e = refl
side-one Left Right e = absurd (omega (arith, e))
side-one Left Both e = absurd (omega (arith, e))
side-one Right Left e = absurd (omega (arith, e))
side-one Right Right e = refl
side-one Right Both e = absurd (omega (arith, e))
side-one Both Left e = absurd (omega (arith, e))
side-one Both Right e = absurd (omega (arith, e))
side-one Both Both e = refl

pub refusal-one : (a b : SideRefusal) → against_of a ≡ against_of b → a ≡ b
refusal-one a b e = λ i. record { side = side-one a.side b.side (ap (λ (n : Against). n.side) e) i; number = ap (λ (n : Against). n.number) e i }

pub called-one : (r r' : Result Run SideRefusal) → called r ≡ called r' → r ≡ r'
unfolding called
called-one (Ok r) (Ok r') e = λ i. Ok (record { settled = value e 0 i; used = value e 1 i; outcome = value e 2 i })
called-one (Ok r) (Err w) e = differ e (λ h. omega (arith, h))
called-one (Err w) (Ok r) e = differ e (λ h. omega (arith, h))
called-one (Err w) (Err w') e = ap Err (refusal-one w w' (ap (λ (t : Reply). t.refusal) e))

pub tracing-one : (r r' : Result ℕ SideRefusal) → tracing r ≡ tracing r' → r ≡ r'
unfolding tracing
tracing-one (Ok n) (Ok n') e = λ i. Ok (value e 0 i)
tracing-one (Ok n) (Err w) e = differ e (λ h. omega (arith, h))
tracing-one (Err w) (Ok n) e = differ e (λ h. omega (arith, h))
tracing-one (Err w) (Err w') e = ap Err (refusal-one w w' (ap (λ (t : Reply). t.refusal) e))

pub left_one : {Lent : Type 0} {a b : Leaves Lent} → a ≡ b → (a.reply ≡ b.reply) × (a.lent ≡ b.lent)
left_one {Lent} e = (ap (λ (t : Leaves Lent). t.reply) e, ap (λ (t : Leaves Lent). t.lent) e)

pub start-one : (a : Asked) (lent : ℕ) (c d d' : Columns) (r r' : Result Run SideRefusal) → Starts a lent c r d → Starts a lent c r' d' → (r ≡ r') × (d ≡ d')
start-one a lent c d d' r r' p q = let e = left_one (p ∙ sym q) in (called-one r r' e.0, e.1)

pub run-one : (a : Asked) (lent : ℕ) (c d d' : Columns) (held : Run) (budget : ℕ) (r r' : Result Run SideRefusal) → Runs a lent c held budget r d → Runs a lent c held budget r' d' → (r ≡ r') × (d ≡ d')
run-one a lent c d d' held budget r r' p q = let e = left_one (p ∙ sym q) in (called-one r r' e.0, e.1)

pub trace-one : (a : Asked) (lent : ℕ) (c : Columns) (held : Run) (out o o' : List ℕ) (r r' : Result ℕ SideRefusal) → Traces a lent c held out r o → Traces a lent c held out r' o' → (r ≡ r') × (o ≡ o')
trace-one a lent c held out o o' r r' p q = let e = left_one (p ∙ sym q) in (tracing-one r r' e.0, e.1)

pub view-one : (lent : ℕ) (c : Columns) (m m' : ℕ) (d d' : Columns) → ViewIs lent c m d → ViewIs lent c m' d' → (m ≡ m') × (d ≡ d')
view-one lent c m m' d d' p q = (p.0 ∙ sym q.0, p.1 ∙ sym q.1)

pub rows-one : (lent : ℕ) (c : Columns) (r r' : ℕ) → RowsIs lent c r → RowsIs lent c r' → r ≡ r'
rows-one lent c r r' p q = p ∙ sym q

pub take-one : (lent : ℕ) (c : Columns) (rows : List Row) (d d' : Columns) → TakesRows lent c rows d → TakesRows lent c rows d' → d ≡ d'
take-one lent c rows d d' p q = p ∙ sym q

pub give-one : (n lent : ℕ) (c : Columns) (rows left left' : List Row) → GivesRows n lent c rows left → GivesRows n lent c rows left' → left ≡ left'
give-one n lent c rows left left' p q = p ∙ sym q
