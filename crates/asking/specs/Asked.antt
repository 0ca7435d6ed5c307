-- Both sides by value, as the calls take them: what `ask` makes of two tables, which values the calls refuse, and the calls' refusals.
use Rattle.std.specs.Prelude.{ℕ, ◌+◌, ◌≤◌, ◌<◌, ◌≡◌, Bool, false, cond, not, ◌||◌, ◌↔◌, Result, Ok, Err, List, [], ◌∷◌, eqb, ltb}
use Rattle.bits.specs.Bit.{Mem, has, within}
use Rattle.effect.specs.declared.Refusal.{Refusal}
use Rattle.effect.specs.Refusals.{refusal_number, rule, some_below}
use Rattle.places.specs.declared.Side.{Side}
use Rattle.places.specs.Side.{no_side}
use Rattle.places.specs.Readings.{followers}
use Rattle.goals.specs.declared.Row.{Row}
use Rattle.goals.specs.declared.Run.{Run}
use Rattle.goals.specs.declared.Which.{Which}
use Rattle.goals.specs.declared.Which.TheVariants.{Left, Right, Both}
use Rattle.goals.specs.declared.SideRefusal.{SideRefusal}
use Rattle.goals.specs.Run.{State, state, run}
use Rattle.goals.specs.Refusals.{Given, left_of, right_of, room_of, Against, against, against_of, first, side_rules, refusal_by, start_rules, run_rules, trace_rules}
use Rattle.asking.specs.declared.Asked.{Asked}

-- a refusal as a call hands it on; none is 0 and names both
unfoldable pub which_of : ℕ → Which
which_of side = cond (eqb side 1) Left (cond (eqb side 2) Right Both)

abbrev pub named : Against → SideRefusal
named a = record { side = which_of a.side; number = a.number }

-- what is answered where these are the refusals: the value, or the refusal as it is handed on
unfoldable pub unless_refused : {A : Type 0} → Against → A → Result A SideRefusal
unless_refused r x = cond (eqb r.number 0) (Ok x) (Err (named r))

-- the answer of one side, or of both, as a call hands it on: its refusal names it
abbrev pub naming : {A : Type 0} → Which → Result A Refusal → Result A SideRefusal
naming side (Ok x) = Ok x
naming side (Err why) = Err (record { side = side; number = refusal_number why })

-- what `ask` makes of two tables: both sides; or why they are refused (2, 3, 7 to 12, 14), and then both are the side of nothing
unfoldable pub asked_of : Given → Asked
asked_of g =
    let why = first (side_rules g) in
    let passes = eqb why.number 0 in
    record {
      why = named why;
      left = cond passes (left_of g) no_side;
      right = cond passes (right_of g) no_side;
    }

-- 24: "a follow set names 0 or a place above" the count
abbrev pub strays : ℕ → ℕ → Bool
strays count set = has set 0 || not (within (count + 1) set)

-- 24: "s is above 8, the instant count is above 63, the accepting set names a place above that count, or a follow set names 0 or a
-- place above it"
unfoldable pub side_impossible : Side → Bool
side_impossible sd =
    ltb 8 sd.s
    || (ltb 63 sd.count
    || (not (within (sd.count + 1) sd.accepts)
    || some_below 64 (λ j. strays sd.count (followers sd j))))

-- The same as a property: the side passes exactly when it has at most 8 signals and 63 instants, a place that accepts is not above the
-- count, and one that follows is 1 or above, and not above the count.
pub record Possible (sd : Side) : Type 0 where
  pub signals : sd.s ≤ 8
  pub few : sd.count ≤ 63
  pub accepting : (j : ℕ) → Mem sd.accepts j → j ≤ sd.count
  pub following : (i j : ℕ) → i < 64 → Mem (followers sd i) j → (1 ≤ j) × (j ≤ sd.count)

abbrev pub PassesIff : Type 0
PassesIff = (sd : Side) → (side_impossible sd ≡ false) ↔ Possible sd

-- The refusals of two sides by value, in their order: what is known of them already, then 24, "taking the position of 2 to 12", left
-- before right, then 14.
abbrev pub asked_rules : Asked → List Against
asked_rules a =
    against_of a.why
    ∷ against 1 (rule 24 (side_impossible a.left))
    ∷ against 2 (rule 24 (side_impossible a.right))
    ∷ against 3 (rule 14 (not (eqb a.left.s a.right.s)))
    ∷ []

-- the first of them
unfoldable pub why_not : Asked → Result (Unit {0}) SideRefusal
why_not a = unless_refused (first (asked_rules a)) tt

-- of what `ask` made, this is its own `why`: neither 24 nor 14 applies to the sides that it made
abbrev pub Judged : Type 0
Judged = (g : Given) → why_not (asked_of g) ≡ unless_refused (against_of (asked_of g).why) tt

-- The refusals of the three calls on any two sides.
unfoldable pub start_refusal_on : Asked → ℕ → Against
start_refusal_on a lent = refusal_by (asked_rules a) (start_rules lent)

unfoldable pub run_refusal_on : Asked → ℕ → List Row → Run → Against
run_refusal_on a lent rows r = refusal_by (asked_rules a) (run_rules a.left.s a.left.count a.right.count lent rows r)

unfoldable pub trace_refusal_on : Asked → ℕ → List Row → Run → ℕ → Against
trace_refusal_on a lent rows r buffer =
    refusal_by (asked_rules a) (trace_rules a.left.s a.left.count a.right.count lent rows r buffer)

-- the state that a run call leaves
unfoldable pub run_after_on : Asked → ℕ → List Row → Run → ℕ → State
run_after_on a lent rows r budget = run a.left a.right (room_of lent) budget (state rows r.settled r.outcome)
