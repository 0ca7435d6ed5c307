-- For each statement of demand 3, and for those that say that it is not vacuous, bad versions that it stops: on worked comparisons,
-- as in `BadVersions`, or on a record that a call may be lent.
use Prim.Native.Nat.{ℕ, zero, suc, ◌+◌, ◌≤◌}
use mathlib.Core.Path.{◌≡◌, refl, sym, ap, ◌∙◌}
use mathlib.Core.Bool.{Bool, true, false, cond, ◌||◌, true≢false}
use mathlib.Core.Logic.{inl, inr, ⊎_elim}
use mathlib.Core.List.{List, [], ◌∷◌}
use native.Mathlib.Omega.{arith}
use lib.Dec.{eqb}
use lib.ListN.{length, take, replicate}
use Rattle.bits.specs.Bit.{bit, has}
use Rattle.bits.proofs.Laws.{mem-zero}
use Rattle.effect.specs.declared.Node.TheVariants.{Instant}
use Rattle.effect.specs.Node.{kind_of, decode_of, fields_of, number_of}
use Rattle.effect.specs.Refusals.{some_below, one_if_instant, instants, front}
use Rattle.places.specs.Places.{place, numbered_node, numbered_to, rounds, has_empty, first_of, last_of, links_to, after, accepting}
use Rattle.places.specs.Side.{list_of, mask_in, masks_to, side_of}
use Rattle.places.specs.Readings.{matching_to, followers, spread_to}
use Rattle.goals.specs.declared.Row.{Row}
use Rattle.goals.specs.declared.Run.{Run}
use Rattle.goals.specs.Goals.{row, row_zero, bad_goal, bad, each_member, each_letter, candidates, known, enter, enter_all}
use Rattle.goals.specs.Run.{State, state, started, settle, step, steps, run, word_in, trace_of}
use Rattle.goals.specs.Refusals.{Given, left_of, right_of, room_of, record_impossible, row_zero_impossible, row_impossible, impossible, Against, against, start_refusal, run_refusal, exit, leaves, run_after}
use Rattle.goals.specs.Cases.{Listed, Comparison, lists, ample, given_by, Gives, Each}
use Rattle.goals.proofs.Worked.{worked}
use Rattle.demands.specs.Calls.{Lent, lent, used_in, holding, TraceCall, Runs, ours}
use Rattle.demands.specs.Demands.{row_of, Has, Follows, Chain, StartLeaves, StepsClose, RowsEntered, Idles, GoalsDiffer, GoalsReached, RowsStay, RoomAndBudget, Divided, CountsReached, NoRoom, RunAccepted, TraceAccepted, BudgetEnds}
use Rattle.demands.specs.BadVersions.{or_both, with_trace, includes_all, leaves_record, refutes_by_left, starts_as_found, starts_without_row, starts_over_all, goes_back, looks_ahead, passes_over, never_again, hides_no_room, stops_when_full, uses_unwritten, enters_ahead, enters_late, loses_sets, reopens, steps_for_nothing, enters_twice, writes_over, passes_room, cuts_table, writes_beyond, lacks_room, steps_less, forgets_rows, refuses_runs, refuses_traces, accepts_runs, accepts_traces}
use Rattle.demands.proofs.Accepting.{start-passes, run-passes}
use Rattle.demands.proofs.Calling.{used-holding}
use Rattle.demands.proofs.Reaching.{follows-iff}
use Rattle.demands.proofs.Closing.{steps-close}
use Rattle.demands.proofs.Included.{goals-reached}
use Rattle.demands.proofs.Dividing.{divided}
use Rattle.demands.proofs.Room.{no_room}
use Rattle.demands.proofs.OneCall.{ready, accepted, start-call, one-call}
use Rattle.demands.proofs.BadVersions.{C1, C2, C4, gives-C1, gives-C2, gives-C4, refusing, refuted, gives-trace, left_by, leaves-it, most-C1, none-follows}

-- ---- the comparisons used: C1, C2, C4, C5 and C5r
abbrev C5 : Comparison
C5 = lists 1 (Instant 0 0 ∷ []) (Instant 1 0 ∷ []) ample 2 1 3 (0 ∷ [])

abbrev C5r : Comparison
C5r = lists 1 (Instant 0 0 ∷ []) (Instant 1 0 ∷ []) 2 3 0 2 []

gives-C5 : Gives C5
unfolding Each
gives-C5 = worked.1.1.1.1.0

gives-C5r : Gives C5r
unfolding Each
gives-C5r = worked.1.1.1.1.1.0

-- their sides
abbrev g1 : Given
g1 = given_by C1.case

abbrev g2 : Given
g2 = given_by C2.case

abbrev g4 : Given
g4 = given_by C4.case

abbrev g5 : Given
g5 = given_by C5.case

-- row 0 in C1, where it accepts and is not bad; and in C2, where it is bad
row_zero_lem : (has (left_of g1).accepts 0 ≡ true) × (bad (left_of g1) (right_of g1) row_zero ≡ false) × (bad (left_of g2) (right_of g2) row_zero ≡ true)
unfolding bit kind_of decode_of fields_of number_of numbered_node numbered_to rounds has_empty last_of accepting side_of bad_goal
row_zero_lem = (refl, refl, refl)

-- in C4 the goal of place 1 and {1} follows it under D, and no goal follows place 1
follows-C4 : Follows g4 row_zero 1 1 2 × (followers (left_of g4) 1 ≡ 0)
unfolding bit kind_of decode_of fields_of number_of one_if_instant instants place numbered_node numbered_to rounds first_of links_to after list_of mask_in masks_to side_of matching_to spread_to
follows-C4 = ((follows-iff g4 row_zero 1 1 2).1 (omega arith, refl, refl, refl), refl)

-- what our call leaves of C1, C2 and C4 after start, by its budget; and what C4's row 0 leads to
abbrev ran : Given → ℕ → State
ran g budget = run_after g ample (used_in (ready ample)) (ready ample).held budget

abbrev both_rows : List Row
both_rows = row_zero ∷ row 1 2 0 1 ∷ []

ran-all : (ran g1 1 ≡ state (row_zero ∷ []) 1 1)
    × (ran g2 1 ≡ state (row_zero ∷ []) 0 2)
    × (ran g4 1 ≡ state both_rows 1 0)
    × (ran g4 2 ≡ state both_rows 2 1)
    × (candidates (left_of g4) (right_of g4) 0 row_zero ≡ row 1 2 0 1 ∷ [])
unfolding bit kind_of decode_of fields_of number_of one_if_instant instants place numbered_node numbered_to rounds has_empty first_of last_of links_to after accepting list_of mask_in masks_to side_of matching_to spread_to bad_goal each_member each_letter candidates known enter enter_all settle step steps run room_of run_after
ran-all = (refl, refl, refl, refl, refl)

-- an accepted run call on C1, or on C4, that leaves l'
on-C1 : (l' : Lent) → exit accepted l' ≡ leaves (run_refusal g1 ample (used_in (ready ample)) (ready ample).held) [] l' (ready ample)
on-C1 l' = leaves-it g1 (ready ample) l' gives-C1.runs

on-C4 : (l' : Lent) → exit accepted l' ≡ leaves (run_refusal g4 ample (used_in (ready ample)) (ready ample).held) [] l' (ready ample)
on-C4 l' = leaves-it g4 (ready ample) l' gives-C4.runs

-- what our call of one step leaves of C1
abbrev stepped : Lent
stepped = holding (ran g1 1) (ready ample)

-- the used rows, how many are settled, and the outcome, as a call leaves them that is lent `ready`
abbrev now : List Row → ℕ → ℕ → Lent
now rows settled outcome = holding (state rows settled outcome) (ready ample)

-- `ready`'s rows with another record of one used row; a run call is not refused, if the record is possible
abbrev found : ℕ → ℕ → Lent
found settled outcome = lent (ready ample).rows (record { settled = settled; used = 1; outcome = outcome })

found-passes : (c : Comparison) → Gives c → (settled outcome : ℕ) → record_impossible ample (found settled outcome).held ≡ false
    → run_refusal (given_by c.case) ample (used_in (found settled outcome)) (found settled outcome).held ≡ against 0 0
unfolding room_of row_zero_impossible impossible some_below
found-passes c gives settled outcome e = (run-passes _ _ _ _).1 (((start-passes _ _).0 gives.starts).0, ap (λ (b : Bool). b || false) e)

-- ---- StartLeaves
-- rows and a record that start does not leave
abbrev other : Lent
other = lent (replicate ample (row 1 0 0 0)) (record { settled = 5; used = 0; outcome = 0 })

start-C1 : (l' : Lent) → exit accepted l' ≡ leaves (start_refusal g1 ample) [] l' other
start-C1 l' = ap (λ (w : Against). leaves w [] l' other) (sym gives-C1.starts)

pub starts-as-found : StartLeaves starts_as_found → ⊥
starts-as-found h =
    let z : ◌≡◌ {A = ℕ} 5 0 = ap (λ (l : Lent). l.held.settled) (h g1 other _ accepted (start-C1 _) refl) in omega arith

pub starts-without-row : StartLeaves starts_without_row → ⊥
starts-without-row h =
    let z : ◌≡◌ {A = ℕ} 1 0 = ap (λ (l : Lent). (row_of l.rows 0).place) (h g1 other _ accepted (start-C1 _) refl) in omega arith

pub starts-over-all : StartLeaves starts_over_all → ⊥
starts-over-all h =
    let z : ◌≡◌ {A = ℕ} 0 1 = ap (λ (l : Lent). (row_of l.rows 1).place) (h g1 other _ accepted (start-C1 _) refl) in omega arith

-- ---- StepsClose
-- C4's sides with two rows used, one of them settled: all rows that are lent; and of three rows, with one that our calls do not enter
abbrev going : Lent
going = lent both_rows (record { settled = 1; used = 2; outcome = 0 })

abbrev forged : Lent
forged = lent (row_zero ∷ row 1 0 0 0 ∷ row_zero ∷ []) (record { settled = 1; used = 2; outcome = 0 })

going-passes : (run_refusal g4 2 (used_in going) going.held ≡ against 0 0) × (run_refusal g4 3 (used_in forged) forged.held ≡ against 0 0)
unfolding bit kind_of decode_of fields_of number_of one_if_instant instants some_below side_of room_of record_impossible row_zero_impossible row_impossible impossible
going-passes =
    let sides = ((start-passes g4 ample).0 gives-C4.starts).0 in
    ((run-passes g4 2 (used_in going) going.held).1 (sides, refl), (run-passes g4 3 (used_in forged) forged.held).1 (sides, refl))

-- the settled row is settled no more
pub goes_back_lem : StepsClose goes_back → ⊥
goes_back_lem h = let z : 1 ≤ 0 = (h g4 going _ 1 accepted (leaves-it g4 going _ going-passes.0) refl (inl refl)).0 in omega arith

-- open, yet not all steps are taken
pub leaves-record-open : StepsClose leaves_record → ⊥
leaves-record-open h =
    let l' = lent (holding (left_by g1) (ready ample)).rows (ready ample).held in
    let z : 0 ≡ 0 + ample = (h g1 (ready ample) l' ample accepted (on-C1 l') refl (inl refl)).2 refl in
    omega arith

-- refuted, yet the row is not bad
pub refutes-a-good-row : StepsClose refutes_by_left → ⊥
refutes-a-good-row h =
    true≢false (sym ((h g1 (ready ample) (found 0 2) 1 accepted (rw row_zero_lem.0 (on-C1 (found 0 2))) refl (inl refl)).3 refl).1 ∙ row_zero_lem.1)

-- refuted by a bad row, yet the budget, 0, has no step to find it
pub looks-ahead : StepsClose looks_ahead → ⊥
unfolding run_after run steps
looks-ahead h =
    let called = leaves-it g2 (ready ample) (found 0 2) gives-C2.runs in
    let z : suc 0 ≤ 0 = ((h g2 (ready ample) (found 0 2) 0 accepted (rw row_zero_lem.2 called) refl (inl refl)).3 refl).0 in
    omega arith

-- the settled row is bad
pub includes-a-bad-row : StepsClose includes_all → ⊥
includes-a-bad-row h =
    let called = leaves-it g2 (ready ample) (found 1 1) gives-C2.runs in
    true≢false (sym row_zero_lem.2 ∙ ((h g2 (ready ample) (found 1 1) 1 accepted called refl (inl refl)).4 0 (omega arith) (omega arith)).0)

-- a goal that follows the settled row stands in no row: the one row is of place 0
one-row : (S : ℕ) → Has (row_zero ∷ []) 1 S → ⊥
one-row S (zero, below, place, set) = omega arith
one-row S (suc i, below, place, set) = omega arith

pub includes-an-open-row : StepsClose includes_all → ⊥
includes-an-open-row h =
    let called = leaves-it g4 (ready ample) (found 1 1) gives-C4.runs in
    one-row _ (((h g4 (ready ample) (found 1 1) 1 accepted called refl (inl refl)).4 0 (omega arith) (omega arith)).1 1 1 _ follows-C4.0)

-- the same after a call that had room for one row
pub passes_over_lem : StepsClose passes_over → ⊥
unfolding record_impossible
passes_over_lem h =
    let called = leaves-it g4 (found 0 3) (found 1 0) (found-passes C4 gives-C4 0 3 refl) in
    one-row _ (((h g4 (found 0 3) (found 1 0) 1 accepted called refl (inr refl)).4 0 (omega arith) (omega arith)).1 1 1 _ follows-C4.0)

-- ---- NoRoom
-- out of room as it was, yet one row of 64 is used
pub never-again : NoRoom never_again → ⊥
unfolding record_impossible room_of
never-again h =
    let called = leaves-it g4 (found 0 3) (found 0 3) (found-passes C4 gives-C4 0 3 refl) in
    let z : 1 ≡ ample = ((h g4 (found 0 3) (found 0 3) 1 accepted called refl (inr refl) (omega arith)).0 refl).3 in
    omega arith

-- C5r: our `no_room` says `Lacks` of our call, and that does not speak of the outcome
pub hides-no-room : NoRoom hides_no_room → ⊥
hides-no-room h =
    let g = given_by C5r.case in
    let l = ready 2 in
    let st = run_after g 2 (used_in l) l.held 2 in
    let out : st.outcome ≡ 3 = ap (λ (s : Listed). s.outcome) gives-C5r.shows in
    let lacks = (no_room g l (holding st l) 2 accepted (leaves-it g l (holding st l) gives-C5r.runs) refl (inl refl) (omega arith)).0 out in
    let l' = holding (state st.rows st.settled (cond (eqb st.outcome 3) 0 st.outcome)) l in
    let told : l'.held.outcome ≡ 3 = (h g l l' 2 accepted (leaves-it g l l' gives-C5r.runs) refl (inl refl) (omega arith)).1 lacks in
    let z : ◌≡◌ {A = ℕ} 0 3 = sym (ap (λ (o : ℕ). cond (eqb o 3) 0 o) out) ∙ told in
    omega arith

-- all rows are used, yet no goal follows the next row
pub stops-when-full : NoRoom stops_when_full → ⊥
unfolding room_of
stops-when-full h =
    let l' = lent going.rows (record { settled = 1; used = 2; outcome = 3 }) in
    let (x, p, S, f, new) = ((h g4 going l' 1 accepted (leaves-it g4 going l' going-passes.0) refl (inl refl) (omega arith)).0 refl).4 in
    mem-zero p (rw follows-C4.1 at f.follower)

-- ---- RowsEntered
-- the new row is as row 0 is, and would follow row 0 under letter 0
abbrev unwritten : Lent
unwritten = now (row_zero ∷ row_zero ∷ []) 1 1

pub uses-unwritten : RowsEntered uses_unwritten → ⊥
uses-unwritten h = none-follows 0 (h g1 (ready ample) unwritten 1 accepted (rw ran-all.0 (on-C1 unwritten)) refl 1 (omega arith) (omega arith)).3.follower

-- C4, budget 0: the row that the step ahead enters has row 0 as its parent, which is not settled
pub enters-ahead : RowsEntered enters_ahead → ⊥
unfolding run_after run steps
enters-ahead h =
    let l' = now both_rows 0 0 in
    let z : ◌≡◌ {A = ℕ} 0 3 = (h g4 (ready ample) l' 0 accepted (rw ran-all.2 (on-C4 l')) refl 1 (omega arith) (omega arith)).2 refl in
    omega arith

-- the goal that follows row 0 is entered, but row 0 was settled before the call
pub enters-late : RowsEntered enters_late → ⊥
unfolding run_after run steps known enter enter_all room_of
enters-late h =
    let l' = lent (row_zero ∷ row 1 0 0 0 ∷ row 1 2 0 1 ∷ []) (record { settled = 1; used = 3; outcome = 0 }) in
    let z : 1 ≤ 0 = (h g4 forged l' 0 accepted (rw ran-all.4 (leaves-it g4 forged l' going-passes.1)) refl 2 (omega arith) (omega arith)).0 in
    omega arith

-- C4: the new row has no right place
abbrev lost : Lent
lost = now (row_zero ∷ row 1 0 0 1 ∷ []) 2 1

pub loses-sets : RowsEntered loses_sets → ⊥
loses-sets h =
    let f = (h g4 (ready ample) lost 2 accepted (rw ran-all.3 (on-C4 lost)) refl 1 (omega arith) (omega arith)).3 in
    let z : ◌≡◌ {A = ℕ} 0 2 = ((follows-iff g4 row_zero 1 1 0).0 f).3 ∙ sym ((follows-iff g4 row_zero 1 1 2).0 follows-C4.0).3 in
    omega arith

-- ---- Idles
-- outcome 1, outcome 2, and budget 0
pub reopens-included : Idles reopens → ⊥
unfolding record_impossible
reopens-included h =
    let called = leaves-it g1 (found 1 1) (found 1 0) (found-passes C1 gives-C1 1 1 refl) in
    let z : ◌≡◌ {A = ℕ} 0 1 = ap (λ (l : Lent). l.held.outcome) (h g1 (found 1 1) (found 1 0) 1 accepted called refl (inl refl)) in
    omega arith

pub reopens-refuted : Idles reopens → ⊥
unfolding record_impossible
reopens-refuted h =
    let called = leaves-it g2 (found 0 2) (found 0 0) (found-passes C2 gives-C2 0 2 refl) in
    let z : ◌≡◌ {A = ℕ} 0 2 = ap (λ (l : Lent). l.held.outcome) (h g2 (found 0 2) (found 0 0) 1 accepted called refl (inr (inl refl))) in
    omega arith

-- by our `steps-close` a step leaves another record than start's
stepped-on : stepped.held ≡ (ready ample).held → ⊥
stepped-on e =
    let z = (steps-close g1 (ready ample) stepped 1 accepted (on-C1 stepped) refl (inl refl)).2 (ap (λ (r : Run). r.outcome) e) in
    omega (arith, z, ap (λ (r : Run). r.settled) e)

pub steps-for-nothing : Idles steps_for_nothing → ⊥
steps-for-nothing h = stepped-on (ap (λ (l : Lent). l.held) (h g1 (ready ample) stepped 0 accepted (on-C1 stepped) refl (inr (inr refl))))

-- ---- GoalsDiffer and GoalsReached
pub enters-twice : GoalsDiffer enters_twice → ⊥
enters-twice h =
    let l' = now (row_zero ∷ row 0 1 0 1 ∷ []) 1 1 in
    let z : ◌≡◌ {A = ℕ} 0 1 = h g1 0 (0 + 1) (used_in l') l'.held (one-call _ g1 0 ample 1 l' gives-C1.starts (omega arith) (rw ran-all.0 (on-C1 l'))) 0 1 (omega arith) (omega arith) refl refl in
    omega arith

-- the letter 0 would lead to the new row
pub uses-unreached : GoalsReached uses_unwritten → ⊥
unfolding word_in
uses-unreached h =
    let r = h g1 0 (0 + 1) _ _ (one-call _ g1 0 ample 1 unwritten gives-C1.starts (omega arith) (rw ran-all.0 (on-C1 unwritten))) 1 (omega arith) in
    none-follows r.left.0 r.left.1

-- C4: our chain says what the letter 1 reaches, of which {1} is the set
chain-C4 : Chain ours g4 0 both_rows (record { settled = 2; used = 2; outcome = 1 }) (0 + 2)
chain-C4 = one-call Runs g4 0 ample 2 (now both_rows 2 1) gives-C4.starts (omega arith) (rw ran-all.3 (on-C4 (now both_rows 2 1)))

pub loses-reached : GoalsReached loses_sets → ⊥
unfolding bit word_in
loses-reached h =
    let r = h g4 0 (0 + 2) _ _ (one-call _ g4 0 ample 2 lost gives-C4.starts (omega arith) (rw ran-all.3 (on-C4 lost))) 1 (omega arith) in
    mem-zero 1 ((r.right 1).1 (((goals-reached g4 0 (0 + 2) _ _ chain-C4 1 (omega arith)).right 1).0 refl))

-- ---- CountsReached
-- one row is not two goals
one_place : (goals : List Row) (S T : ℕ) → length goals ≡ 1 → Has goals 0 S → Has goals 1 T → ⊥
one_place goals S T one (i, a, e, u) (j, b, f, v) =
    let same : i ≡ j = omega (arith, a, b, one) in
    let z : ◌≡◌ {A = ℕ} 0 1 = sym e ∙ ap (λ (k : ℕ). (row_of goals k).place) same ∙ f in
    omega arith

pub includes-one-of-two : CountsReached includes_all → ⊥
includes-one-of-two h =
    let ours = goals-reached g4 0 (0 + 2) _ _ chain-C4 in
    let (goals, count, differ, reached) = h g4 0 (0 + 1) _ _ (one-call _ g4 0 ample 1 (found 1 1) gives-C4.starts (omega arith) (on-C4 (found 1 1))) refl in
    one_place goals 1 2 count ((reached 0 1).1 (_, ours 0 (omega arith))) ((reached 1 2).1 (_, ours 1 (omega arith)))

-- ---- RowsStay, each by another clause
pub writes-over : RowsStay writes_over → ⊥
writes-over h =
    let l' = now (row 1 0 0 0 ∷ []) 1 1 in
    let z : ◌≡◌ {A = ℕ} 1 0 = ap (λ (rows : List Row). (row_of rows 0).place) (h g1 (ready ample) l' 1 accepted (rw ran-all.0 (on-C1 l')) refl).0 in
    omega arith

pub passes-room : RowsStay passes_room → ⊥
passes-room h =
    let l' = lent (ready ample).rows (record { settled = 1; used = suc (room_of ample); outcome = 1 }) in
    let z : suc (room_of ample) ≤ room_of ample = (h g1 (ready ample) l' 1 accepted (rw ran-all.0 (on-C1 l')) refl).1 in
    omega arith

pub cuts-table : RowsStay cuts_table → ⊥
unfolding run_after run steps
cuts-table h =
    let l' = lent started.rows (ready ample).held in
    let z : 1 ≡ ample = (h g1 (ready ample) l' 0 accepted (on-C1 l') refl).2 in
    omega arith

pub writes-beyond : RowsStay writes_beyond → ⊥
unfolding run_after run steps
writes-beyond h =
    let l' = lent (front (row_zero ∷ row 1 0 0 0 ∷ []) (ready ample).rows) (ready ample).held in
    let z : ◌≡◌ {A = ℕ} 1 0 = ap (λ (rows : List Row). (row_of rows 0).place) (h g1 (ready ample) l' 0 accepted (on-C1 l') refl).3 in
    omega arith

-- ---- RoomAndBudget, Divided and BudgetEnds
pub lacks-room : RoomAndBudget lacks_room → ⊥
lacks-room h =
    (h g1 (0 + 1) _ _ (omega (arith, most-C1)) (one-call _ g1 _ ample 1 (found 1 3) gives-C1.starts (omega (arith, most-C1)) (rw ran-all.0 (on-C1 (found 1 3))))).0 refl

-- budgets 1 and 1 are no step, and 2 is one
pub steps-less : Divided steps_less → ⊥
unfolding run_after run steps
steps-less h =
    let l = ready ample in
    stepped-on (sym (h g1 l l l stepped l.rows 1 1 accepted accepted accepted (on-C1 l) refl refl refl (on-C1 l) (on-C1 stepped)).3)

-- C4: budget 2 forgets the row that budgets 1 and 1 leave, as ours of 2 does
pub forgets-rows : Divided forgets_rows → ⊥
forgets-rows h =
    let l = ready ample in
    let l₁ = now both_rows 1 0 in
    let then = leaves (run_refusal g4 ample both_rows l₁.held) [] (holding (run_after g4 ample both_rows l₁.held 1) l₁) l₁ in
    let l' = now (row_zero ∷ row_zero ∷ []) 2 1 in
    let a = (divided g4 l l₁ then.lent (now both_rows 2 1) l₁.rows 1 1 accepted then.reply accepted (rw ran-all.2 (on-C4 l₁)) refl refl refl refl (rw ran-all.3 (on-C4 (now both_rows 2 1)))).2 in
    let b = (h g4 l l₁ then.lent l' l₁.rows 1 1 accepted then.reply accepted (rw ran-all.2 (on-C4 l₁)) refl refl refl refl (rw ran-all.3 (on-C4 l'))).2 in
    let z : ◌≡◌ {A = ℕ} 1 0 = ap (λ (rows : List Row). (row_of rows 1).place) (sym a ∙ b) in
    omega arith

pub leaves-record-unended : BudgetEnds leaves_record → ⊥
unfolding room_of
leaves-record-unended h =
    let l' = lent (holding (left_by g1) (ready ample)).rows (ready ample).held in
    ⊎_elim (λ (e : ◌≡◌ {A = ℕ} 0 1). omega arith)
    (⊎_elim (λ (e : ◌≡◌ {A = ℕ} 0 2). omega arith) (λ (e : ◌≡◌ {A = ℕ} 0 3). omega arith))
    (h g1 (ready ample) l' ample accepted (on-C1 l') refl (omega arith))

-- ---- RunAccepted
-- start uses one row, and 64 are lent, or none
pub refuses-runs : RunAccepted refuses_runs → ⊥
unfolding room_of
refuses-runs h =
    let l = ready ample in
    let called = ap (λ (w : Against). leaves (or_both w 16) [] l l) (sym gives-C1.runs) in
    let a = (h g1 0 0 _ _ (start-call g1 0 ample gives-C1.starts) l.rows 1 (refusing 16) l refl called).1 (omega arith) in
    let z : ◌≡◌ {A = ℕ} 16 0 = ap (λ (w : Against). w.number) a in
    omega arith

pub accepts-runs : RunAccepted accepts_runs → ⊥
unfolding room_of
accepts-runs h =
    let z : 1 ≤ 0 = (h g1 0 0 _ _ (start-call g1 0 ample gives-C1.starts) [] 1 accepted _ refl refl).0 refl in
    omega arith

-- ---- TraceAccepted
-- our run of C2, whose trace is empty
chain-C2 : {traces : TraceCall} → Chain (with_trace traces) g2 0 (used_in refuted) refuted.held (0 + 1)
chain-C2 =
    one-call Runs g2 0 ample 1 refuted gives-C2.starts (omega arith)
    (rw ran-all.1 (leaves-it g2 (ready ample) refuted gives-C2.runs))

-- a buffer of no byte is enough for it
pub refuses-traces : TraceAccepted refuses_traces → ⊥
unfolding room_of word_in
refuses-traces h =
    let called = ap (λ (w : Against). leaves {Lent = List ℕ} (or_both w 18) [] [] []) (sym gives-trace) in
    let a = (h g2 0 (0 + 1) _ _ chain-C2 refl refuted.rows [] [] (refusing 18) refl called).1 (omega arith, omega arith) in
    let z : ◌≡◌ {A = ℕ} 18 0 = ap (λ (w : Against). w.number) a in
    omega arith

-- a table of no rows is not
pub accepts-traces : TraceAccepted accepts_traces → ⊥
unfolding room_of
accepts-traces h =
    let z : 1 ≤ 0 = ((h g2 0 (0 + 1) _ _ chain-C2 refl [] [] _ _ refl refl).0 refl).0 in
    omega arith

-- C5's trace has a letter, and a buffer of no byte is too short for it
pub accepts-no-buffer : TraceAccepted accepts_traces → ⊥
accepts-no-buffer h =
    let st = left_by g5 in
    let l = holding st (ready ample) in
    let used : used_in l ≡ st.rows = used-holding st (ready ample) in
    let out : st.outcome ≡ 2 = ap (λ (s : Listed). s.outcome) gives-C5.shows in
    let trace : trace_of st.rows st.settled ≡ 0 ∷ [] = sym (ap (λ (o : ℕ). cond (eqb o 2) (trace_of st.rows st.settled) []) out) ∙ ap (λ (s : Listed). s.trace) gives-C5.shows in
    let one : length (trace_of (used_in l) st.settled) ≡ 1 = ap (λ (rows : List Row). length (trace_of rows st.settled)) used ∙ ap length trace in
    let chain = one-call Runs g5 0 ample ample l gives-C5.starts (omega arith) (leaves-it g5 (ready ample) l gives-C5.runs) in
    let z = ((h g5 0 (0 + ample) _ _ chain out (used_in l) [] _ _ (sym (ap (λ (rows : List Row). take (length rows) (used_in l)) used)) refl).0 refl).1 in
    omega (arith, z, one)
