-- Each of the five bad versions breaks a demand: on a worked comparison where goals' `worked` tells what our rules give, or on input
-- that none of the refusals applies to, as computing them shows.
use Prim.Native.Nat.{ℕ, suc, ◌+◌}
use mathlib.Core.Path.{◌≡◌, refl, sym, ap, ap₂, ◌∙◌}
use mathlib.Core.Bool.{cond, ◌&&◌}
use mathlib.Core.Logic.{inl, ⊎_elim}
use mathlib.Core.List.{List, [], ◌∷◌}
use native.Mathlib.Omega.{arith}
use lib.Dec.{eqb, ltb}
use lib.ListN.{length}
use Rattle.std.specs.Prelude.{Err}
use Rattle.bits.specs.Bit.{bit, Mem}
use Rattle.bits.proofs.Laws.{mem-zero, mem-pow, set-ext}
use Rattle.effect.specs.declared.Node.{Node}
use Rattle.effect.specs.declared.Node.TheVariants.{Nil, Empty, Instant}
use Rattle.effect.specs.declared.Refusal.TheVariants.{NoSuchNode, OutputTooShort}
use Rattle.effect.specs.Node.{kind_of, decode_of, fields_of, number_of}
use Rattle.effect.specs.Meaning.{at, Trace, of_empty, of_instant, of_seq, of_first, of_second, of_none, of_more}
use Rattle.effect.specs.Refusals.{lowest, lowest_node, some_below, some_child, claimed, names_beyond, twins, node_refusal, one_if_instant, instants, refusal_at, table_refusal, side_refusal}
use Rattle.sheet.specs.Bits.{digits, each, field, fields}
use Rattle.sheet.specs.Sheet.{reading, writing, signals_in, count_in, nodes_in, filling_set, header_refusal, read_refusal, write_refusal}
use Rattle.places.specs.Places.{numbered_node, numbered_to, rounds, first_of, after}
use Rattle.places.specs.Side.{list_of, side_of}
use Rattle.places.specs.Readings.{followers}
use Rattle.goals.specs.declared.Row.{Row}
use Rattle.goals.specs.declared.Run.{Run}
use Rattle.goals.specs.Run.{State, word_in}
use Rattle.goals.specs.Refusals.{Given, left_of, room_of, record_of, record_impossible, row_zero_impossible, impossible, Against, against, first, run_refusal, trace_refusal, Reply, exit, leaves, run_after}
use Rattle.goals.specs.Cases.{Listed, Comparison, lists, ample, given_by, Gives, Each}
use Rattle.goals.proofs.Worked.{worked}
use Rattle.demands.specs.Calls.{Lent, lent, used_in, holding}
use Rattle.demands.specs.Ordered.{Rule, Decides, no_node, of_nodes, of_reader, of_writer, of_start, of_run, of_trace}
use Rattle.demands.specs.Demands.{Has, Differ, Reaches, most, ReadRefuses, WriteRefuses, StartRefuses, RunRefuses, TraceRefuses, IncludedOnlyIf, RoomAndBudget, StepsClose, CountsReached}
use Rattle.demands.specs.BadVersions.{refuses_reading, refuses_writing, or_both, refuses_all, includes_all, leaves_record, settles_at_once, invents_count}
use Rattle.demands.proofs.InOrder.{answer, answer-decides}
use Rattle.demands.proofs.Deciding.{decides-one}
use Rattle.demands.proofs.OneCall.{ready, accepted, one-call}

-- ---- the worked comparisons used: C1, C2 and C4
abbrev pub C1 : Comparison
C1 = lists 0 (Empty ∷ []) (Empty ∷ []) ample 1 1 1 []

abbrev pub C2 : Comparison
C2 = lists 0 (Empty ∷ []) (Nil ∷ []) ample 2 0 1 []

abbrev pub C4 : Comparison
C4 = lists 1 (Instant 1 0 ∷ []) (Instant 0 0 ∷ []) ample 1 2 2 []

pub gives-C1 : Gives C1
unfolding Each
gives-C1 = worked.0

pub gives-C2 : Gives C2
unfolding Each
gives-C2 = worked.1.0

pub gives-C4 : Gives C4
unfolding Each
gives-C4 = worked.1.1.1.0

-- ---- "one that refuses everything"
-- what rows in order decide is their answer
pub decided : (rules : List Rule) (a : Against) → Decides rules a → a ≡ answer rules
decided rules a h = decides-one rules a (answer rules) h (answer-decides rules)

pub decided-number : (rules : List Rule) (a : Against) → Decides rules a → a.number ≡ (answer rules).number
decided-number rules a h = ap (λ (w : Against). w.number) (decided rules a h)

-- where no row applies, there is no refusal
no-refusal : (rules : List Rule) (side number : ℕ) → answer rules ≡ against 0 0 → Decides rules (against side (suc number)) → ⊥
no-refusal rules side number e h =
    let z : suc number ≡ 0 = decided-number rules _ h ∙ ap (λ (a : Against). a.number) e in omega arith

-- "Empty with s = 0: 00 12 00 00", and its node table
abbrev pub sheet : List ℕ
sheet = 0 ∷ 18 ∷ 0 ∷ 0 ∷ []

abbrev pub table : List ℕ
table = 65536 ∷ []

pub refuses-reading : ReadRefuses refuses_reading → ⊥
unfolding answer of_nodes no_node read_refusal header_refusal reading signals_in count_in nodes_in filling_set digits each field fields bit kind_of decode_of lowest lowest_node some_below some_child claimed names_beyond twins node_refusal one_if_instant instants refusal_at table_refusal
refuses-reading h = no-refusal (of_reader sheet 1) 0 6 refl (h sheet table table (Err NoSuchNode) (refl, refl)).0

pub refuses-writing : WriteRefuses refuses_writing → ⊥
unfolding answer of_nodes no_node write_refusal writing kind_of decode_of lowest lowest_node some_below some_child claimed names_beyond twins node_refusal one_if_instant instants refusal_at table_refusal side_refusal
refuses-writing h =
    no-refusal (of_writer 0 table 4) 0 12 refl (h 0 table sheet sheet (Err OutputTooShort) (refl, refl)).0

-- of both sides
abbrev pub refusing : ℕ → Reply
refusing number = record { refusal = against 3 number; values = [] }

pub refuses-start : StartRefuses refuses_all.starts → ⊥
unfolding answer of_nodes no_node kind_of decode_of fields_of number_of some_below some_child names_beyond twins one_if_instant instants
refuses-start h =
    no-refusal (of_start (given_by C2.case) ample) 3 14 refl
    (h (given_by C2.case) (ready ample) (ready ample) (refusing 15) (ap (λ (w : Against). leaves (or_both w 15) [] (ready ample) (ready ample)) (sym gives-C2.starts))).0

pub refuses-run : RunRefuses refuses_all.runs → ⊥
unfolding answer of_nodes no_node kind_of decode_of fields_of number_of some_below some_child names_beyond twins one_if_instant instants room_of record_impossible row_zero_impossible impossible
refuses-run h =
    no-refusal (of_run (given_by C2.case) ample (used_in (ready ample)) (ready ample).held) 3 15 refl
    (h (given_by C2.case) (ready ample) (ready ample) 1 (refusing 16) (ap (λ (w : Against). leaves (or_both w 16) [] (ready ample) (ready ample)) (sym gives-C2.runs))).0

-- what our run leaves of C2, whose trace is empty
abbrev pub refuted : Lent
refuted = lent (ready ample).rows (record { settled = 0; used = 1; outcome = 2 })

pub gives-trace : trace_refusal (given_by C2.case) ample (used_in refuted) refuted.held 0 ≡ against 0 0
unfolding trace_refusal first kind_of decode_of fields_of number_of lowest lowest_node some_below some_child claimed names_beyond twins node_refusal one_if_instant instants refusal_at table_refusal side_refusal side_of room_of record_impossible row_zero_impossible impossible word_in
gives-trace = refl

pub refuses-trace : TraceRefuses refuses_all.traces → ⊥
unfolding answer of_nodes no_node kind_of decode_of fields_of number_of some_below some_child names_beyond twins one_if_instant instants room_of record_impossible row_zero_impossible impossible word_in
refuses-trace h =
    no-refusal (of_trace (given_by C2.case) ample (used_in refuted) refuted.held 0) 3 17 refl
    (h (given_by C2.case) refuted [] [] (refusing 18) (ap (λ (w : Against). leaves (or_both w 18) [] [] []) (sym gives-trace))).0

-- ---- the others: start, then one accepted run call on what it left
-- the state that our run call leaves, with the room as its budget
abbrev pub left_by : Given → State
left_by g = run_after g ample (used_in (ready ample)) (ready ample).held ample

-- the promise of an accepted run call that is lent l and leaves l'
pub leaves-it : (g : Given) (l l' : Lent) → run_refusal g (length l.rows) (used_in l) l.held ≡ against 0 0
    → exit accepted l' ≡ leaves (run_refusal g (length l.rows) (used_in l) l.held) [] l' l
leaves-it g l l' e = ap (λ (w : Against). leaves w [] l' l) (sym e)

-- "one that says 'included' to all": nil has no trace
pub nil-trace : (s : ℕ) (t : List Node) (i : ℕ) (w : List ℕ) → at t i ≡ Nil → Trace s t i w → ⊥
nil-trace s t i w h (of_empty e) = let z : ◌≡◌ {A = ℕ} 0 1 = cc in omega arith
nil-trace s t i w h (of_instant e m) = let z : ◌≡◌ {A = ℕ} 0 1 = cc in omega arith
nil-trace s t i w h (of_seq e a b) = let z : ◌≡◌ {A = ℕ} 0 1 = cc in omega arith
nil-trace s t i w h (of_first e a) = let z : ◌≡◌ {A = ℕ} 0 1 = cc in omega arith
nil-trace s t i w h (of_second e a) = let z : ◌≡◌ {A = ℕ} 0 1 = cc in omega arith
nil-trace s t i w h (of_none e) = let z : ◌≡◌ {A = ℕ} 0 1 = cc in omega arith
nil-trace s t i w h (of_more e a b) = let z : ◌≡◌ {A = ℕ} 0 1 = cc in omega arith

pub includes-all : IncludedOnlyIf includes_all → ⊥
unfolding kind_of decode_of fields_of number_of
includes-all h =
    let g = given_by C2.case in
    let l' = lent (ready ample).rows (record { settled = 1; used = 1; outcome = 1 }) in
    nil-trace 0 (Nil ∷ []) 0 [] refl
    (h g 0 (0 + ample) _ _ (one-call _ g 0 ample ample l' gives-C2.starts (omega arith) (leaves-it g (ready ample) l' gives-C2.runs)) refl [] (of_empty refl))

-- "one that leaves the record as it found it": no verdict though the budget is above the bound, which is 1 for C1
pub most-C1 : most (given_by C1.case) ≡ 1
unfolding kind_of decode_of fields_of number_of one_if_instant instants
most-C1 = refl

pub leaves-record : RoomAndBudget leaves_record → ⊥
leaves-record h =
    let g = given_by C1.case in
    let l' = lent (holding (left_by g) (ready ample)).rows (ready ample).held in
    let c = one-call _ g (most g) ample ample l' gives-C1.starts (omega (arith, most-C1)) (leaves-it g (ready ample) l' gives-C1.runs) in
    ⊎_elim
    (λ (e : ◌≡◌ {A = ℕ} 0 1). omega arith) (λ (e : ◌≡◌ {A = ℕ} 0 2). omega arith)
    ((h g (0 + ample) _ _ (omega (arith, most-C1)) c).1 (omega (arith, most-C1)))

-- "one that settles all rows in its first step and idles later": C4 has two rows, and the budget is 1
pub settles-at-once : StepsClose settles_at_once → ⊥
unfolding room_of
settles-at-once h =
    let g = given_by C4.case in
    let l' = holding (left_by g) (ready ample) in
    let two : (left_by g).settled ≡ 2 = ap (λ (s : Listed). s.settled) gives-C4.shows in
    omega (arith, two, (h g (ready ample) l' 1 accepted (leaves-it g (ready ample) l' gives-C4.runs) refl (inl refl)).1)

-- "one that invents the settled count": no place follows in C1, so only the empty word leads anywhere, and to the start goal
pub none-follows : (p : ℕ) → Mem (followers (left_of (given_by C1.case)) 0) p → ⊥
unfolding kind_of decode_of fields_of number_of numbered_node numbered_to rounds first_of after list_of side_of
none-follows = mem-zero

only-start : (w : List ℕ) (p S : ℕ) → Reaches (given_by C1.case) w p S → (p ≡ 0) × (S ≡ 1)
only-start [] p S r = (sym r.left, set-ext S 1 (λ k. ((λ m. (mem-pow 0 k).1 (sym ((r.right k).0 m))), (λ m. (r.right k).1 (sym ((mem-pow 0 k).0 m))))))
only-start (x ∷ w) p S r = absurd (none-follows r.left.0 r.left.1)

-- two rows are two goals, but there is one
one-goal : (goals : List Row) → Differ goals → ((p S : ℕ) → Has goals p S → (p ≡ 0) × (S ≡ 1)) → length goals ≡ 2 → ⊥
one-goal goals d only e =
    let a = only _ _ (0, omega arith, refl, refl) in
    let b = only _ _ (1, omega arith, refl, refl) in
    let z : ◌≡◌ {A = ℕ} 0 1 = d 0 1 (omega arith) (omega arith) (a.0 ∙ sym b.0) (a.1 ∙ sym b.1) in
    omega arith

pub invents-count : CountsReached invents_count → ⊥
unfolding room_of
invents-count h =
    let g = given_by C1.case in
    let st = left_by g in
    let included : st.outcome ≡ 1 = ap (λ (s : Listed). s.outcome) gives-C1.shows in
    let one : st.settled ≡ 1 = ap (λ (s : Listed). s.settled) gives-C1.shows in
    let used : length st.rows ≡ 1 = ap (λ (s : Listed). s.used) gives-C1.shows in
    let invented : Run = record { settled = suc st.settled; used = suc (length st.rows); outcome = 1 } in
    let held : Run = cond (eqb st.outcome 1 && ltb (length st.rows) (room_of ample)) invented (record_of st) in
    let is : held ≡ invented = ap₂ (λ (o n : ℕ). cond (eqb o 1 && ltb n (room_of ample)) invented (record_of st)) included used in
    let l' = lent (holding st (ready ample)).rows held in
    let two : held.settled ≡ 2 = ap (λ (r : Run). r.settled) is ∙ ap suc one in
    let (goals, count, differ, reached) = h g 0 (0 + ample) _ _ (one-call _ g 0 ample ample l' gives-C1.starts (omega arith) (leaves-it g (ready ample) l' gives-C1.runs)) (ap (λ (r : Run). r.outcome) is) in
    one-goal goals differ (λ p S i. let (w, r) = (reached p S).0 i in only-start w p S r) (count ∙ two)
