-- Bad versions for the statements of demands 1 and 2 and of the sheets: each is stopped on input so small that what it answers
-- and leaves, and what document 01 says, compute.
use Prim.Native.Nat.{ℕ, zero, suc, ◌+◌, ◌≤◌, ◌<◌}
use mathlib.Core.Path.{◌≡◌, refl, sym, ap, subst}
use mathlib.Core.List.{List, [], ◌∷◌}
use native.Mathlib.Omega.{arith}
use lib.ListN.{get_or, take, drop}
use Rattle.std.specs.Prelude.{Result, Ok, Err}
use Rattle.bits.specs.Bit.{bit}
use Rattle.bits.proofs.Laws.{mem-zero}
use Rattle.effect.specs.declared.Refusal.{Refusal}
use Rattle.effect.specs.declared.Refusal.TheVariants.{SignalsAboveEight, NoSuchNode}
use Rattle.effect.specs.Node.{kind_of, decode_of, fields_of, number_of}
use Rattle.effect.specs.Meaning.{of_empty, of_instant, of_none, of_more}
use Rattle.effect.proofs.Examples.{instant-trace}
use Rattle.effect.specs.Refusals.{front, lowest, lowest_node, some_below, some_child, claimed, names_beyond, twins, node_refusal, one_if_instant, instants, refusal_at, table_refusal, side_refusal}
use Rattle.sheet.specs.declared.Header.{Header}
use Rattle.sheet.specs.Bits.{digits, each, field, fields}
use Rattle.sheet.specs.Sheet.{reading, writing, sheet_bits, sheet_of, signals_in, count_in, nodes_in, filling_set, header_refusal, read_refusal, read_of, Reads, write_refusal, write_of, Writes}
use Rattle.sheet.specs.RoundTrip.{Bytes, SheetAgain, TableAgain}
use Rattle.places.specs.Places.{place, numbered_node, numbered_to, rounds, has_empty, first_of, last_of, after, accepting}
use Rattle.places.specs.Side.{list_of, mask_in, masks_to, side_of}
use Rattle.places.specs.Readings.{matching_to, spread_to}
use Rattle.goals.specs.declared.Row.{Row}
use Rattle.goals.specs.declared.Run.{Run}
use Rattle.goals.specs.Goals.{row, row_zero, bad_goal, each_member, each_letter, candidates, known, enter, enter_all}
use Rattle.goals.specs.Run.{started, settle, step, steps, run, word_in}
use Rattle.goals.specs.Refusals.{Given, given, room_of, record_of, record_impossible, row_zero_impossible, row_impossible, impossible, Against, against, first, start_refusal, run_refusal, trace_refusal, Reply, leaves, run_after}
use Rattle.goals.specs.Cases.{ample, given_by}
use Rattle.demands.specs.Calls.{Lent, lent, used_in, holding, TraceCall, Starts, Runs}
use Rattle.demands.specs.Ordered.{no_node, of_nodes, of_reader, of_writer, of_start, of_run, of_trace}
use Rattle.demands.specs.Demands.{LeftTrace, RightTrace, Chain, Answers, SheetAnswers, ReadRefuses, WriteRefuses, StartRefuses, RunRefuses, TraceRefuses, ReadTakes, WritePuts, RefutedOnlyWith, TraceHands, RefutedShown}
use Rattle.demands.specs.BadVersions.{refuted_at_once, silent_start, silent_run, silent_trace, silent_reading, silent_writing, accepts_all, accepts_reading, accepts_writing, names_both, misnumbers, misnumbers_reading, misnumbers_writing, writes_refused, writes_refused_reading, writes_refused_writing, takes_nothing, takes_one_more, clears_table, puts_nothing, puts_one_more, clears_output, refutes_by_left, refutes_by_right, hands_nothing, hands_other, writes_on, counts_one_more, counts_no_letter}
use Rattle.demands.proofs.InOrder.{answer}
use Rattle.demands.proofs.OneCall.{ready, accepted, one-call}
use Rattle.demands.proofs.BadVersions.{C1, gives-C1, decided, decided-number, sheet, table, leaves-it, nil-trace}

-- nil against nil, which none of 2 to 14 applies to, and a left of no node, to which 3 does
abbrev nils : Given
nils = given 0 (0 ∷ []) 0 (0 ∷ [])

abbrev no_left : Given
no_left = given 0 [] 0 (0 ∷ [])

-- the entries k of one list
entries : (k : ℕ) {xs ys : List ℕ} → xs ≡ ys → get_or xs k 0 ≡ get_or ys k 0
entries k e = ap (λ (m : List ℕ). get_or m k 0) e

-- an answer that refuses, naming a side
abbrev refusing_side : ℕ → ℕ → Reply
refusing_side side number = record { refusal = against side number; values = [] }

-- ---- one that gives no answer
pub silent-start : Answers silent_start → ⊥
silent-start h = (h.0 nils (ready 1)).2

pub silent-run : Answers silent_run → ⊥
silent-run h = (h.1 nils (ready 1) 0).2

pub silent-trace : Answers silent_trace → ⊥
silent-trace h = (h.2 nils (ready 1) []).2

pub silent-reading : SheetAnswers silent_reading Writes → ⊥
silent-reading h = (h.0 [] []).2

pub silent-writing : SheetAnswers Reads silent_writing → ⊥
silent-writing h = (h.1 0 [] []).2

-- ---- one that accepts everything
-- a table of no rows: 15
pub accepts-start : StartRefuses accepts_all.starts → ⊥
unfolding answer of_nodes no_node kind_of decode_of some_below some_child names_beyond twins one_if_instant instants
accepts-start h =
    let z : ◌≡◌ {A = ℕ} 0 15 = decided-number (of_start nils 0) (against 0 0) (h nils (ready 0) (holding started (ready 0)) accepted refl).0 in
    omega arith

-- no row used: 16
pub accepts-run : RunRefuses accepts_all.runs → ⊥
unfolding answer of_nodes no_node kind_of decode_of some_below some_child names_beyond twins one_if_instant instants record_impossible impossible
accepts-run h =
    let held : Run = record { settled = 0; used = 0; outcome = 0 } in
    let l : Lent = lent (row_zero ∷ []) held in
    let z : ◌≡◌ {A = ℕ} 0 16 = decided-number (of_run nils 1 [] held) (against 0 0) (h nils l (holding (run_after nils 1 [] held 0) l) 0 accepted refl).0 in
    omega arith

-- a run that is open: 17
pub accepts-trace : TraceRefuses accepts_all.traces → ⊥
unfolding answer of_nodes no_node kind_of decode_of some_below some_child names_beyond twins one_if_instant instants room_of record_impossible row_zero_impossible impossible word_in
accepts-trace h =
    let reply : Reply = record { refusal = against 0 0; values = 0 ∷ [] } in
    let z : ◌≡◌ {A = ℕ} 0 17 = decided-number (of_trace nils 1 started.rows (record_of started) 0) (against 0 0) (h nils (ready 1) [] [] reply refl).0 in
    omega arith

-- a sheet of no byte: 1
pub accepts-reading : ReadRefuses accepts_reading → ⊥
unfolding answer reading signals_in count_in nodes_in each field fields
accepts-reading h =
    let z : ◌≡◌ {A = ℕ} 0 1 = decided-number (of_reader [] 0) (against 0 0) (h [] [] [] (Ok (record { s = 0; nodes = 0 })) (refl, refl)).0 in
    omega arith

-- an output of no byte: 13
pub accepts-writing : WriteRefuses accepts_writing → ⊥
unfolding answer of_nodes no_node writing kind_of decode_of some_below some_child names_beyond twins one_if_instant instants
accepts-writing h =
    let z : ◌≡◌ {A = ℕ} 0 13 = decided-number (of_writer 0 table 0) (against 0 0) (h 0 table [] (front (sheet_of 0 table) []) (Ok 4) (refl, refl)).0 in
    omega arith

-- ---- one that names both sides, and one whose number is 1: 3 of the left
pub start-names-both : StartRefuses names_both.starts → ⊥
unfolding answer start_refusal first side_refusal lowest
start-names-both h =
    let z : ◌≡◌ {A = ℕ} 3 1 = ap (λ (a : Against). a.side) (decided (of_start no_left 1) _ (h no_left (ready 1) (ready 1) (refusing_side 3 3) refl).0) in
    omega arith

pub run-names-both : RunRefuses names_both.runs → ⊥
unfolding answer run_refusal first side_refusal lowest
run-names-both h =
    let z : ◌≡◌ {A = ℕ} 3 1 = ap (λ (a : Against). a.side) (decided (of_run no_left 1 started.rows (record_of started)) _ (h no_left (ready 1) (ready 1) 0 (refusing_side 3 3) refl).0) in
    omega arith

pub trace-names-both : TraceRefuses names_both.traces → ⊥
unfolding answer trace_refusal first side_refusal lowest
trace-names-both h =
    let z : ◌≡◌ {A = ℕ} 3 1 = ap (λ (a : Against). a.side) (decided (of_trace no_left 1 started.rows (record_of started) 0) _ (h no_left (ready 1) [] [] (refusing_side 3 3) refl).0) in
    omega arith

pub start-misnumbers : StartRefuses misnumbers.starts → ⊥
unfolding answer start_refusal first side_refusal lowest
start-misnumbers h =
    let z : ◌≡◌ {A = ℕ} 1 3 = decided-number (of_start no_left 1) _ (h no_left (ready 1) (ready 1) (refusing_side 1 1) refl).0 in
    omega arith

pub run-misnumbers : RunRefuses misnumbers.runs → ⊥
unfolding answer run_refusal first side_refusal lowest
run-misnumbers h =
    let z : ◌≡◌ {A = ℕ} 1 3 = decided-number (of_run no_left 1 started.rows (record_of started)) _ (h no_left (ready 1) (ready 1) 0 (refusing_side 1 1) refl).0 in
    omega arith

pub trace-misnumbers : TraceRefuses misnumbers.traces → ⊥
unfolding answer trace_refusal first side_refusal lowest
trace-misnumbers h =
    let z : ◌≡◌ {A = ℕ} 1 3 = decided-number (of_trace no_left 1 started.rows (record_of started) 0) _ (h no_left (ready 1) [] [] (refusing_side 1 1) refl).0 in
    omega arith

-- a reader and a writer whose number is 7: a sheet of no byte is 1, an output of no byte 13
pub reading-misnumbers : ReadRefuses misnumbers_reading → ⊥
unfolding answer reading read_refusal header_refusal lowest
reading-misnumbers h =
    let z : ◌≡◌ {A = ℕ} 7 1 = decided-number (of_reader [] 0) _ (h [] [] [] (Err NoSuchNode) (refl, refl)).0 in
    omega arith

pub writing-misnumbers : WriteRefuses misnumbers_writing → ⊥
unfolding answer of_nodes no_node writing write_refusal kind_of decode_of lowest lowest_node some_below some_child names_beyond twins node_refusal one_if_instant instants refusal_at table_refusal side_refusal
writing-misnumbers h =
    let z : ◌≡◌ {A = ℕ} 7 13 = decided-number (of_writer 0 table 0) _ (h 0 table [] [] (Err NoSuchNode) (refl, refl)).0 in
    omega arith

-- ---- one that writes though it refuses: 3 of the left, and 2 of reader and writer. Start and run write a row and a record: the rows tell
-- where the record lent is already the one written, and the record where the row is.
abbrev row_one : Row
row_one = row 1 0 0 0

abbrev ended_run : Run
ended_run = record { settled = 1; used = 1; outcome = 1 }

abbrev first_place : Lent → ℕ
first_place l = (get_or l.rows 0 row_zero).place

pub start-writes-rows : StartRefuses writes_refused.starts → ⊥
unfolding start_refusal first side_refusal lowest
start-writes-rows h =
    let z : ◌≡◌ {A = ℕ} 0 1 = ap first_place ((h no_left (lent (row_one ∷ []) (record_of started)) (ready 1) (refusing_side 1 3) refl).1 (λ e. omega (arith, e))) in
    omega arith

pub start-writes-record : StartRefuses writes_refused.starts → ⊥
unfolding start_refusal first side_refusal lowest
start-writes-record h =
    let z : ◌≡◌ {A = ℕ} 0 1 = ap (λ (l : Lent). l.held.settled) ((h no_left (lent (row_zero ∷ []) ended_run) (ready 1) (refusing_side 1 3) refl).1 (λ e. omega (arith, e))) in
    omega arith

pub run-writes-rows : RunRefuses writes_refused.runs → ⊥
unfolding run_refusal first side_refusal lowest
run-writes-rows h =
    let z : ◌≡◌ {A = ℕ} 1 0 = ap first_place ((h no_left (lent (row_zero ∷ []) ended_run) (lent (row_one ∷ []) ended_run) 0 (refusing_side 1 3) refl).1 (λ e. omega (arith, e))) in
    omega arith

pub run-writes-record : RunRefuses writes_refused.runs → ⊥
unfolding run_refusal first side_refusal lowest
run-writes-record h =
    let z : ◌≡◌ {A = ℕ} 1 0 = ap (λ (l : Lent). l.held.settled) ((h no_left (lent (row_one ∷ []) (record_of started)) (lent (row_one ∷ []) ended_run) 0 (refusing_side 1 3) refl).1 (λ e. omega (arith, e))) in
    omega arith

pub trace-writes-refused : TraceRefuses writes_refused.traces → ⊥
unfolding trace_refusal first side_refusal lowest
trace-writes-refused h =
    let z : ◌≡◌ {A = ℕ} 0 1 = entries 0 ((h no_left (ready 1) (1 ∷ []) (0 ∷ []) (refusing_side 1 3) refl).1 (λ e. omega (arith, e))) in
    omega arith

-- s is 9 and the node is empty
pub reading-writes-refused : ReadRefuses writes_refused_reading → ⊥
unfolding reading read_refusal header_refusal lowest signals_in count_in nodes_in digits each field fields bit
reading-writes-refused h =
    let z : ◌≡◌ {A = ℕ} 65536 0 = entries 0 ((h (144 ∷ 18 ∷ 0 ∷ 0 ∷ []) (0 ∷ []) table (Err SignalsAboveEight) (refl, refl)).1 (λ e. omega (arith, e))) in
    omega arith

pub writing-writes-refused : WriteRefuses writes_refused_writing → ⊥
unfolding writing write_refusal side_refusal lowest sheet_of sheet_bits digits each field fields bit
writing-writes-refused h =
    let z : ◌≡◌ {A = ℕ} 144 0 = entries 0 ((h 9 table sheet (144 ∷ 18 ∷ 0 ∷ 0 ∷ []) (Err SignalsAboveEight) (refl, refl)).1 (λ e. omega (arith, e))) in
    omega arith

-- ---- a reader that takes nothing and a writer that puts nothing: "Empty with s = 0", over a table of 0 and an output of 1s
abbrev ones : List ℕ
ones = 1 ∷ 1 ∷ 1 ∷ 1 ∷ []

pub takes-no-node : ReadTakes takes_nothing → ⊥
unfolding reading read_refusal header_refusal signals_in count_in nodes_in filling_set digits each field fields bit kind_of decode_of lowest lowest_node some_below some_child names_beyond twins node_refusal one_if_instant instants refusal_at table_refusal
takes-no-node h =
    let z : ◌≡◌ {A = ℕ} 0 65536 = entries 0 (h sheet (0 ∷ []) (0 ∷ []) (Ok (record { s = 0; nodes = 1 })) (refl, refl) refl).1 in
    omega arith

-- a node more answered; and of a table of two entries the second lost
pub takes-one-more : ReadTakes takes_one_more → ⊥
unfolding reading read_refusal header_refusal signals_in count_in nodes_in filling_set digits each field fields bit kind_of decode_of lowest lowest_node some_below some_child names_beyond twins node_refusal one_if_instant instants refusal_at table_refusal
takes-one-more h =
    let z : ◌≡◌ {A = ℕ} 2 1 = entries 1 (h sheet (0 ∷ []) table (Ok (record { s = 0; nodes = 2 })) (refl, refl) refl).0 in
    omega arith

pub clears-table : ReadTakes clears_table → ⊥
unfolding reading read_refusal header_refusal signals_in count_in nodes_in filling_set digits each field fields bit kind_of decode_of lowest lowest_node some_below some_child names_beyond twins node_refusal one_if_instant instants refusal_at table_refusal
clears-table h =
    let z : ◌≡◌ {A = ℕ} 0 5 = entries 1 (h sheet (0 ∷ 5 ∷ []) (65536 ∷ 0 ∷ []) (Ok (record { s = 0; nodes = 1 })) (refl, refl) refl).1 in
    omega arith

pub puts-no-sheet : WritePuts puts_nothing → ⊥
unfolding writing write_refusal sheet_of sheet_bits digits field fields bit kind_of decode_of lowest lowest_node some_below some_child names_beyond twins node_refusal one_if_instant instants refusal_at table_refusal side_refusal
puts-no-sheet h =
    let z : ◌≡◌ {A = ℕ} 1 0 = entries 0 (h 0 table ones ones (Ok 4) (refl, refl) refl).1 in
    omega arith

-- a byte more answered; and of an output of five bytes the fifth lost
pub puts-one-more : WritePuts puts_one_more → ⊥
unfolding writing write_refusal sheet_of sheet_bits digits each field fields bit kind_of decode_of lowest lowest_node some_below some_child names_beyond twins node_refusal one_if_instant instants refusal_at table_refusal side_refusal
puts-one-more h =
    let z : ◌≡◌ {A = ℕ} 5 4 = entries 0 (h 0 table ones sheet (Ok 5) (refl, refl) refl).0 in
    omega arith

pub clears-output : WritePuts clears_output → ⊥
unfolding writing write_refusal sheet_of sheet_bits digits each field fields bit kind_of decode_of lowest lowest_node some_below some_child names_beyond twins node_refusal one_if_instant instants refusal_at table_refusal side_refusal
clears-output h =
    let z : ◌≡◌ {A = ℕ} 0 1 = entries 4 (h 0 table (1 ∷ ones) (0 ∷ 18 ∷ 0 ∷ 0 ∷ 0 ∷ []) (Ok 4) (refl, refl) refl).1 in
    omega arith

-- written and read again: what is left, and what is answered
sheet-bytes : Bytes sheet
sheet-bytes zero = omega arith
sheet-bytes (suc zero) = omega arith
sheet-bytes (suc (suc zero)) = omega arith
sheet-bytes (suc (suc (suc zero))) = omega arith
sheet-bytes (suc (suc (suc (suc k)))) = omega arith

pub sheet-not-again : SheetAgain Reads puts_nothing → ⊥
unfolding reading read_of read_refusal header_refusal signals_in count_in nodes_in filling_set writing write_refusal digits each field fields bit kind_of decode_of lowest lowest_node some_below some_child names_beyond twins node_refusal one_if_instant instants refusal_at table_refusal side_refusal
sheet-not-again h =
    let z : ◌≡◌ {A = ℕ} 1 0 = entries 0 (h sheet (0 ∷ []) table ones ones 0 1 (Ok 4) sheet-bytes refl (omega arith) (refl, refl)).1 in
    omega arith

pub sheet-one-more : SheetAgain Reads puts_one_more → ⊥
unfolding reading read_of read_refusal header_refusal signals_in count_in nodes_in filling_set writing write_refusal sheet_of sheet_bits digits each field fields bit kind_of decode_of lowest lowest_node some_below some_child names_beyond twins node_refusal one_if_instant instants refusal_at table_refusal side_refusal
sheet-one-more h =
    let e = (h sheet (0 ∷ []) table ones sheet 0 1 (Ok 5) sheet-bytes refl (omega arith) (refl, refl)).0 in
    let z : ◌≡◌ {A = ℕ} 5 4 = ap (λ (r : Result ℕ Refusal). get_or (writing r).values 0 0) e in
    omega arith

pub table-not-again : TableAgain takes_nothing Writes → ⊥
unfolding reading read_refusal header_refusal signals_in count_in nodes_in filling_set writing write_refusal write_of sheet_of sheet_bits digits each field fields bit kind_of decode_of lowest lowest_node some_below some_child names_beyond twins node_refusal one_if_instant instants refusal_at table_refusal side_refusal
table-not-again h =
    let z : ◌≡◌ {A = ℕ} 0 65536 = entries 0 (h 0 table ones sheet (0 ∷ []) (0 ∷ []) 4 (Ok (record { s = 0; nodes = 1 })) refl (omega arith) (refl, refl)).1 in
    omega arith

pub table-one-more : TableAgain takes_one_more Writes → ⊥
unfolding reading read_refusal header_refusal signals_in count_in nodes_in filling_set writing write_refusal write_of sheet_of sheet_bits digits each field fields bit kind_of decode_of lowest lowest_node some_below some_child names_beyond twins node_refusal one_if_instant instants refusal_at table_refusal side_refusal
table-one-more h =
    let e = (h 0 table ones sheet (0 ∷ []) table 4 (Ok (record { s = 0; nodes = 2 })) refl (omega arith) (refl, refl)).0 in
    let z : ◌≡◌ {A = ℕ} 2 1 = ap (λ (r : Result Header Refusal). get_or (reading r).values 1 0) e in
    omega arith

-- ---- one that says "refuted" by the left alone: C1, whose empty trace is the right's too
pub refutes-by-left : RefutedOnlyWith refutes_by_left → ⊥
unfolding kind_of decode_of fields_of number_of numbered_node numbered_to rounds has_empty last_of accepting side_of bit word_in
refutes-by-left h =
    let g = given_by C1.case in
    let l' = refuted_at_once (ready ample) in
    (h g 0 (0 + ample) _ _ (one-call _ g 0 ample ample l' gives-C1.starts (omega arith) (leaves-it g (ready ample) l' gives-C1.runs)) refl).1 (of_empty refl)

-- and by the right alone: nil against nil, where the left has no trace
starts-nils : (start_refusal nils 1 ≡ against 0 0) × (start_refusal nils 2 ≡ against 0 0)
unfolding start_refusal first kind_of decode_of lowest lowest_node some_below some_child names_beyond twins node_refusal one_if_instant instants refusal_at table_refusal side_refusal
starts-nils = (refl, refl)

pub refutes-by-right : RefutedOnlyWith refutes_by_right → ⊥
unfolding run_refusal first kind_of decode_of lowest lowest_node some_below some_child names_beyond twins node_refusal one_if_instant instants refusal_at table_refusal side_refusal room_of record_impossible row_zero_impossible impossible numbered_node numbered_to rounds has_empty last_of accepting side_of bit
refutes-by-right h =
    nil-trace 0 _ 0 _ refl (h nils 0 (0 + 1) _ _ (one-call _ nils 0 1 1 (refuted_at_once (ready 1)) starts-nils.0 (omega arith) refl) refl).0

-- ---- {} against {D}*: a run call of room and budget 3 leaves it refuted at row 1, by the trace 0; the right has the trace 1 and the
-- empty one. (131072 is {}, 131328 is {D}, 327680 repeats node 0.)
abbrev sides : Given
sides = given 1 (131072 ∷ []) 1 (131328 ∷ 327680 ∷ [])

abbrev refuted_sides : Lent
refuted_sides = lent (row_zero ∷ row_one ∷ row 1 2 0 1 ∷ []) (record { settled = 1; used = 3; outcome = 2 })

starts-sides : start_refusal sides 3 ≡ against 0 0
unfolding start_refusal first kind_of decode_of lowest lowest_node some_below some_child claimed names_beyond twins node_refusal one_if_instant instants refusal_at table_refusal side_refusal
starts-sides = refl

runs-sides : Runs sides (ready 3) 3 accepted refuted_sides
unfolding bit kind_of decode_of lowest lowest_node some_below some_child claimed names_beyond twins node_refusal one_if_instant instants refusal_at table_refusal side_refusal place numbered_node numbered_to rounds has_empty first_of last_of after accepting list_of mask_in masks_to side_of matching_to spread_to bad_goal each_member each_letter candidates known enter enter_all settle step steps run room_of record_impossible row_zero_impossible impossible first run_refusal run_after
runs-sides = refl

abbrev why : ℕ → Against
why buffer = trace_refusal sides 3 (used_in refuted_sides) refuted_sides.held buffer

traces-sides : (why 1 ≡ against 0 0) × (why 2 ≡ against 0 0)
unfolding trace_refusal first kind_of decode_of lowest lowest_node some_below some_child claimed names_beyond twins node_refusal one_if_instant instants refusal_at table_refusal side_refusal side_of room_of record_impossible row_zero_impossible row_impossible impossible bit word_in
traces-sides = (refl, refl)

one_right : RightTrace sides (1 ∷ [])
unfolding kind_of decode_of
one_right = of_more refl (of_instant {x = 1} refl (record { letter = omega arith; present = λ i m. m; absent = λ i m n. mem-zero i m })) (of_none refl)

empty_right : RightTrace sides []
unfolding kind_of decode_of
empty_right = of_none refl

-- start and that run call, whatever trace is
chain : (traces : TraceCall) → Chain (record { starts = Starts; runs = Runs; traces = traces }) sides 0 (used_in refuted_sides) refuted_sides.held (0 + 3)
chain traces = one-call Runs {traces = traces} sides 0 3 3 refuted_sides starts-sides (omega arith) runs-sides

-- the answer that counts n letters
abbrev counts : ℕ → Reply
counts n = record { refusal = against 0 0; values = n ∷ [] }

-- a trace call on a buffer of 1 that leaves the buffer as it was, one that writes 255, two that write the 0 and count no letter or two;
-- and, on a buffer of two bytes, one that writes another 0
hands-it : hands_nothing.traces sides refuted_sides (1 ∷ []) (counts 1) (1 ∷ [])
unfolding word_in
hands-it = ap (λ (w : Against). leaves w (1 ∷ []) (1 ∷ []) (1 ∷ [])) (sym traces-sides.0)

hands-255 : hands_other.traces sides refuted_sides (1 ∷ []) (counts 1) (255 ∷ [])
unfolding word_in
hands-255 = ap (λ (w : Against). leaves w (1 ∷ []) (255 ∷ []) (1 ∷ [])) (sym traces-sides.0)

writes-it : writes_on.traces sides refuted_sides (1 ∷ 1 ∷ []) (counts 1) (0 ∷ 0 ∷ [])
unfolding word_in
writes-it = ap (λ (w : Against). leaves w (1 ∷ []) (0 ∷ 0 ∷ []) (1 ∷ 1 ∷ [])) (sym traces-sides.1)

counts-two : counts_one_more.traces sides refuted_sides (1 ∷ []) (counts 2) (0 ∷ [])
unfolding word_in
counts-two = ap (λ (w : Against). leaves w (2 ∷ []) (0 ∷ []) (1 ∷ [])) (sym traces-sides.0)

counts-none : counts_no_letter.traces sides refuted_sides (1 ∷ []) (counts 0) (0 ∷ [])
unfolding word_in
counts-none = ap (λ (w : Against). leaves w (0 ∷ []) (0 ∷ []) (1 ∷ [])) (sym traces-sides.0)

-- the trace is 0, and is of one letter
pub hands-nothing : TraceHands hands_nothing → ⊥
unfolding word_in
hands-nothing h =
    let z : ◌≡◌ {A = ℕ} 1 0 = entries 0 (h sides refuted_sides (1 ∷ []) (1 ∷ []) (counts 1) hands-it refl).1 in
    omega arith

pub hands-other : TraceHands hands_other → ⊥
unfolding word_in
hands-other h =
    let z : ◌≡◌ {A = ℕ} 255 0 = entries 0 (h sides refuted_sides (1 ∷ []) (255 ∷ []) (counts 1) hands-255 refl).1 in
    omega arith

pub counts-no-letter : TraceHands counts_no_letter → ⊥
unfolding word_in
counts-no-letter h =
    let z : ◌≡◌ {A = ℕ} 0 1 = entries 0 (h sides refuted_sides (1 ∷ []) (0 ∷ []) (counts 0) counts-none refl).0 in
    omega arith

pub counts-one-more : TraceHands counts_one_more → ⊥
unfolding word_in
counts-one-more h =
    let z : ◌≡◌ {A = ℕ} 2 1 = entries 0 (h sides refuted_sides (1 ∷ []) (0 ∷ []) (counts 2) counts-two refl).0 in
    omega arith

-- and the byte beyond it stays
pub writes-on : TraceHands writes_on → ⊥
unfolding word_in
writes-on h =
    let z : ◌≡◌ {A = ℕ} 0 1 = entries 1 (h sides refuted_sides (1 ∷ 1 ∷ []) (0 ∷ 0 ∷ []) (counts 1) writes-it refl).1 in
    omega arith

-- the one letter of the buffer is 1, and no letter is the empty trace: both are the right's
pub shows_nothing : RefutedShown hands_nothing → ⊥
shows_nothing h =
    let (n, values, fits, size, of_left, of_right, rest) =
    h sides 0 (0 + 3) (used_in refuted_sides) refuted_sides.held (chain hands_nothing.traces) refuted_sides.rows (1 ∷ []) (1 ∷ []) (counts 1) refl hands-it refl in
    of_right (subst (λ (k : ℕ). RightTrace sides (take k (1 ∷ []))) (entries 0 values) one_right)

pub shows-no-letter : RefutedShown counts_no_letter → ⊥
shows-no-letter h =
    let (n, values, fits, size, of_left, of_right, rest) =
    h sides 0 (0 + 3) (used_in refuted_sides) refuted_sides.held (chain counts_no_letter.traces) refuted_sides.rows (1 ∷ []) (0 ∷ []) (counts 0) refl counts-none refl in
    of_right (subst (λ (k : ℕ). RightTrace sides (take k (0 ∷ []))) (entries 0 values) empty_right)

-- 255 is no letter of one signal
left-255 : LeftTrace sides (255 ∷ []) → ⊥
unfolding kind_of decode_of
left-255 t =
    let (x, is, m) = instant-trace 1 _ 0 0 0 (255 ∷ []) refl t in
    let below : x < 2 = m.letter in
    omega (arith, entries 0 is)

pub shows-other : RefutedShown hands_other → ⊥
shows-other h =
    let (n, values, fits, size, of_left, of_right, rest) =
    h sides 0 (0 + 3) (used_in refuted_sides) refuted_sides.held (chain hands_other.traces) refuted_sides.rows (1 ∷ []) (255 ∷ []) (counts 1) refl hands-255 refl in
    left-255 (subst (λ (k : ℕ). LeftTrace sides (take k (255 ∷ []))) (sym (entries 0 values)) of_left)

-- two letters are more than the buffer has, and the byte beyond the one letter is another
pub shows-one-more : RefutedShown counts_one_more → ⊥
shows-one-more h =
    let (n, values, fits, size, of_left, of_right, rest) =
    h sides 0 (0 + 3) (used_in refuted_sides) refuted_sides.held (chain counts_one_more.traces) refuted_sides.rows (1 ∷ []) (0 ∷ []) (counts 2) refl counts-two refl in
    let two : 2 ≡ n = entries 0 values in
    let fit : n ≤ 1 = fits in
    omega (arith, two, fit)

pub shows-on : RefutedShown writes_on → ⊥
shows-on h =
    let (n, values, fits, size, of_left, of_right, rest) =
    h sides 0 (0 + 3) (used_in refuted_sides) refuted_sides.held (chain writes_on.traces) refuted_sides.rows (1 ∷ 1 ∷ []) (0 ∷ 0 ∷ []) (counts 1) refl writes-it refl in
    let z : ◌≡◌ {A = ℕ} 0 1 = entries 0 (subst (λ (k : ℕ). drop {A = ℕ} k (0 ∷ 0 ∷ []) ≡ drop k (1 ∷ 1 ∷ [])) (sym (entries 0 values)) rest) in
    omega arith
