-- Bad versions: each is ours but for what it is named after, and `proofs/` shows of each that a demand is false of it. First the "five bad
-- versions to try", with the demand that document 01 names for each (`proofs/BadVersions.antt`); then, for each statement, and for its
-- clauses, versions that are there to be stopped by it (`proofs/BadCalls.antt`, `proofs/BadRuns.antt`).
use Rattle.std.specs.Prelude.{ℕ, suc, ◌+◌, ◌-◌, ◌≡◌, false, cond, ◌&&◌, ◌||◌, List, [], ◌∷◌, ◌++◌, map, eqb, ltb, length, get_or, drop, replicate}
use Rattle.bits.specs.Bit.{has}
use Rattle.effect.specs.Refusals.{answered, front}
use Rattle.sheet.specs.Sheet.{sheet_length, sheet_of, signals_in, count_in, nodes_in, reading, writing, read_refusal, write_refusal}
use Rattle.sheet.specs.RoundTrip.{ReadCall, WriteCall}
use Rattle.goals.specs.declared.Row.{Row}
use Rattle.goals.specs.Goals.{row, row_zero, bad, candidates, enter_all}
use Rattle.goals.specs.Run.{State, state, started, trace_of}
use Rattle.goals.specs.Refusals.{Given, left_of, right_of, room_of, record_of, Against, against, start_refusal, run_refusal, trace_refusal, exit, leaves, run_after}
use Rattle.demands.specs.Calls.{Lent, lent, used_in, holding, Calls, StartCall, RunCall, TraceCall, Starts, Runs, Traces}

-- "one that refuses everything" (demand 1): our refusal, or another where we have none
abbrev pub or_else : ℕ → ℕ → ℕ
or_else refusal other = cond (eqb refusal 0) other refusal

abbrev pub refuses_reading : ReadCall
refuses_reading sheet nodes r nodes' = ((reading r).number ≡ or_else (read_refusal sheet (length nodes)) 7) × (nodes' ≡ nodes)

abbrev pub refuses_writing : WriteCall
refuses_writing s nodes out r out' = ((writing r).number ≡ or_else (write_refusal s nodes (length out)) 13) × (out' ≡ out)

abbrev pub or_both : Against → ℕ → Against
or_both why other = cond (eqb why.number 0) (against 3 other) why

abbrev pub refuses_all : Calls
refuses_all =
    record {
      starts = λ g l reply l'. exit reply l' ≡ leaves (or_both (start_refusal g (length l.rows)) 15) [] l l;
      runs = λ g l budget reply l'. exit reply l' ≡ leaves (or_both (run_refusal g (length l.rows) (used_in l) l.held) 16) [] l l;
      traces = λ g l out reply out'.
          exit reply out' ≡ leaves (or_both (trace_refusal g (length l.rows) (used_in l) l.held (length out)) 18) [] out out;
    }

-- a run call that refuses as ours and leaves, when accepted, `after` of both sides, what it is lent and the state that ours leaves
abbrev pub runs_to : (Given → Lent → State → Lent) → RunCall
runs_to after g l budget reply l' =
    exit reply l'
    ≡ leaves (run_refusal g (length l.rows) (used_in l) l.held) []
    (after g l (run_after g (length l.rows) (used_in l) l.held budget)) l

-- start and trace as ours
abbrev pub with_run : RunCall → Calls
with_run runs = record { starts = Starts; runs = runs; traces = Traces }

-- "one that says 'included' to all" (demand 2, by C2)
abbrev pub includes_all : Calls
includes_all =
    with_run (runs_to (λ g l st. lent l.rows (record { settled = l.held.used; used = l.held.used; outcome = 1 })))

-- "one that leaves the record as it found it" (demand 3's bound): the rows are those that ours leaves
abbrev pub leaves_record : Calls
leaves_record = with_run (runs_to (λ g l st. lent (holding st l).rows l.held))

-- "one that settles all rows in its first step and idles later" (demand 3's one goal a step): whatever the budget, if it is not 0, as
-- many steps as the room has rows
abbrev pub settles_at_once : Calls
settles_at_once = with_run (λ g l budget reply l'. Runs g l (cond (eqb budget 0) 0 (room_of (length l.rows))) reply l')

-- "one that invents the settled count" (demand 3's count of reached goals): where it says included and the room has another row, that
-- row is used and settled too
abbrev pub invents_count : Calls
invents_count =
    with_run (runs_to (λ g l st.
    lent (holding st l).rows
    (cond (eqb st.outcome 1 && ltb (length st.rows) (room_of (length l.rows)))
    (record { settled = suc st.settled; used = suc (length st.rows); outcome = 1 })
    (record_of st))))

-- ---- Demand 1, for each statement. (`Answers`, `SheetAnswers`) Versions in which one call, or the reader or the writer, gives no answer.
abbrev pub with_start : StartCall → Calls
with_start starts = record { starts = starts; runs = Runs; traces = Traces }

abbrev pub with_trace : TraceCall → Calls
with_trace traces = record { starts = Starts; runs = Runs; traces = traces }

abbrev pub silent_start : Calls
silent_start = with_start (λ g l reply l'. ⊥)

abbrev pub silent_run : Calls
silent_run = with_run (λ g l budget reply l'. ⊥)

abbrev pub silent_trace : Calls
silent_trace = with_trace (λ g l out reply out'. ⊥)

abbrev pub silent_reading : ReadCall
silent_reading sheet nodes r nodes' = ⊥

abbrev pub silent_writing : WriteCall
silent_writing s nodes out r out' = ⊥

-- (`StartRefuses` .. `WriteRefuses`) One that accepts everything.
-- the letters that our trace call hands over
abbrev pub handed : Lent → List ℕ
handed l = trace_of (used_in l) l.held.settled

abbrev pub accepts_all : Calls
accepts_all =
    record {
      starts = λ g l reply l'. exit reply l' ≡ leaves (against 0 0) [] (holding started l) l;
      runs = λ g l budget reply l'.
          exit reply l' ≡ leaves (against 0 0) [] (holding (run_after g (length l.rows) (used_in l) l.held budget) l) l;
      traces = λ g l out reply out'. exit reply out' ≡ leaves (against 0 0) (length (handed l) ∷ []) (front (handed l) out) out;
    }

abbrev pub accepts_reading : ReadCall
accepts_reading sheet nodes r nodes' =
    (reading r ≡ answered 0 (signals_in sheet ∷ count_in sheet ∷ [])) × (nodes' ≡ front (nodes_in sheet) nodes)

abbrev pub accepts_writing : WriteCall
accepts_writing s nodes out r out' = (writing r ≡ answered 0 (sheet_length (length nodes) ∷ [])) × (out' ≡ front (sheet_of s nodes) out)

-- One that names both sides whatever it refuses, and one whose number is 1 whatever it refuses.
abbrev pub refuses_by : (Against → Against) → Calls
refuses_by other =
    record {
      starts = λ g l reply l'. exit reply l' ≡ leaves (other (start_refusal g (length l.rows))) [] (holding started l) l;
      runs = λ g l budget reply l'.
          let st = run_after g (length l.rows) (used_in l) l.held budget in
          exit reply l' ≡ leaves (other (run_refusal g (length l.rows) (used_in l) l.held)) [] (holding st l) l;
      traces = λ g l out reply out'.
          exit reply out'
          ≡ leaves (other (trace_refusal g (length l.rows) (used_in l) l.held (length out))) (length (handed l) ∷ [])
          (front (handed l) out) out;
    }

abbrev pub names_both : Calls
names_both = refuses_by (λ why. cond (eqb why.number 0) why (against 3 why.number))

abbrev pub misnumbers : Calls
misnumbers = refuses_by (λ why. cond (eqb why.number 0) why (against why.side 1))

abbrev pub misnumbers_reading : ReadCall
misnumbers_reading sheet nodes r nodes' =
    let n = read_refusal sheet (length nodes) in
    (reading r ≡ answered (cond (eqb n 0) 0 7) (signals_in sheet ∷ count_in sheet ∷ []))
    × (nodes' ≡ cond (eqb n 0) (front (nodes_in sheet) nodes) nodes)

abbrev pub misnumbers_writing : WriteCall
misnumbers_writing s nodes out r out' =
    let n = write_refusal s nodes (length out) in
    (writing r ≡ answered (cond (eqb n 0) 0 7) (sheet_length (length nodes) ∷ []))
    × (out' ≡ cond (eqb n 0) (front (sheet_of s nodes) out) out)

-- One that refuses as ours and writes all the same: start row 0 and the record, run a row and a record, trace a byte, reader and writer what
-- they would.
abbrev pub writes_refused : Calls
writes_refused =
    record {
      starts = λ g l reply l'. exit reply l' ≡ leaves (start_refusal g (length l.rows)) [] (holding started l) (holding started l);
      runs = λ g l budget reply l'.
          let st = run_after g (length l.rows) (used_in l) l.held budget in
          exit reply l'
          ≡ leaves (run_refusal g (length l.rows) (used_in l) l.held) [] (holding st l)
          (lent (front (row 1 0 0 0 ∷ []) l.rows) (record { settled = 1; used = 1; outcome = 1 }));
      traces = λ g l out reply out'.
          exit reply out'
          ≡ leaves (trace_refusal g (length l.rows) (used_in l) l.held (length out)) (length (handed l) ∷ [])
          (front (handed l) out) (front (0 ∷ []) out);
    }

abbrev pub writes_refused_reading : ReadCall
writes_refused_reading sheet nodes r nodes' =
    (reading r ≡ answered (read_refusal sheet (length nodes)) (signals_in sheet ∷ count_in sheet ∷ []))
    × (nodes' ≡ front (nodes_in sheet) nodes)

abbrev pub writes_refused_writing : WriteCall
writes_refused_writing s nodes out r out' =
    (writing r ≡ answered (write_refusal s nodes (length out)) (sheet_length (length nodes) ∷ [])) × (out' ≡ front (sheet_of s nodes) out)

-- (`ReadTakes`, `TableAgain`) A reader that leaves the table as it was, one that answers a node more, and one that clears what lies beyond
-- the nodes.
abbrev pub reads_to : ℕ → (List ℕ → List ℕ → List ℕ) → ReadCall
reads_to more after sheet nodes r nodes' =
    let n = read_refusal sheet (length nodes) in
    (reading r ≡ answered n (signals_in sheet ∷ (more + count_in sheet) ∷ []))
    × (nodes' ≡ cond (eqb n 0) (after (nodes_in sheet) nodes) nodes)

abbrev pub takes_nothing : ReadCall
takes_nothing = reads_to 0 (λ result nodes. nodes)

abbrev pub takes_one_more : ReadCall
takes_one_more = reads_to 1 front

abbrev pub clears_table : ReadCall
clears_table = reads_to 0 (λ result nodes. front result (replicate (length nodes) 0))

-- (`WritePuts`, `SheetAgain`) A writer that leaves the output as it was, one that answers a byte more, and one that clears what lies beyond
-- the sheet.
abbrev pub writes_to : ℕ → (List ℕ → List ℕ → List ℕ) → WriteCall
writes_to more after s nodes out r out' =
    let n = write_refusal s nodes (length out) in
    (writing r ≡ answered n ((more + sheet_length (length nodes)) ∷ [])) × (out' ≡ cond (eqb n 0) (after (sheet_of s nodes) out) out)

abbrev pub puts_nothing : WriteCall
puts_nothing = writes_to 0 (λ result out. out)

abbrev pub puts_one_more : WriteCall
puts_one_more = writes_to 1 front

abbrev pub clears_output : WriteCall
clears_output = writes_to 0 (λ result out. front result (replicate (length out) 0))

-- ---- Demand 2. (`RefutedOnlyWith`) One that says "refuted" wherever the left has the empty trace, whatever the right has, and one that
-- says it wherever the right lacks it, whatever the left has.
abbrev pub refuted_at_once : Lent → Lent
refuted_at_once l = lent l.rows (record { settled = 0; used = l.held.used; outcome = 2 })

abbrev pub refutes_by_left : Calls
refutes_by_left = with_run (runs_to (λ g l st. cond (has (left_of g).accepts 0) (refuted_at_once l) (holding st l)))

abbrev pub refutes_by_right : Calls
refutes_by_right = with_run (runs_to (λ g l st. cond (has (right_of g).accepts 0) (holding st l) (refuted_at_once l)))

-- (`TraceHands`, `RefutedShown`) One whose trace call leaves the buffer as it was, one that hands over as many bytes 255, one that
-- writes a byte beyond the trace, and two whose answer counts no letter, or one more.
abbrev pub traces_to : (Lent → List ℕ) → (Lent → List ℕ → List ℕ) → TraceCall
traces_to values after g l out reply out' =
    exit reply out'
    ≡ leaves (trace_refusal g (length l.rows) (used_in l) l.held (length out)) (values l) (after l out) out

abbrev pub hands_nothing : Calls
hands_nothing = with_trace (traces_to (λ l. length (handed l) ∷ []) (λ l out. out))

abbrev pub hands_other : Calls
hands_other = with_trace (traces_to (λ l. length (handed l) ∷ []) (λ l out. front (replicate (length (handed l)) 255) out))

abbrev pub writes_on : Calls
writes_on = with_trace (traces_to (λ l. length (handed l) ∷ []) (λ l out. front (handed l ++ (0 ∷ [])) out))

abbrev pub counts_one_more : Calls
counts_one_more = with_trace (traces_to (λ l. suc (length (handed l)) ∷ []) (λ l out. front (handed l) out))

abbrev pub counts_no_letter : Calls
counts_no_letter = with_trace (traces_to (λ l. 0 ∷ []) (λ l out. front (handed l) out))

-- ---- Demand 3. (`StartLeaves`) One whose start leaves the record as it found it, one that leaves row 0 so, and one that writes row 0 over
-- all rows.
abbrev pub starts_to : (Lent → Lent) → Calls
starts_to after = with_start (λ g l reply l'. exit reply l' ≡ leaves (start_refusal g (length l.rows)) [] (after l) l)

abbrev pub starts_as_found : Calls
starts_as_found = starts_to (λ l. lent (holding started l).rows l.held)

abbrev pub starts_without_row : Calls
starts_without_row = starts_to (λ l. lent l.rows (record_of started))

abbrev pub starts_over_all : Calls
starts_over_all = starts_to (λ l. lent (replicate (length l.rows) row_zero) (record_of started))

-- (`StepsClose`) One that leaves nothing settled; one that finds the next bad row without a step; and one that, tried again when it was
-- out of room, passes the row over.
abbrev pub goes_back : Calls
goes_back =
    with_run (runs_to (λ g l st. lent (holding st l).rows (record { settled = 0; used = length st.rows; outcome = st.outcome })))

abbrev pub looks_ahead : Calls
looks_ahead =
    with_run (runs_to (λ g l st.
    cond (eqb st.outcome 0 && bad (left_of g) (right_of g) (get_or st.rows st.settled row_zero))
    (holding (state st.rows st.settled 2) l)
    (holding st l)))

abbrev pub passes_over : Calls
passes_over =
    with_run (runs_to (λ g l st.
    cond (eqb l.held.outcome 3)
    (lent l.rows (record { settled = suc l.held.settled; used = l.held.used; outcome = 0 }))
    (holding st l)))

-- (`NoRoom`) One that is never tried again when it was out of room, one that is open when it is out of room, and one that is out of room as
-- soon as all rows are used, whatever the next goal is.
abbrev pub never_again : Calls
never_again = with_run (runs_to (λ g l st. cond (eqb l.held.outcome 3) l (holding st l)))

abbrev pub hides_no_room : Calls
hides_no_room =
    with_run (runs_to (λ g l st. holding (state st.rows st.settled (cond (eqb st.outcome 3) 0 st.outcome)) l))

abbrev pub stops_when_full : Calls
stops_when_full =
    with_run (runs_to (λ g l st.
    cond (eqb l.held.used (room_of (length l.rows)))
    (lent l.rows (record { settled = l.held.settled; used = l.held.used; outcome = 3 }))
    (holding st l)))

-- (`RowsEntered`, `GoalsReached`) One that uses a row more, as it stands in the table, which follows nothing; one that enters the goals of a
-- row before the step that settles it; one that enters those of row 0 in every call; and one whose new rows have no right place.
abbrev pub uses_unwritten : Calls
uses_unwritten =
    with_run (runs_to (λ g l st.
    lent (holding st l).rows (record { settled = st.settled; used = suc (length st.rows); outcome = st.outcome })))

abbrev pub enters_ahead : Calls
enters_ahead =
    with_run (λ g l budget reply l'.
    let st = run_after g (length l.rows) (used_in l) l.held budget in
    let ahead = run_after g (length l.rows) (used_in l) l.held (suc budget) in
    exit reply l'
    ≡ leaves (run_refusal g (length l.rows) (used_in l) l.held) []
    (lent (holding ahead l).rows (record { settled = st.settled; used = length ahead.rows; outcome = st.outcome })) l)

abbrev pub enters_late : Calls
enters_late =
    with_run (runs_to (λ g l st.
    let e = enter_all (room_of (length l.rows)) (candidates (left_of g) (right_of g) 0 row_zero) (record { rows = st.rows; full = false }) in
    holding (state e.rows st.settled st.outcome) l))

abbrev pub without_set : Row → Row
without_set w = row w.place 0 w.parent w.letter

abbrev pub loses_sets : Calls
loses_sets =
    with_run (runs_to (λ g l st.
    holding (state (used_in l ++ map without_set (drop l.held.used st.rows)) st.settled st.outcome) l))

-- (`Idles`) One that opens a decided run again, and one for which budget 0 is a step.
abbrev pub reopens : Calls
reopens =
    with_run (runs_to (λ g l st.
    cond (eqb l.held.outcome 1 || eqb l.held.outcome 2)
    (lent l.rows (record { settled = l.held.settled; used = l.held.used; outcome = 0 }))
    (holding st l)))

abbrev pub steps_for_nothing : Calls
steps_for_nothing = with_run (λ g l budget reply l'. Runs g l (cond (eqb budget 0) 1 budget) reply l')

-- (`GoalsDiffer`) One that enters the start goal again, under another letter.
abbrev pub enters_twice : Calls
enters_twice =
    with_run (runs_to (λ g l st. holding (state (st.rows ++ (row 0 1 0 1 ∷ [])) st.settled st.outcome) l))

-- (`RowsStay`) One that writes over a used row, one that uses more rows than the room has, one that leaves a table of the used rows
-- alone, and one that writes beyond them.
abbrev pub writes_over : Calls
writes_over = with_run (runs_to (λ g l st. lent (front (row 1 0 0 0 ∷ []) (holding st l).rows) (record_of st)))

abbrev pub passes_room : Calls
passes_room =
    with_run (runs_to (λ g l st.
    lent (holding st l).rows (record { settled = st.settled; used = suc (room_of (length l.rows)); outcome = st.outcome })))

abbrev pub cuts_table : Calls
cuts_table = with_run (runs_to (λ g l st. lent st.rows (record_of st)))

abbrev pub writes_beyond : Calls
writes_beyond = with_run (runs_to (λ g l st. lent (front (st.rows ++ (row 1 0 0 0 ∷ [])) l.rows) (record_of st)))

-- (`RoomAndBudget`) One that says "no room" in the place of "included".
abbrev pub lacks_room : Calls
lacks_room = with_run (runs_to (λ g l st. holding (state st.rows st.settled (cond (eqb st.outcome 1) 3 st.outcome)) l))

-- (`Divided`) One that takes a step less than its budget, and one that leaves the rows as they were where its budget is above 1.
abbrev pub steps_less : Calls
steps_less = with_run (λ g l budget reply l'. Runs g l (budget - 1) reply l')

abbrev pub forgets_rows : Calls
forgets_rows =
    with_run (λ g l budget reply l'.
    runs_to (λ g l st. cond (ltb 1 budget) (lent l.rows (record_of st)) (holding st l)) g l budget reply l')

-- (`RunAccepted`, `TraceAccepted`) One that begins and then refuses every run call; one that refuses every trace call; and, of the calls
-- that accept everything, run and trace.
abbrev pub refuses_runs : Calls
refuses_runs = with_run refuses_all.runs

abbrev pub refuses_traces : Calls
refuses_traces = with_trace refuses_all.traces

abbrev pub accepts_runs : Calls
accepts_runs = with_run accepts_all.runs

abbrev pub accepts_traces : Calls
accepts_traces = with_trace accepts_all.traces
