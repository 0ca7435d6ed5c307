-- The promises of the calls on a list of rows follow from those of the core on columns, where the columns hold the used rows and what
-- the core leaves is stored at the front of the table. Where the used rows do not fit the room, both refuse 16 whatever the rows are.
use Rattle.std.specs.Prelude.{Result, Ok, Err}
use Prim.Native.Nat.{ℕ, ◌≤◌}
use mathlib.Core.Path.{◌≡◌, refl, sym, ap, ◌∙◌}
use mathlib.Core.Bool.{Bool, true, false, cond, not, or-true}
use mathlib.Core.Logic.{◌↔◌}
use mathlib.Core.List.{List, [], ◌∷◌, ◌++◌, map}
use native.Mathlib.Omega.{arith}
use lib.Dec.{eqb, ltb}
use lib.ListN.{length, get_or}
use borrow.Author.Tests.{eq-eqb, ne_eqb, eqb-true, eqb-false, ltb-false}
use Rattle.effect.specs.Refusals.{rule, front}
use Rattle.goals.specs.declared.Row.{Row}
use Rattle.goals.specs.declared.Run.{Run}
use Rattle.goals.specs.declared.SideRefusal.{SideRefusal}
use Rattle.goals.specs.Run.{State, state, started, run, trace_of}
use Rattle.goals.specs.Refusals.{room_of, record_of, record_impossible, impossible, Against, against, first, refusal_by, Reply, Leaves, leaves, exit, values_of}
use Rattle.columns.specs.Calls as core
use Rattle.columns.specs.Calls.{Columns, rows_in, put, lent_in, called, tracing}
use Rattle.columns.proofs.Budget.{state-held}
use Rattle.asking.specs.declared.Asked.{Asked}
use Rattle.asking.specs.Asked.{asked_rules, start_refusal_on, run_refusal_on, trace_refusal_on, run_after_on}
use Rattle.asking.proofs.Refusing.{leaves-refused}
use Rattle.demands.specs.Calls.{Lent, lent, used_in, holding}

-- the core's reply without its values, which go into the record lent
abbrev pub told : Result Run SideRefusal → Reply
told answer = record { refusal = (called answer).refusal; values = [] }

-- what is left on rows: on acceptance the rows that the columns now hold at the front of the table and the record that the answer
-- tells, on a refusal what was lent
unfoldable pub stored : Result Run SideRefusal → Columns → Lent → Lent
stored (Ok r) c l = lent (front (rows_in c r.used) l.rows) r
stored (Err why) c l = l

-- ---- what the core leaves, stored
module _ (c c' : Columns) (st : State) (why : Against) (l : Lent) where
  -- the record that an accepted answer tells is the state's, and so are the rows
  accepted : (r : Run) → exit (called (Ok r)) c' ≡ leaves (against 0 0) (values_of (record_of st)) (put st.rows c) c
      → lent (front (rows_in c' r.used) l.rows) r ≡ holding st l
  unfolding called
  accepted r h =
      let value : (i : ℕ) → get_or (values_of r) i 0 ≡ get_or (values_of (record_of st)) i 0 = λ i. ap (λ (k : Leaves Columns). get_or k.reply.values i 0) h in
      let now : r ≡ record_of st = λ i. record { settled = value 0 i; used = value 1 i; outcome = value 2 i } in
      let held = state-held c c' st r (record { columns = ap (λ (k : Leaves Columns). k.lent) h; now = now }) in
      λ i. lent (front (held i).rows l.rows) (now i)

  -- a refusal has no values, and the record has
  refused : [] ≡ cond (eqb why.number 0) (values_of (record_of st)) [] → why.number ≡ 0 → ⊥
  refused e z = omega (arith, ap length (rw (eq-eqb _ _ z) at e))

  -- the promise on columns is the one on rows
  stores : (answer : Result Run SideRefusal) → exit (called answer) c' ≡ leaves why (values_of (record_of st)) (put st.rows c) c
      → exit (told answer) (stored answer c' l) ≡ leaves why [] (holding st l) l
  unfolding called stored
  stores (Ok r) h =
      let e : against 0 0 ≡ why = ap (λ (k : Leaves Columns). k.reply.refusal) h in
      ap (exit (record { refusal = against 0 0; values = [] })) (accepted r (h ∙ ap (λ (w : Against). leaves w (values_of (record_of st)) (put st.rows c) c) (sym e)))
      ∙ ap (λ (w : Against). leaves w [] (holding st l) l) e
  stores (Err w) h =
      ap (λ (a : Against). exit (record { refusal = a; values = [] }) l) (ap (λ (k : Leaves Columns). k.reply.refusal) h)
      ∙ leaves-refused why [] (holding st l) l (refused (ap (λ (k : Leaves Columns). k.reply.values) h))

-- ---- start
-- 15 asks only whether there is a row
start-same : (a : Asked) (m n : ℕ) → ((m ≡ 0) ↔ (n ≡ 0)) → start_refusal_on a m ≡ start_refusal_on a n
unfolding start_refusal_on
start-same a m n h = ap (λ (t : Bool). refusal_by (asked_rules a) (rule 15 t ∷ [])) (by (eqb n 0) refl)
  where
    by : (t : Bool) → eqb n 0 ≡ t → eqb m 0 ≡ t
    by true e = eq-eqb m 0 (h.1 (eqb-true n 0 e))
    by false e = ne_eqb m 0 (λ z. eqb-false n 0 e (h.0 z))

pub core-starts : (a : Asked) (n : ℕ) (c c' : Columns) (answer : Result Run SideRefusal) (l : Lent) → ((lent_in n c ≡ 0) ↔ (length l.rows ≡ 0))
    → core.Starts a n c answer c'
    → exit (told answer) (stored answer c' l) ≡ leaves (start_refusal_on a (length l.rows)) [] (holding started l) l
core-starts a n c c' answer l h s =
    stores c c' started (start_refusal_on a (lent_in n c)) l answer s
    ∙ ap (λ (w : Against). leaves w [] (holding started l) l) (start-same a (lent_in n c) (length l.rows) h)

-- ---- run and trace
-- where 16 applies, what comes after it does not count,
first-16 : (xs rest : List Against) → first (xs ++ (against 3 16 ∷ rest)) ≡ first (xs ++ (against 3 16 ∷ []))
unfolding first
first-16 [] rest = refl
first-16 (x ∷ xs) rest = ap (λ (a : Against). cond (eqb x.number 0) a x) (first-16 xs rest)

-- and there is some refusal
some-16 : (xs : List Against) → (first (xs ++ (against 3 16 ∷ []))).number ≡ 0 → ⊥
unfolding first
some-16 [] h = let z : ◌≡◌ {A = ℕ} 16 0 = h in omega arith
some-16 (x ∷ xs) h = by (eqb x.number 0) refl (some-16 xs) h
  where
    by : (b : Bool) → eqb x.number 0 ≡ b → ((first (xs ++ (against 3 16 ∷ []))).number ≡ 0 → ⊥) → (cond b (first (xs ++ (against 3 16 ∷ []))) x).number ≡ 0 → ⊥
    by true e some z = some z
    by false e some z = eqb-false _ _ e z

-- more rows used than the room has are impossible, whatever they are
impossible-used : (s m k room : ℕ) (rows : List Row) (r : Run) → ltb room r.used ≡ true → impossible s m k room rows r ≡ true
unfolding impossible record_impossible
impossible-used s m k room rows r h = rw (h, or-true)

-- a call that asks 16 of the record r once the sides pass, then `rest`: what it leaves, in a room and on the used rows
module _ {L : Type 0} (a : Asked) (r : Run) (rest values : List Row → List ℕ) (changed : ℕ → List Row → L) (l : L) where
  abbrev asks : ℕ → List Row → Leaves L
  asks room rows =
      leaves (refusal_by (asked_rules a) (rule 16 (impossible a.left.s a.left.count a.right.count room rows r) ∷ rest rows)) (values rows) (changed room rows) l

  -- where they do not fit, the rows do not count
  asks-used : (room : ℕ) (rows : List Row) → ltb room r.used ≡ true
      → asks room rows ≡ exit (record { refusal = first (asked_rules a ++ (against 3 16 ∷ [])); values = [] }) l
  asks-used room rows h =
      ap (λ (b : Bool). leaves (refusal_by (asked_rules a) (rule 16 b ∷ rest rows)) (values rows) (changed room rows) l) (impossible-used _ _ _ room rows r h)
      ∙ ap (λ (w : Against). leaves w (values rows) (changed room rows) l) (first-16 (asked_rules a) (map (against 3) (rest rows)))
      ∙ sym (leaves-refused _ (values rows) (changed room rows) l (some-16 (asked_rules a)))

  asks-same : (room room' : ℕ) (rows rows' : List Row) → room ≡ room' → (r.used ≤ room' → rows ≡ rows') → asks room rows ≡ asks room' rows'
  asks-same room room' rows rows' e same = by (ltb room' r.used) refl
    where
      by : (b : Bool) → ltb room' r.used ≡ b → asks room rows ≡ asks room' rows'
      by true h = asks-used room rows (rw e h) ∙ sym (asks-used room' rows' h)
      by false h = λ i. asks (e i) (same (ltb-false _ _ h) i)

-- the core is lent columns of as much room, which hold the used rows where these fit it
pub core-runs : (a : Asked) (n : ℕ) (c c' : Columns) (answer : Result Run SideRefusal) (l : Lent) (budget : ℕ) → room_of (lent_in n c) ≡ room_of (length l.rows)
    → (l.held.used ≤ room_of (length l.rows) → rows_in c l.held.used ≡ used_in l)
    → core.Runs a n c l.held budget answer c'
    → exit (told answer) (stored answer c' l)
    ≡ leaves (run_refusal_on a (length l.rows) (used_in l) l.held) [] (holding (run_after_on a (length l.rows) (used_in l) l.held budget) l) l
unfolding run_refusal_on run_after_on
core-runs a n c c' answer l budget room same h =
    stores c c' (run_after_on a (lent_in n c) (rows_in c l.held.used) l.held budget) _ l answer h
    ∙ asks-same a l.held (λ rows. []) (λ rows. [])
    (λ room rows. holding (run a.left a.right room budget (state rows l.held.settled l.held.outcome)) l) l _ _ _ _ room same

pub core-traces : (a : Asked) (n : ℕ) (c : Columns) (answer : Result ℕ SideRefusal) (l : Lent) (out out' : List ℕ) → room_of (lent_in n c) ≡ room_of (length l.rows)
    → (l.held.used ≤ room_of (length l.rows) → rows_in c l.held.used ≡ used_in l)
    → core.Traces a n c l.held out answer out'
    → let word = trace_of (used_in l) l.held.settled in exit (tracing answer) out'
    ≡ leaves (trace_refusal_on a (length l.rows) (used_in l) l.held (length out)) (length word ∷ []) (front word out) out
unfolding trace_refusal_on
core-traces a n c answer l out out' room same h =
    let word : List Row → List ℕ = λ rows. trace_of rows l.held.settled in
    h
    ∙ asks-same a l.held (λ rows. rule 17 (not (eqb l.held.outcome 2)) ∷ rule 18 (ltb (length out) (length (word rows))) ∷ [])
    (λ rows. length (word rows) ∷ []) (λ room rows. front (word rows) out) out _ _ _ _ room same
