-- Start, then a run call that ends the run: what the two calls leave is what `decide` promises, and what that says of the answer.
use Rattle.std.proofs.Common.{Result, Ok, Err, ℕ, ◌≤◌, ◌≡◌, refl, sym, ap, ap₂, subst, ◌∙◌, Bool, true, false, cond, List, [], ◌∷◌, le_trans, arith, eqb, length, get_or}
use Rattle.goals.specs.declared.Row.{Row}
use Rattle.goals.specs.declared.Run.{Run}
use Rattle.goals.specs.declared.SideRefusal.{SideRefusal}
use Rattle.goals.specs.Run.{State, started}
use Rattle.goals.specs.Refusals.{Given, record_of, Against, against, against_of, start_refusal, run_refusal, Reply, Leaves, leaves, exit, values_of, run_after}
use Rattle.columns.proofs.Tables as core
use Rattle.columns.specs.Calls.{Columns, put, lent_in, called}
use Rattle.columns.specs.Core.{Fits}
use Rattle.columns.proofs.Laws.{put-put, rows-put, fits-put}
use Rattle.demands.proofs.Accepting.{accepted-leaves}
use Rattle.verdict.specs.Core.{Decides, Ended}
use Rattle.program.specs.Program.{ended_on}
use Rattle.program.proofs.Running.{end, few, started-passes, run_ends, end-some, end_fits, ended-fits}

-- ---- answers
-- the record of an accepted answer is known by its values
values-tell : (r r' : Run) → values_of r ≡ values_of r' → r ≡ r'
values-tell r r' h =
    let value : (i : ℕ) → get_or (values_of r) i 0 ≡ get_or (values_of r') i 0 = λ i. ap (λ (v : List ℕ). get_or v i 0) h in
    λ i. record { settled = value 0 i; used = value 1 i; outcome = value 2 i }

called-accepted : (answer : Result Run SideRefusal) (held : Run) → answer ≡ Ok held → called answer ≡ record { refusal = against 0 0; values = values_of held }
unfolding called
called-accepted answer held e = ap called e

called-refused : (answer : Result Run SideRefusal) (why : SideRefusal) → answer ≡ Err why → called answer ≡ record { refusal = against_of why; values = [] }
unfolding called
called-refused answer why e = ap called e

-- a call that answers no value, where an accepted one answers some, is refused, and would leave the same whatever an accepted one leaves
module _ {L : Type 0} (reply : Reply) (why : Against) (x : ℕ) (xs : List ℕ) (changed lent lent' : L) (none : reply.values ≡ [])
    (h : exit reply lent' ≡ leaves why (x ∷ xs) changed lent) where
  none-refused : eqb why.number 0 ≡ false
  none-refused = by (eqb why.number 0) (sym none ∙ ap (λ (k : Leaves L). k.reply.values) h)
    where
      by : (b : Bool) → [] ≡ cond b (x ∷ xs) [] → b ≡ false
      by true e = absurd (omega (arith, ap length e))
      by false e = refl

  none-leaves : (values : List ℕ) (other : L) → exit reply lent' ≡ leaves why values other lent
  none-leaves values other =
      let so : Bool → List ℕ → L → Leaves L = λ b v k. record { reply = record { refusal = why; values = cond b v [] }; lent = cond b k lent } in
      h ∙ ap (λ (b : Bool). so b (x ∷ xs) changed) none-refused ∙ sym (ap (λ (b : Bool). so b values other) none-refused)

-- ---- columns
-- as many rows as are said to be lent
lent_fits : (c : Columns) (room : ℕ) → room ≤ 65535 → lent_in room c ≡ room → Fits c 0 room
lent_fits c room small e = record {
  used = omega arith;
  small = small;
  places = omega (arith, e);
  sets = omega (arith, e);
  parents = omega (arith, e);
  letters = omega (arith, e);
}

fits-lent : (c : Columns) (n room : ℕ) → Fits c n room → lent_in room c ≡ room
fits-lent c n room f = omega (arith, f.places, f.sets, f.parents, f.letters)

-- rows that fit leave as many
put-lent : (c : Columns) (room : ℕ) (rows : List Row) → room ≤ 65535 → lent_in room c ≡ room → length rows ≤ room → lent_in room (put rows c) ≡ room
put-lent c room rows small e h = fits-lent (put rows c) (length rows) room (fits-put c 0 room (lent_fits c room small e) rows h)

-- ---- the two calls, in any room
module _ (g : Given) (room : ℕ) (small : room ≤ 65535) (starts : start_refusal g room ≡ against 0 0) (c : Columns) (lent : lent_in room c ≡ room) where
  abbrev c1 : Columns
  c1 = put started.rows c

  abbrev st : State
  st = end g room small starts

  -- what a run call with the refusal leaves, if it would end in the state
  abbrev left : Against → State → Leaves Columns
  left why s = leaves why (values_of (record_of s)) (put s.rows c1) c1

  fits : 1 ≤ room
  fits = le_trans (end-some g room small starts) (end_fits g room small starts)

  -- a run call on what start left
  runs_on : (answer : Result Run SideRefusal) (c2 : Columns) → core.RunsOf g room c1 (record_of started) room answer c2
      → exit (called answer) c2 ≡ leaves (start_refusal g room) (values_of (record_of st)) (put st.rows c) c
  runs_on answer c2 h =
      h
      ∙ ap₂ (λ (n : ℕ) (rows : List Row). left (run_refusal g n rows (record_of started)) (run_after g n rows (record_of started) room))
      (put-lent c room started.rows small lent fits) (rows-put started.rows c 1 (omega arith))
      ∙ ap₂ left (started-passes g room small starts) (run_ends g room small starts)
      ∙ ap (exit (record { refusal = against 0 0; values = values_of (record_of st) })) (put-put started.rows st.rows c (end-some g room small starts))
      ∙ ap (λ (why : Against). leaves why (values_of (record_of st)) (put st.rows c) c) (sym starts)

-- ---- `decide`
-- start refuses
pub decides-refused : (g : Given) (c c' : Columns) (why : SideRefusal) (answer : Result Run SideRefusal) → answer ≡ Err why → lent_in 1024 c ≡ 1024
    → core.StartsOf g 1024 c answer c' → Decides g c answer c'
decides-refused g c c' why answer e lent h =
    none-leaves (called answer) (start_refusal g 1024) 0 (1 ∷ 0 ∷ []) (put started.rows c) c c' (ap (λ (r : Reply). r.values) (called-refused answer why e))
    (h ∙ ap (λ (n : ℕ). leaves (start_refusal g n) (values_of (record_of started)) (put started.rows c) c) lent) _ _

-- start accepts, and the run call ends the run
pub decides-ran : (g : Given) (c c1 c2 : Columns) (held : Run) (begun answer : Result Run SideRefusal) → begun ≡ Ok held → lent_in 1024 c ≡ 1024
    → core.StartsOf g 1024 c begun c1 → core.RunsOf g 1024 c1 held 1024 answer c2 → Decides g c answer c2
decides-ran g c c1 c2 held begun answer e lent s h =
    let told = called-accepted begun held e in
    let left = accepted-leaves (called begun) (start_refusal g (lent_in 1024 c)) (values_of (record_of started)) (put started.rows c) c c1 s (ap (λ (r : Reply). r.refusal) told) in
    let now : held ≡ record_of started = values-tell held (record_of started) (sym (ap (λ (r : Reply). r.values) told) ∙ left.2) in
    runs_on g 1024 few (sym (ap (start_refusal g) lent) ∙ left.0) c lent answer c2
    (subst (λ (k : Columns). core.RunsOf g 1024 k (record_of started) 1024 answer c2) left.1
    (subst (λ (r : Run). core.RunsOf g 1024 c1 r 1024 answer c2) now h))

-- ---- what the promise says
-- accepted: columns and record are those of the run that ended
pub ended_of : (g : Given) (c c' : Columns) (held : Run) (answer : Result Run SideRefusal) → answer ≡ Ok held → lent_in 1024 c ≡ 1024
    → Decides g c answer c' → Ended g c' held
ended_of g c c' held answer e lent h =
    let told = called-accepted answer held e in
    let st = ended_on g in
    let left = accepted-leaves (called answer) (start_refusal g 1024) (values_of (record_of st)) (put st.rows c) c c' h (ap (λ (r : Reply). r.refusal) told) in
    record {
      accepted = left.0;
      lent = ap (lent_in 1024) left.1 ∙ put-lent c 1024 st.rows few lent (ended-fits g left.0);
      columns = left.1 ∙ sym (put-put st.rows st.rows c (omega arith)) ∙ ap (put st.rows) (sym left.1);
      now = values-tell held (record_of st) (sym (ap (λ (r : Reply). r.values) told) ∙ left.2);
    }

-- refused: the answer names start's refusal
pub decides-refuses : (g : Given) (c c' : Columns) (why : SideRefusal) (answer : Result Run SideRefusal) → answer ≡ Err why
    → Decides g c answer c' → (against_of why ≡ start_refusal g 1024) × (eqb (start_refusal g 1024).number 0 ≡ false)
decides-refuses g c c' why answer e h =
    let told = called-refused answer why e in
    let st = ended_on g in (
      sym (ap (λ (r : Reply). r.refusal) told) ∙ ap (λ (k : Leaves Columns). k.reply.refusal) h,
      none-refused (called answer) (start_refusal g 1024) st.settled (length st.rows ∷ st.outcome ∷ []) (put st.rows c) c c' (ap (λ (r : Reply). r.values) told) h,
    )
