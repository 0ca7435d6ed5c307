-- What each call leaves: refused for a side, refused for both, or done.
use Rattle.std.specs.Prelude.{Ok, Err}
use Prim.Native.Nat.{ℕ, suc, ◌≤◌, ◌<◌}
use mathlib.Core.Path.{◌≡◌, refl, sym, ap, subst, ◌∙◌}
use mathlib.Core.Bool.{Bool, true, false, not}
use mathlib.Core.List.{List, [], ◌∷◌, ◌++◌, map}
use native.Mathlib.Nat.{le_trans, lt_of_lt_of_le}
use native.Mathlib.Omega.{arith}
use lib.Dec.{eqb, ltb}
use lib.ListN.{length, get_or, set}
use lib.Pow.{pow_mono}
use borrow.Author.Tests.{eq-eqb, ne_eqb, lt-ltb, le-ltb}
use Rattle.effect.specs.Refusals.{rule, front}
use Rattle.effect.proofs.Laws.{rule-none}
use Rattle.effect.proofs.Front.{front-next}
use Rattle.places.proofs.Matched.{matched}
use Rattle.goals.specs.declared.Row.{Row}
use Rattle.goals.specs.declared.Run.{Run}
use Rattle.goals.specs.declared.SideRefusal.{SideRefusal}
use Rattle.asking.specs.declared.Asked.{Asked}
use Rattle.asking.specs.Asked.{named, unless_refused, asked_rules, why_not, start_refusal_on, run_refusal_on, trace_refusal_on, run_after_on}
use Rattle.asking.proofs.Refusing.{first-here, first-skip, first-none, first_more, first_past, first-parts, sided, leaves-refused, unless-ok, unless_named, unless_passed}
use Rattle.asking.proofs.Asking.{handed, sides-refused, sides-passed, Able, able}
use Rattle.goals.specs.Run.{State, started, run, trace_of}
use Rattle.goals.specs.Refusals.{room_of, record_of, impossible, Against, against, against_of, first, refusal_by, start_rules, exit, leaves, values_of}
use Rattle.columns.specs.Calls.{Columns, columns, rows_in, lent_in, state_of, called, tracing, Starts, Runs, Traces}
use Rattle.columns.specs.Core.{Fits, Runnable, Steps, Rooted, climb, MayRun}
use Rattle.columns.proofs.Possible.{Possible, possible}
use Rattle.columns.proofs.Climbing.{climb-word}

-- a call that has a refusal leaves all as it was
refused-reply : {Lent : Type 0} (w why : Against) (values : List ℕ) (changed lent : Lent) → w ≡ why → (w.number ≡ 0 → ⊥)
    → exit (record { refusal = w; values = [] }) lent ≡ leaves why values changed lent
refused-reply w why values changed lent e h = leaves-refused w values changed lent h ∙ ap (λ (x : Against). leaves x values changed lent) e

-- a call that has none
done-reply : {Lent : Type 0} (why : Against) (values : List ℕ) (changed lent : Lent) → against 0 0 ≡ why
    → exit (record { refusal = against 0 0; values = values }) changed ≡ leaves why values changed lent
done-reply why values changed lent e = ap (λ (x : Against). leaves x values changed lent) e

-- a rule that applies names both sides, after rules that do not
applies : (k : ℕ) (b : Bool) (rest : List ℕ) → b ≡ true → first (map (against 3) (rule (suc k) b ∷ rest)) ≡ against 3 (suc k)
applies k b rest e = ap (λ (x : Bool). first (map (against 3) (rule (suc k) x ∷ rest))) e ∙ first-here 3 (suc k) (map (against 3) rest) (λ z. omega (arith, z))

not-applies : (k : ℕ) (b : Bool) (rest : List ℕ) → b ≡ false → first (map (against 3) (rule k b ∷ rest)) ≡ first (map (against 3) rest)
not-applies k b rest e = first-skip 3 (rule k b) (map (against 3) rest) (ap (rule k) e)

none_left : first [] ≡ against 0 0
unfolding first
none_left = refl

-- the refuted row of a run: its way to row 0 is there, and its letters are bytes
pub record Traceable (c : Columns) (r : Run) : Type 0 where
  pub row : r.settled < r.used
  pub few : r.used ≤ 65535
  pub parents : r.used ≤ length c.parents
  pub letters : r.used ≤ length c.letters
  pub rooted : Rooted c.parents r.used
  pub bytes : (i : ℕ) → i < r.used → get_or c.letters i 0 < 256
  pub word : trace_of (rows_in c r.used) r.settled ≡ climb c.parents c.letters r.settled r.settled

-- ---- start
module _ (a : Asked) (lent : ℕ) (c : Columns) where
  abbrev rules : List ℕ
  rules = start_rules (lent_in lent c)

  pub start-sides : (w : SideRefusal) → Err w ≡ why_not a → Starts a lent c (Err w) c
  unfolding called start_refusal_on
  start-sides w e = let p = handed a rules (tt {0}) w (sides-refused a w e rules tt) in refused-reply _ _ _ _ _ p.0 p.1

  module _ (z : Ok tt ≡ why_not a) where
    pub start_none : (w : SideRefusal) → w ≡ named (against 3 15) → lent_in lent c ≡ 0 → Starts a lent c (Err w) c
    unfolding called start_refusal_on
    start_none w k h =
        refused-reply _ _ _ _ _
        (ap against_of k ∙ (sided 15).2 ∙ sym (sides-passed a z rules ∙ applies 14 _ [] (eq-eqb _ _ h)))
        (λ q. omega (arith, sym (ap (λ (x : SideRefusal). x.number) k) ∙ q))

    start-passed : (lent_in lent c ≡ 0 → ⊥) → against 0 0 ≡ start_refusal_on a (lent_in lent c)
    unfolding start_refusal_on
    start-passed h = sym (sides-passed a z rules ∙ not-applies 15 _ [] (ne_eqb _ _ h) ∙ none_left)

    pub start-done : (lent_in lent c ≡ 0 → ⊥)
        → Starts a lent c (Ok (record { settled = 0; used = 1; outcome = 0 })) (columns (set c.places 0 0) (set c.sets 0 1) (set c.parents 0 0) (set c.letters 0 0))
    unfolding called
    start-done h =
        (λ i. exit (record { refusal = against 0 0; values = values_of (record_of started) })
        (columns (one c.places 0 (omega (arith, h)) i) (one c.sets 1 (omega (arith, h)) i) (one c.parents 0 (omega (arith, h)) i) (one c.letters 0 (omega (arith, h)) i)))
        ∙ done-reply _ _ _ _ (start-passed h)
      where
        one : (l : List ℕ) (x : ℕ) → 0 < length l → set l 0 x ≡ front (x ∷ []) l
        one l x k = front-next [] l 0 x refl k

-- ---- run and trace: what both refuse
module _ (a : Asked) (n : ℕ) (c : Columns) (r : Run) where
  abbrev rows : List Row
  rows = rows_in c r.used

  -- 16 for the two sides
  abbrev pub impossible_on : Bool
  impossible_on = impossible a.left.s a.left.count a.right.count (room_of n) rows r

  pub refuses-sides : (w : SideRefusal) → Err w ≡ why_not a → MayRun a n rows r (Err w)
  unfolding run_refusal_on
  refuses-sides w e = sides-refused a w e (rule 16 impossible_on ∷ []) tt

  module _ (z : Ok tt ≡ why_not a) (b : Bool) (asked : b ≡ impossible_on) where
    pub refuses-16 : (w : SideRefusal) → w ≡ named (against 3 16) → b ≡ true → MayRun a n rows r (Err w)
    unfolding run_refusal_on
    refuses-16 w k h =
        ap Err k ∙ unless_named (against 3 16) tt (λ q. omega (arith, q))
        ∙ ap (λ (x : Against). unless_refused x tt) (sym (sides-passed a z (rule 16 impossible_on ∷ []) ∙ applies 15 _ [] (sym asked ∙ h)))

    pub refuses-none : b ≡ false → MayRun a n rows r (Ok tt)
    unfolding run_refusal_on
    refuses-none h =
        unless_passed _ tt (ap (λ (x : Against). x.number) (sides-passed a z (rule 16 impossible_on ∷ []) ∙ not-applies 16 _ [] (sym asked ∙ h) ∙ none_left))

-- the columns have the room of the rows that are lent in all of them
pub fits-lent : (lent : ℕ) (c : Columns) (n room : ℕ) → room ≡ room_of (lent_in lent c) → n ≤ room → Fits c n room
unfolding room_of
fits-lent lent c n room e h = record {
  used = h;
  small = omega (arith, e);
  places = omega (arith, e);
  sets = omega (arith, e);
  parents = omega (arith, e);
  letters = omega (arith, e);
}

module _ (a : Asked) (lent : ℕ) (c : Columns) (r : Run) where
  abbrev used_rows : List Row
  used_rows = rows_in c r.used

  abbrev sixteen : ℕ
  sixteen = rule 16 (impossible_on a (lent_in lent c) c r)

  -- a refusal is the call's, whatever it asks besides
  call-refused : (w : SideRefusal) → MayRun a (lent_in lent c) used_rows r (Err w) → (rest : List ℕ) → (against_of w ≡ refusal_by (asked_rules a) (sixteen ∷ rest)) × (w.number ≡ 0 → ⊥)
  unfolding run_refusal_on
  call-refused w h rest =
      let q = handed a (sixteen ∷ []) tt w h in (
        q.0 ∙ sym (first_more (asked_rules a ++ (against 3 sixteen ∷ [])) (map (against 3) rest) (λ z. q.1 (ap (λ (x : Against). x.number) q.0 ∙ z))),
        q.1,
      )

  module _ (z : MayRun a (lent_in lent c) used_rows r (Ok tt)) where
    none : ((first (asked_rules a)).number ≡ 0) × ((first (against 3 sixteen ∷ [])).number ≡ 0)
    unfolding run_refusal_on
    none = first-parts (asked_rules a) (against 3 sixteen ∷ []) (unless-ok _ tt tt z).0

    fine : Able a
    fine = able a none.0

    possible-for : impossible_on a (lent_in lent c) c r ≡ false
    possible-for = (rule-none 15 _).0 (first-none _ _ none.1).0

    call-passed : (rest : List ℕ) → refusal_by (asked_rules a) (sixteen ∷ rest) ≡ first (map (against 3) rest)
    call-passed rest = first_past (asked_rules a) (map (against 3) (sixteen ∷ rest)) none.0 ∙ not-applies 16 _ rest possible-for

    run-possible : Possible a.left.s (room_of (lent_in lent c)) c r
    run-possible = possible a.left.s a.left.count a.right.count (room_of (lent_in lent c)) c r possible-for

    fits-used : Fits c r.used (room_of (lent_in lent c))
    fits-used = fits-lent lent c r.used (room_of (lent_in lent c)) refl run-possible.counts.within

    pub runnable : (room : ℕ) → room ≡ room_of (lent_in lent c) → Runnable c room a.left a.right r
    runnable room e = subst (λ (m : ℕ). Runnable c m a.left a.right r) (sym e) (record {
      fits = fits-used;
      unsettled = run-possible.counts.unsettled;
      few = omega (arith, fine.signals);
      signals = sym fine.same;
      on_left = matched a.left (omega (arith, fine.signals)) fine.few_left;
      on_right = matched a.right (omega (arith, fine.signals, fine.same)) fine.few_right;
    })

    pub traceable : r.outcome ≡ 2 → Traceable c r
    traceable refuted =
        let q = run-possible in
        let row : r.settled < r.used = q.counts.unsettled (λ k. omega (arith, sym refuted ∙ k)) in
        record {
          row = row;
          few = le_trans q.counts.within fits-used.small;
          parents = le_trans q.counts.within fits-used.parents;
          letters = le_trans q.counts.within fits-used.letters;
          rooted = q.rooted;
          bytes = λ i l. lt_of_lt_of_le (q.bytes i l) (pow_mono {i = a.left.s} {j = 8} fine.signals);
          word = climb-word c r.used r.settled q.rooted row;
        }

  -- ---- run
  module _ (budget : ℕ) where
    pub run-refused : (w : SideRefusal) → MayRun a (lent_in lent c) used_rows r (Err w) → Runs a lent c r budget (Err w) c
    unfolding called run_refusal_on
    run-refused w h = let p = call-refused w h [] in refused-reply _ _ _ _ _ p.0 p.1

    pub run-done : MayRun a (lent_in lent c) used_rows r (Ok tt) → (room : ℕ) → room ≡ room_of (lent_in lent c) → (c' : Columns) (w : Run) → Steps c c' (run a.left a.right room budget (state_of c r)) w
        → Runs a lent c r budget (Ok w) c'
    unfolding called run_refusal_on run_after_on
    run-done z room e c' w h =
        let st = subst (λ (s : State). Steps c c' s w) (λ i. run a.left a.right (e i) budget (state_of c r)) h in
        (λ i. exit (record { refusal = against 0 0; values = values_of (st.now i) }) (st.columns i)) ∙ done-reply _ _ _ _ (sym (call-passed z [] ∙ none_left))

  -- ---- trace
  module _ (out : List ℕ) where
    abbrev late : List ℕ
    late = rule 18 (ltb (length out) (length (trace_of used_rows r.settled))) ∷ []

    abbrev middle : List ℕ
    middle = rule 17 (not (eqb r.outcome 2)) ∷ late

    pub trace-refused : (w : SideRefusal) → MayRun a (lent_in lent c) used_rows r (Err w) → Traces a lent c r out (Err w) out
    unfolding tracing trace_refusal_on
    trace-refused w h = let p = call-refused w h middle in refused-reply _ _ _ _ _ p.0 p.1

    module _ (z : MayRun a (lent_in lent c) used_rows r (Ok tt)) where
      module _ (w : SideRefusal) where
        later : (n : ℕ) → w ≡ named (against 3 (suc n)) → first (map (against 3) middle) ≡ against 3 (suc n) → Traces a lent c r out (Err w) out
        unfolding tracing trace_refusal_on
        later n e q = refused-reply _ _ _ _ _ (ap against_of e ∙ (sided (suc n)).2 ∙ sym (call-passed z middle ∙ q)) (λ k. omega (arith, sym (ap (λ (x : SideRefusal). x.number) e) ∙ k))

        pub trace-early : w ≡ named (against 3 17) → (r.outcome ≡ 2 → ⊥) → Traces a lent c r out (Err w) out
        trace-early e k = later 16 e (applies 16 _ late (ap not (ne_eqb _ _ k)))

        pub trace-short : w ≡ named (against 3 18) → r.outcome ≡ 2 → length out < length (trace_of used_rows r.settled) → Traces a lent c r out (Err w) out
        trace-short e k l = later 17 e (not-applies 17 _ late (ap not (eq-eqb _ _ k)) ∙ applies 17 _ [] (lt-ltb _ _ l))

      pub trace-done : r.outcome ≡ 2 → (n : ℕ) (out' : List ℕ)
          → n ≡ length (climb c.parents c.letters r.settled r.settled) → n ≤ length out
          → out' ≡ front (climb c.parents c.letters r.settled r.settled) out
          → Traces a lent c r out (Ok n) out'
      unfolding tracing trace_refusal_on
      trace-done k n out' e l o' =
          let word = (traceable z k).word in
          let size : n ≡ length (trace_of used_rows r.settled) = e ∙ ap length (sym word) in
          (λ i. exit (record { refusal = against 0 0; values = size i ∷ [] }) ((o' ∙ ap (λ (w : List ℕ). front w out) (sym word)) i))
          ∙ done-reply _ _ _ _
          (sym (call-passed z middle
          ∙ not-applies 17 _ late (ap not (eq-eqb _ _ k))
          ∙ not-applies 18 _ [] (le-ltb _ _ (subst (λ (x : ℕ). x ≤ length out) size l))
          ∙ none_left))
