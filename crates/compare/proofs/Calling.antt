-- The promises of the calls on rows, from those of the calls on columns: the columns were loaded with the used rows, and the rows that
-- the core leaves were stored at the front of the table. Each law has the shape that the proof of its call ends with.
use Rattle.std.specs.Prelude.{Result, Ok, Err}
use Prim.Native.Nat.{ℕ, zero, suc, ◌≤◌, min}
use mathlib.Core.Path.{◌≡◌, refl, sym, ap, subst, ◌∙◌}
use mathlib.Core.Bool.{Bool, true, false, cond, ◌||◌}
use mathlib.Core.Logic.{◌↔◌}
use mathlib.Core.List.{List, [], ◌∷◌, map}
use lib.Dec.{eqb}
use borrow.Author.Tests.{eqb-false}
use Rattle.effect.proofs.Laws.{or-none, rule-none}
use native.Mathlib.Omega.{arith}
use lib.ListN.{length, take, get_or, length-take}
use lib.Seq.{take-take, length-take-le}
use Rattle.effect.specs.Refusals.{front, some_below}
use Rattle.goals.specs.Goals.{row_zero}
use Rattle.goals.specs.declared.Row.{Row}
use Rattle.goals.specs.declared.Run.{Run}
use Rattle.goals.specs.declared.SideRefusal.{SideRefusal}
use Rattle.places.specs.declared.Side.{Side}
use Rattle.goals.specs.Run.{State, started, step, steps, run}
use Rattle.goals.specs.Refusals.{Given, room_of, record_impossible, row_zero_impossible, impossible, Against, against, start_rules, Reply}
use Rattle.asking.specs.declared.Asked.{Asked}
use Rattle.asking.specs.Asked.{asked_of, asked_rules, start_refusal_on, run_refusal_on, run_after_on}
use Rattle.asking.proofs.Refusing.{first-none, first-parts, leaves-same}
use Rattle.asking.proofs.Asking.{start-asked, run-asked, trace-asked, after-asked}
use Rattle.columns.specs.Calls as core
use Rattle.columns.specs.Calls.{Columns, columns, lent_in, rows_in, put, tracing}
use Rattle.columns.proofs.Laws.{rows-put}
use Rattle.columns.proofs.Budget.{step-stepped}
use Rattle.columns.proofs.Possible.{record-counts}
use Rattle.demands.specs.Calls.{Lent, lent, used_in, holding, Starts, Runs, Traces}
use Rattle.demands.proofs.Accepting.{accepted-leaves}
use Rattle.demands.proofs.Calling.{room-lent}
use Rattle.compare.proofs.Core.{told, stored, core-starts, core-runs, core-traces}
use Rattle.compare.specs.declared.Work.{Work}
use Rattle.compare.specs.declared.Work.TheVariants as work-variants
use Rattle.compare.specs.Calls.{answered, work_refusal, work_after, Works, TracesAsked}
use Rattle.compare.specs.Core.{to_load, WorksIn}
use Rattle.columns.proofs.Rows.{column-length}

one-fits : (n : ℕ) → (n ≡ 0 → ⊥) → 1 ≤ room_of n
unfolding room_of
one-fits n h = omega (arith, h)

possible-fits : (s m k room : ℕ) (rows : List Row) (r : Run) → impossible s m k room rows r ≡ false → r.used ≤ room
unfolding impossible
possible-fits s m k room rows r h = (record-counts room r ((or-none (record_impossible room r) (row_zero_impossible (get_or rows 0 row_zero) || some_below r.used _)).0 h).0).within

-- ---- an accepted call keeps the used rows in the room
steps-within : (left right : Side) (room b : ℕ) (st : State) → length st.rows ≤ room → length (steps left right room b st).rows ≤ room
unfolding steps
steps-within left right room zero st h = h
steps-within left right room (suc b) st h = by (eqb next.outcome 0) (steps-within left right room b next more)
  where
    next : State
    next = step left right room st

    more : length next.rows ≤ room
    more = (step-stepped left right room st).within h

    by : (t : Bool) → length (steps left right room b next).rows ≤ room → length (elim t as (λ _. State) [ true ↦ steps left right room b next | false ↦ next ]).rows ≤ room
    by true k = k
    by false k = more

run-within : (left right : Side) (room b : ℕ) (st : State) → length st.rows ≤ room → length (run left right room b st).rows ≤ room
unfolding run
run-within left right room b st h = by (eqb st.outcome 1 || eqb st.outcome 2)
  where
    by : (t : Bool) → length (cond t st (steps left right room b st)).rows ≤ room
    by true = h
    by false = steps-within left right room b st h

after-within : (work : Work) (a : Asked) (l : Lent) → work_refusal work a l ≡ against 0 0 → length (work_after work a l).rows ≤ room_of (length l.rows)
unfolding work_refusal work_after start_refusal_on run_refusal_on run_after_on
after-within work-variants.Start a l e =
    let z = (first-parts (asked_rules a) (map (against 3) (start_rules (length l.rows))) (ap (λ (x : Against). x.number) e)).1 in
    let some : length l.rows ≡ 0 → ⊥ = eqb-false _ _ ((rule-none 14 _).0 (first-none _ _ z).0) in
    one-fits (length l.rows) some
after-within (work-variants.Run budget) a l e =
    let z = (first-parts (asked_rules a) (against 3 _ ∷ []) (ap (λ (x : Against). x.number) e)).1 in
    let fits : l.held.used ≤ room_of (length l.rows) = possible-fits _ _ _ _ (used_in l) l.held ((rule-none 15 _).0 (first-none _ _ z).0) in
    run-within a.left a.right (room_of (length l.rows)) budget _ (omega (arith, length-take l.held.used l.rows, fits))

-- ---- on columns of 65,535 rows that were loaded with the first n rows
-- what `load` asks of the number of rows: of those that are used, and of those that a call loads
abbrev pub Loadable : ℕ → ℕ → Type 0
Loadable n m = (n ≤ m) × (n ≤ 65535)

pub used-loadable : (n used m : ℕ) → n ≡ min (room_of m) used → Loadable n m
used-loadable n used m e = let u = room-lent m in (omega (arith, e, u.0), omega (arith, e, u.1))

pub work-loadable : (work : Work) (n used m : ℕ) → n ≡ to_load work used m → Loadable n m
unfolding to_load
work-loadable work-variants.Start n used m e = let u = room-lent m in (omega (arith, e, u.0), omega (arith, e, u.1))
work-loadable (work-variants.Run budget) n used m e = used-loadable n used m e

room-again : (lent : ℕ) → room_of (min lent (min 65535 (min 65535 (min 65535 65535)))) ≡ room_of lent
unfolding room_of
room-again lent = let z : min 65535 (min lent 65535) ≡ min 65535 lent = omega arith in z

module _ (rows : List Row) (held : Run) (n : ℕ) (fits : Loadable n (length rows)) (zs : List ℕ) (long : length zs ≡ 65535) (c : Columns)
    (loaded : c ≡ put (take n rows) (columns zs zs zs zs)) where
  column-long : (f : Row → ℕ) → length (front (map f (take n rows)) zs) ≡ 65535
  column-long f = column-length f n rows zs fits.0 (omega (arith, long, fits.1)) ∙ long

  -- every column is as long as it was, so the room is the table's,
  same-room : room_of (lent_in (length rows) c) ≡ room_of (length rows)
  same-room =
      ap (λ (k : Columns). room_of (lent_in (length rows) k)) loaded
      ∙ (λ i. room_of (min (length rows) (min (column-long (λ w. w.place) i) (min (column-long (λ w. w.set) i) (min (column-long (λ w. w.parent) i) (column-long (λ w. w.letter) i))))))
      ∙ room-again (length rows)

  -- and where as many were loaded as are used and the used rows fit it, they are in the columns
  same_rows : n ≡ min (room_of (length rows)) held.used → held.used ≤ room_of (length rows) → rows_in c held.used ≡ take held.used rows
  same_rows e h =
      let u = room-lent (length rows) in
      let all : n ≡ held.used = omega (arith, e, h) in
      ap (λ (k : Columns). rows_in k held.used) loaded
      ∙ rows-put (take n rows) (columns zs zs zs zs) held.used (omega (arith, all, length-take-le n rows (omega (arith, all, h, u.0))))
      ∙ take-take held.used n rows (omega (arith, all))

  -- there is a row in all columns where there is one in the table
  some-row : (lent_in (length rows) c ≡ 0) ↔ (length rows ≡ 0)
  unfolding room_of
  some-row = let e : min 65535 (lent_in (length rows) c) ≡ min 65535 (length rows) = same-room in ((λ z. omega (arith, z, e)), (λ z. omega (arith, z, e)))

-- ---- trace, where the used rows were loaded
pub traces-rows : (rows : List Row) (held : Run) (n : ℕ) → n ≡ min (room_of (length rows)) held.used → (zs : List ℕ) → length zs ≡ 65535 → (c : Columns) → c ≡ put (take n rows) (columns zs zs zs zs)
    → (a : Asked) (out out' : List ℕ) (r : Result ℕ SideRefusal) → core.Traces a (length rows) c held out r out' → TracesAsked a (lent rows held) out (tracing r) out'
traces-rows rows held n e zs long c loaded a out out' r s =
    let fits = used-loadable n held.used (length rows) e in
    core-traces a (length rows) c r (lent rows held) out out' (same-room rows held n fits zs long c loaded) (same_rows rows held n fits zs long c loaded e) s

-- ---- start and run, where the rows that the work asks for were loaded
module _ (work : Work) (rows : List Row) (held : Run) (n : ℕ) (e : n ≡ to_load work held.used (length rows)) (zs : List ℕ) (long : length zs ≡ 65535) (c : Columns)
    (loaded : c ≡ put (take n rows) (columns zs zs zs zs)) (a : Asked) (answer : Result Run SideRefusal) (c' : Columns) (s : WorksIn work a (length rows) c held answer c') where
  fits : Loadable n (length rows)
  fits = work-loadable work n held.used (length rows) e

  work-told : Works work a (lent rows held) (told answer) (stored answer c' (lent rows held))
  unfolding WorksIn work_refusal work_after to_load
  work-told = by work e s
    where
      by : (w : Work) → n ≡ to_load w held.used (length rows) → WorksIn w a (length rows) c held answer c' → Works w a (lent rows held) (told answer) (stored answer c' (lent rows held))
      by work-variants.Start e p = core-starts a (length rows) c c' answer (lent rows held) (some-row rows held n fits zs long c loaded) p
      by (work-variants.Run budget) e p =
          core-runs a (length rows) c c' answer (lent rows held) budget (same-room rows held n fits zs long c loaded) (same_rows rows held n fits zs long c loaded e) p

  -- a refusal leaves the rows and the record
  pub works-refused : (why : SideRefusal) → answer ≡ Err why → Works work a (lent rows held) (answered (Err why)) (lent rows held)
  unfolding answered core.called stored
  works-refused why h = subst (λ (x : Result Run SideRefusal). Works work a (lent rows held) (told x) (stored x c' (lent rows held))) h work-told

  module _ (r : Run) (h : answer ≡ Ok r) where
    told-ok : Works work a (lent rows held) (answered (Ok tt)) (lent (front (rows_in c' r.used) rows) r)
    unfolding answered core.called stored
    told-ok = subst (λ (x : Result Run SideRefusal). Works work a (lent rows held) (told x) (stored x c' (lent rows held))) h work-told

    -- an accepted call uses no more rows than the room has
    used-within : r.used ≤ room_of (length rows)
    unfolding answered
    used-within =
        let u = accepted-leaves (answered (Ok tt)) _ [] (holding (work_after work a (lent rows held)) (lent rows held)) (lent rows held) (lent (front (rows_in c' r.used) rows) r) told-ok refl in
        omega (arith, after-within work a (lent rows held) u.0, ap (λ (l : Lent). l.held.used) u.1)

    -- so all of them are stored
    pub works-accepted : (rows' : List Row) → lent_in (length rows) c' ≡ lent_in (length rows) c
        → rows' ≡ front (rows_in c' (min r.used (min (lent_in (length rows) c') (length rows)))) rows
        → Works work a (lent rows held) (answered (Ok tt)) (lent rows' r)
    works-accepted rows' same given =
        subst (λ (x : List Row). Works work a (lent rows held) (answered (Ok tt)) (lent x r)) (sym (given ∙ ap (λ (k : ℕ). front (rows_in c' k) rows) all)) told-ok
      where
        all : min r.used (min (lent_in (length rows) c') (length rows)) ≡ r.used
        all =
            let u = room-lent (length rows) in
            let room : room_of (lent_in (length rows) c) ≡ room_of (length rows) = same-room rows held n fits zs long c loaded in
            let w = room-lent (lent_in (length rows) c) in
            omega (arith, used-within, u.0, u.1, w.0, same, room)

-- ---- the calls on two tables are the calls on the sides that `ask` makes of them
pub starts-given : (g : Given) (a : Asked) → a ≡ asked_of g → (l : Lent) (reply : Reply) (l' : Lent) → Works work-variants.Start a l reply l' → Starts g l reply l'
unfolding work_refusal work_after
starts-given g a e l reply l' h =
    subst (λ (b : Asked). Works work-variants.Start b l reply l') e h
    ∙ leaves-same _ _ [] [] (holding started l) (holding started l) l (start-asked g (length l.rows)) (λ _. (refl, refl))

pub runs-given : (g : Given) (a : Asked) → a ≡ asked_of g → (l : Lent) (budget : ℕ) (reply : Reply) (l' : Lent) → Works (work-variants.Run budget) a l reply l' → Runs g l budget reply l'
unfolding work_refusal work_after
runs-given g a e l budget reply l' h =
    subst (λ (b : Asked). Works (work-variants.Run budget) b l reply l') e h
    ∙ leaves-same _ _ [] [] _ _ l (run-asked g (length l.rows) (used_in l) l.held)
    (λ z. (refl, ap (λ (st : State). holding st l) (after-asked g (length l.rows) (used_in l) l.held budget z)))

pub traces-given : (g : Given) (a : Asked) → a ≡ asked_of g → (l : Lent) (out : List ℕ) (reply : Reply) (out' : List ℕ) → TracesAsked a l out reply out' → Traces g l out reply out'
traces-given g a e l out reply out' h =
    subst (λ (b : Asked). TracesAsked b l out reply out') e h
    ∙ leaves-same _ _ _ _ _ _ out (trace-asked g (length l.rows) (used_in l) l.held (length out)) (λ _. (refl, refl))
