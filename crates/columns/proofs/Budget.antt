-- Steps one after another: a state is what its columns and record say, a step that leaves the run open leaves a row that is
-- not settled, and rows are only added.
use Prim.Native.Nat.{ℕ, suc, ◌+◌, ◌-◌, ◌^◌, ◌≤◌, ◌<◌}
use mathlib.Core.Path.{◌≡◌, refl, sym, ap, ap₂, subst, ◌∙◌}
use mathlib.Core.Bool.{Bool, true, false, cond, ◌||◌}
use mathlib.Core.List.{List}
use mathlib.Core.Logic.{⊎_elim}
use native.Mathlib.Nat.{eq-or-lt_of_le}
use native.Mathlib.Omega.{arith}
use lib.Dec.{eqb}
use lib.ListN.{length, get_or}
use lib.Seq.{take-length}
use borrow.Author.Tests.{eq-eqb, ne_eqb, eqb-false}
use Rattle.places.specs.declared.Side.{Side}
use Rattle.places.specs.Matching.{naming_of, matching_by}
use Rattle.goals.specs.declared.Row.{Row}
use Rattle.goals.specs.declared.Run.{Run}
use Rattle.columns.specs.declared.Letters.{Letters}
use Rattle.goals.specs.Goals.{row_zero, bad, candidates, Entered, enter_all}
use Rattle.goals.specs.Run.{State, state, settle, step, steps, run}
use Rattle.columns.specs.Calls.{Columns, rows_in, put, state_of}
use Rattle.columns.specs.Core.{Fits, entering, letters_of, Ready, Steps, Runnable}
use Rattle.columns.proofs.Laws.{length-rows_in, put-put, rows-put, all-grows, fits-put, put_same}

-- the state that columns and record hold
pub state-held : (c c' : Columns) (st : State) (r : Run) → Steps c c' st r → state_of c' r ≡ st
state-held c c' st r h =
    let used : r.used ≡ length st.rows = ap (λ (k : Run). k.used) h.now in
    let rows : rows_in c' r.used ≡ st.rows = ap₂ rows_in h.columns used ∙ rows-put st.rows c (length st.rows) (omega arith) ∙ take-length st.rows in
    λ i. state (rows i) (ap (λ (k : Run). k.settled) h.now i) (ap (λ (k : Run). k.outcome) h.now i)

-- what a step does to a state
pub record Stepped (room : ℕ) (st st' : State) : Type 0 where
  pub more : length st.rows ≤ length st'.rows
  pub within : length st.rows ≤ room → length st'.rows ≤ room
  pub next : st'.outcome ≡ 0 → st.settled < length st.rows → st'.settled < length st'.rows

settle-stepped : (room : ℕ) (st : State) (e : Entered) → length st.rows ≤ length e.rows → (length st.rows ≤ room → length e.rows ≤ room) → Stepped room st (settle st.settled e)
unfolding settle
settle-stepped room st e m w = full e.full
  where
    last : (b : Bool) → eqb (suc st.settled) (length e.rows) ≡ b → ◌≡◌ {A = ℕ} (cond b 1 0) 0 → st.settled < length st.rows → suc st.settled < length e.rows
    last true q z l = absurd (omega arith)
    last false q z l = ⊎_elim (λ (i : suc st.settled ≡ length e.rows). absurd (eqb-false _ _ q i)) (λ g. g) (eq-or-lt_of_le (let k : suc st.settled ≤ length e.rows = omega arith in k))

    full : (f : Bool) → Stepped room st (cond f (state e.rows st.settled 3) (state e.rows (suc st.settled) (cond (eqb (suc st.settled) (length e.rows)) 1 0)))
    full true = record { more = m; within = w; next = λ z l. absurd (omega arith) }
    full false = record { more = m; within = w; next = λ z l. last (eqb (suc st.settled) (length e.rows)) refl z l }

pub step-stepped : (left right : Side) (room : ℕ) (st : State) → Stepped room st (step left right room st)
unfolding step
step-stepped left right room st = by (bad left right (get_or st.rows st.settled row_zero))
  where
    g : (cs : List Row) → Stepped room st (settle st.settled (enter_all room cs (entering st.rows)))
    g cs = let a = all-grows room cs (entering st.rows) in settle-stepped room st (enter_all room cs (entering st.rows)) a.more a.within

    by : (b : Bool) → Stepped room st (cond b (state st.rows st.settled 2) (settle st.settled (enter_all room (candidates left right st.settled (get_or st.rows st.settled row_zero)) (entering st.rows))))
    by true = record { more = omega arith; within = λ h. h; next = λ z l. absurd (omega arith) }
    by false = g (candidates left right st.settled (get_or st.rows st.settled row_zero))

-- one step of more, and where it stops
pub steps-more : (left right : Side) (room b : ℕ) (st : State) → (step left right room st).outcome ≡ 0 → steps left right room (suc b) st ≡ steps left right room b (step left right room st)
unfolding steps
steps-more left right room b st h = by (eqb (step left right room st).outcome 0) (eq-eqb _ _ h)
  where
    by : (t : Bool) → t ≡ true → elim t as (λ _. State) [ true ↦ steps left right room b (step left right room st) | false ↦ step left right room st ] ≡ steps left right room b (step left right room st)
    by true e = refl
    by false e = absurd (mathlib.Core.Bool.false≢true e)

pub steps-stop : (left right : Side) (room b : ℕ) (st : State) → ((step left right room st).outcome ≡ 0 → ⊥) → steps left right room (suc b) st ≡ step left right room st
unfolding steps
steps-stop left right room b st h = by (eqb (step left right room st).outcome 0) (ne_eqb _ _ h)
  where
    by : (t : Bool) → t ≡ false → elim t as (λ _. State) [ true ↦ steps left right room b (step left right room st) | false ↦ step left right room st ] ≡ step left right room st
    by true e = absurd (mathlib.Core.Bool.true≢false e)
    by false e = refl

-- ---- the loop over a budget
module _ (c c' : Columns) (room : ℕ) (left right : Side) (ls : Letters) (r r' : Run) (rd : Ready c room left right ls r)
    (h : Steps c c' (step left right room (state_of c r)) r') where
  abbrev st' : State
  st' = step left right room (state_of c r)

  grown : Stepped room (state_of c r) st'
  grown = step-stepped left right room (state_of c r)

  before-fits : length (rows_in c r.used) ≤ room
  before-fits = rw (length-rows_in c r.used) rd.fits.used

  pub used-more : r.used ≤ r'.used
  used-more = rw (ap (λ (k : Run). k.used) h.now) (rw (length-rows_in c r.used) at grown.more)

  pub ready-next : r'.outcome ≡ 0 → Ready c' room left right ls r'
  ready-next z = record {
    fits = rw (h.columns, ap (λ (k : Run). k.used) h.now) (fits-put c r.used room rd.fits st'.rows (grown.within before-fits));
    left_over = rw (ap (λ (k : Run). k.settled) h.now, ap (λ (k : Run). k.used) h.now)
        (grown.next (sym (ap (λ (k : Run). k.outcome) h.now) ∙ z) (rw (length-rows_in c r.used) rd.left_over));
    few = rd.few;
    signals = rd.signals;
    on_left = rd.on_left;
    on_right = rd.on_right;
  }

-- what the loop keeps: the columns are the rows so far over those at the start, and what is left of the budget gives the rest
pub record Goes (left right : Side) (room budget : ℕ) (c₀ : Columns) (r₀ : Run) (c : Columns) (b : ℕ) (r : Run) : Type 0 where
  pub columns : c ≡ put (rows_in c r.used) c₀
  pub rest : steps left right room (budget - b) (state_of c r) ≡ steps left right room budget (state_of c₀ r₀)

pub goes_none : (left right : Side) (room budget : ℕ) (c : Columns) (r : Run) → Fits c r.used room → Goes left right room budget c r c 0 r
goes_none left right room budget c r f = record { columns = put_same c r.used room f; rest = ap (λ (n : ℕ). steps left right room n (state_of c r)) (let z : budget - 0 ≡ budget = omega arith in z) }

module _ (left right : Side) (room budget : ℕ) (ls : Letters) (c₀ c c' : Columns) (r₀ r r' : Run) (b : ℕ) (l : b < budget) (rd : Ready c room left right ls r)
    (g : Goes left right room budget c₀ r₀ c b r) (h : Steps c c' (step left right room (state_of c r)) r') where
  over-start : c' ≡ put (step left right room (state_of c r)).rows c₀
  over-start =
      h.columns ∙ ap (put (step left right room (state_of c r)).rows) g.columns
      ∙ put-put (rows_in c r.used) (step left right room (state_of c r)).rows c₀ (step-stepped left right room (state_of c r)).more

  one_more : budget - b ≡ suc (budget - (b + 1))
  one_more = omega arith

  pub goes-next : r'.outcome ≡ 0 → Goes left right room budget c₀ r₀ c' (b + 1) r'
  goes-next z = record {
    columns = over-start ∙ ap (λ (w : List Row). put w c₀) (sym (ap (λ (s : State). s.rows) (state-held c c' _ r' h)));
    rest =
        ap (steps left right room (budget - (b + 1))) (state-held c c' _ r' h)
        ∙ sym (steps-more left right room (budget - (b + 1)) (state_of c r) (sym (ap (λ (k : Run). k.outcome) h.now) ∙ z))
        ∙ ap (λ (n : ℕ). steps left right room n (state_of c r)) (sym one_more)
        ∙ g.rest;
  }

  pub goes-stop : (r'.outcome ≡ 0 → ⊥) → Steps c₀ c' (steps left right room budget (state_of c₀ r₀)) r'
  goes-stop z =
      subst (λ (s : State). Steps c₀ c' s r')
      (sym (steps-stop left right room (budget - (b + 1)) (state_of c r) (λ e. z (ap (λ (k : Run). k.outcome) h.now ∙ e)))
      ∙ ap (λ (n : ℕ). steps left right room n (state_of c r)) (sym one_more)
      ∙ g.rest)
      (record { columns = over-start; now = h.now })

pub goes_end : (left right : Side) (room budget : ℕ) (c₀ c : Columns) (r₀ r : Run) → Goes left right room budget c₀ r₀ c budget r → Steps c₀ c (steps left right room budget (state_of c₀ r₀)) r
unfolding steps
goes_end left right room budget c₀ c r₀ r g =
    subst (λ (s : State). Steps c₀ c s r)
    (ap (λ (n : ℕ). steps left right room n (state_of c r)) (let z : 0 ≡ budget - budget = omega arith in z) ∙ g.rest)
    (record { columns = g.columns; now = λ i. record { settled = r.settled; used = sym (length-rows_in c r.used) i; outcome = r.outcome } })

-- ---- a call on two sides
module _ (c : Columns) (room : ℕ) (left right : Side) (r : Run) (g : Runnable c room left right r) where
  -- a decided run stays
  pub run-stays : (budget : ℕ) → (eqb r.outcome 1 || eqb r.outcome 2) ≡ true → Steps c c (run left right room budget (state_of c r)) r
  unfolding run
  run-stays budget h =
      subst (λ (st : State). Steps c c st r) (sym (ap (λ (b : Bool). cond b (state_of c r) (steps left right room budget (state_of c r))) h))
      (record {
        columns = put_same c r.used room g.fits;
        now = λ i. record { settled = r.settled; used = sym (length-rows_in c r.used) i; outcome = r.outcome };
      })

  pub run-goes : (budget : ℕ) (c' : Columns) (w : Run) → (r.outcome ≡ 1 → ⊥) → (r.outcome ≡ 2 → ⊥)
      → Steps c c' (steps left right room budget (state_of c r)) w → Steps c c' (run left right room budget (state_of c r)) w
  unfolding run
  run-goes budget c' w a b h =
      subst (λ (st : State). Steps c c' st w)
      (sym (ap₂ (λ (x y : Bool). cond (x || y) (state_of c r) (steps left right room budget (state_of c r))) (ne_eqb _ _ a) (ne_eqb _ _ b)))
      h

  -- with the letters worked out for both sides it can take a step
  pub run-ready : (ls : Letters) → ls ≡ letters_of left right → (r.outcome ≡ 1 → ⊥) → Ready c room left right ls r
  run-ready ls e h = subst (λ (l : Letters). Ready c room left right l r) (sym e) (record {
    fits = g.fits;
    left_over = g.unsettled h;
    few = g.few;
    signals = refl;
    on_left = g.on_left;
    on_right = λ x l.
        ap (λ (s : ℕ). matching_by (naming_of right) s x) (sym g.signals)
        ∙ g.on_right x (subst (λ (s : ℕ). x < 2 ^ s) (sym g.signals) l);
  })
