-- A step, and steps one after another, from any state that has a row to settle, forged ones too: what is settled is closed, what
-- stops them, and what they leave of the rows.
use Prim.Native.Nat.{ℕ, zero, suc, ◌+◌, ◌-◌, ◌^◌, ◌≤◌, ◌<◌}
use mathlib.Core.Path.{◌≡◌, refl, sym, ap, subst, ◌∙◌}
use mathlib.Core.Bool.{Bool, true, false, cond}
use mathlib.Core.Logic.{◌≢◌}
use mathlib.Core.List.{List}
use native.Mathlib.Decide.{dec_lt, ℕ_discrete}
use native.Mathlib.Omega.{arith}
use lib.Dec.{eqb}
use lib.ListN.{length}
use borrow.Author.Tests.{eqb-true, eqb-false}
use Rattle.bits.specs.Bit.{Mem}
use Rattle.places.specs.declared.Side.{Side}
use Rattle.places.specs.Readings.{matching, followers, post}
use Rattle.goals.specs.declared.Row.{Row}
use Rattle.goals.specs.Goals.{known, bad, candidates, Entered, enter_all}
use Rattle.goals.specs.Run.{State, state, settle, step, steps}
use Rattle.columns.proofs.Budget.{steps-more, steps-stop}
use Rattle.demands.specs.Demands.{row_of, Has}
use Rattle.demands.proofs.Rows.{Extends, extends-refl, extends-trans, extends-longer, extends-row, extends-has, Among, goal_at, of-candidate}
use Rattle.demands.proofs.Entering.{entered, entered-extends, entered-within, entered-has, entered-lacks}
use Rattle.demands.proofs.Keeping.{Kept, Born, kept-entered, born-entered, entered-parents}

module _ (left right : Side) where
  -- row i is closed: it is not bad, and each goal that follows it stands in a row
  pub record Closed (rows : List Row) (i : ℕ) : Type 0 where
    pub fine : bad left right (row_of rows i) ≡ false
    pub followed : (x k : ℕ) → x < 2 ^ left.s → k < 64 → Mem (followers left (row_of rows i).place) k → Mem (matching left x) k
        → Has rows k (post right (row_of rows i).set x)

  pub closed-extends : (rs rs' : List Row) (i : ℕ) → Extends rs rs' → i < length rs → Closed rs i → Closed rs' i
  closed-extends rs rs' i x l h =
      let e = sym (extends-row rs rs' x i l) in
      record {
        fine = ap (bad left right) (sym e) ∙ h.fine;
        followed = λ y k a b f m.
            subst (λ (w : Row). Has rs' k (post right w.set y)) e
            (extends-has rs rs' k (post right (row_of rs i).set y) x
            (h.followed y k a b (subst (λ (w : Row). Mem (followers left w.place) k) (sym e) f) m));
      }

  module _ (room : ℕ) where
    -- the goals of row `settled` entered
    abbrev entering : State → Entered
    entering st = enter_all room (candidates left right st.settled (row_of st.rows st.settled)) (entered st.rows false)

    -- the four ways of a step
    step-cases : (Q : State → Type 0) (st : State)
        → (bad left right (row_of st.rows st.settled) ≡ true → Q (state st.rows st.settled 2))
        → (bad left right (row_of st.rows st.settled) ≡ false → (entering st).full ≡ true → Q (state (entering st).rows st.settled 3))
        → (bad left right (row_of st.rows st.settled) ≡ false → (entering st).full ≡ false → (last : Bool)
        → eqb (suc st.settled) (length (entering st).rows) ≡ last → Q (state (entering st).rows (suc st.settled) (cond last 1 0)))
        → Q (step left right room st)
    unfolding step settle
    step-cases Q st refutes fills closes = by (bad left right (row_of st.rows st.settled)) refl (entering st).full refl
      where
        by : (b : Bool) → bad left right (row_of st.rows st.settled) ≡ b → (f : Bool) → (entering st).full ≡ f
            → Q (cond b (state st.rows st.settled 2)
            (cond f (state (entering st).rows st.settled 3)
            (state (entering st).rows (suc st.settled) (cond (eqb (suc st.settled) (length (entering st).rows)) 1 0))))
        by true p f q = refutes p
        by false p true q = fills p q
        by false p false q = closes p q (eqb (suc st.settled) (length (entering st).rows)) refl

    -- what stops a run for room, after fewer steps than n
    pub record Stuck (n : ℕ) (st st' : State) : Type 0 where
      pub before : st'.settled - st.settled < n
      pub fine : bad left right (row_of st'.rows st'.settled) ≡ false
      pub filled : length st'.rows ≡ room
      pub lacked : Row
      pub next : Among lacked (candidates left right st'.settled (row_of st'.rows st'.settled))
      pub new : known lacked st'.rows ≡ false

    -- p is the row of a step between two states, or the one that found no room
    abbrev pub Comes : State → State → ℕ → Type 0
    Comes st st' p = (st.settled ≤ p) × (p ≤ st'.settled) × (p ≡ st'.settled → st'.outcome ≡ 3)

    -- what n steps, at least one, make of a state
    pub record Went (n : ℕ) (st st' : State) : Type 0 where
      pub more : st.settled ≤ st'.settled
      pub paid : st'.settled ≤ st.settled + n
      pub all : st'.outcome ≡ 0 → st'.settled ≡ st.settled + n
      pub extends : Extends st.rows st'.rows
      pub within : length st.rows ≤ room → length st'.rows ≤ room
      pub closed : (i : ℕ) → st.settled ≤ i → i < st'.settled → Closed st'.rows i
      -- a new row comes from the row of a step, or from the one that found no room
      pub from_step : (i : ℕ) → length st.rows ≤ i → i < length st'.rows → Comes st st' (row_of st'.rows i).parent
      pub kept : Kept left right st.rows → Kept left right st'.rows
      pub born : (n : ℕ) → Born left right st.rows n → Born left right st'.rows n
      pub few : st'.outcome ≤ 3
      pub undone : st'.outcome ≢ 1 → st'.settled < length st'.rows
      pub done : st'.outcome ≡ 1 → st'.settled ≡ length st'.rows
      pub refuted : st'.outcome ≡ 2 → (bad left right (row_of st'.rows st'.settled) ≡ true) × (st'.settled < st.settled + n)
      pub stuck : st'.outcome ≡ 3 → Stuck n st st'

    -- ---- one step
    module _ (st : State) (h : st.settled < length st.rows) where
      abbrev rows' : List Row
      rows' = (entering st).rows

      grown : Extends st.rows rows'
      grown = entered-extends room (candidates left right st.settled (row_of st.rows st.settled)) (entered st.rows false)

      fits : length st.rows ≤ room → length rows' ≤ room
      fits = entered-within room (candidates left right st.settled (row_of st.rows st.settled)) (entered st.rows false)

      -- each new row is a candidate of this one
      parents : (i : ℕ) → length st.rows ≤ i → i < length rows' → (row_of rows' i).parent ≡ st.settled
      parents = entered-parents left right room st.rows st.settled h

      same_row : row_of rows' st.settled ≡ row_of st.rows st.settled
      same_row = extends-row st.rows rows' grown st.settled h

      went-refutes : bad left right (row_of st.rows st.settled) ≡ true → Went 1 st (state st.rows st.settled 2)
      went-refutes p =
          record {
            more = omega arith;
            paid = omega arith;
            all = λ e. absurd (omega (arith, e));
            extends = extends-refl st.rows;
            within = λ l. l;
            closed = λ i a b. absurd (omega (arith, a, b));
            from_step = λ i a b. absurd (omega (arith, a, b));
            kept = λ k. k;
            born = λ n b. b;
            few = omega arith;
            undone = λ e. h;
            done = λ e. absurd (omega (arith, e));
            refuted = λ e. (p, omega arith);
            stuck = λ e. absurd (omega (arith, e));
          }

      went-fills : bad left right (row_of st.rows st.settled) ≡ false → (entering st).full ≡ true → Went 1 st (state rows' st.settled 3)
      went-fills p f =
          let u = entered-lacks room (candidates left right st.settled (row_of st.rows st.settled)) st.rows f in
          record {
            more = omega arith;
            paid = omega arith;
            all = λ e. absurd (omega (arith, e));
            extends = grown;
            within = fits;
            closed = λ i a b. absurd (omega (arith, a, b));
            from_step = λ i a b. (omega (arith, parents i a b), omega (arith, parents i a b), λ e. refl);
            kept = kept-entered left right room st.rows st.settled h;
            born = born-entered left right room st.rows st.settled h;
            few = omega arith;
            undone = λ e. omega (arith, h, extends-longer st.rows rows' grown);
            done = λ e. absurd (omega (arith, e));
            refuted = λ e. absurd (omega (arith, e));
            stuck = λ e. record {
              before = omega arith;
              fine = ap (bad left right) same_row ∙ p;
              filled = u.0;
              lacked = u.1.0;
              next = rw same_row u.1.1;
              new = u.1.2;
            };
          }

      closes-row : bad left right (row_of st.rows st.settled) ≡ false → (entering st).full ≡ false → Closed rows' st.settled
      closes-row p f =
          record {
            fine = ap (bad left right) same_row ∙ p;
            followed = λ x k a b c m.
                subst (λ (w : Row). Has rows' k (post right w.set x)) (sym same_row)
                ((entered-has room (candidates left right st.settled (row_of st.rows st.settled)) (entered st.rows false) f).1
                (goal_at left right st.settled (row_of st.rows st.settled) x k)
                (of-candidate left right st.settled (row_of st.rows st.settled) x k a b
                (subst (λ (w : Row). Mem (followers left w.place) k) same_row c) m));
          }

      went-closes : bad left right (row_of st.rows st.settled) ≡ false → (entering st).full ≡ false → (last : Bool)
          → eqb (suc st.settled) (length rows') ≡ last → Went 1 st (state rows' (suc st.settled) (cond last 1 0))
      went-closes p f last e =
          record {
            more = omega arith;
            paid = omega arith;
            all = λ z. omega arith;
            extends = grown;
            within = fits;
            closed = λ i a b. subst (λ (j : ℕ). Closed rows' j) (let z : st.settled ≡ i = omega (arith, a, b) in z) (closes-row p f);
            from_step = λ i a b. (omega (arith, parents i a b), omega (arith, parents i a b), λ q. absurd (omega (arith, parents i a b, q)));
            kept = kept-entered left right room st.rows st.settled h;
            born = born-entered left right room st.rows st.settled h;
            few = few-at last;
            undone = λ z. undone-at last e z;
            done = λ z. done_at last e z;
            refuted = λ z. absurd (not-two last z);
            stuck = λ z. absurd (not_three last z);
          }
        where
          few-at : (b : Bool) → cond {A = ℕ} b 1 0 ≤ 3
          few-at true = omega arith
          few-at false = omega arith

          not-two : (b : Bool) → cond {A = ℕ} b 1 0 ≡ 2 → ⊥
          not-two true z = omega (arith, z)
          not-two false z = omega (arith, z)

          not_three : (b : Bool) → cond {A = ℕ} b 1 0 ≡ 3 → ⊥
          not_three true z = omega (arith, z)
          not_three false z = omega (arith, z)

          undone-at : (b : Bool) → eqb (suc st.settled) (length rows') ≡ b → (cond {A = ℕ} b 1 0 ≡ 1 → ⊥) → suc st.settled < length rows'
          undone-at true q z = absurd (z refl)
          undone-at false q z =
              let ne : suc st.settled ≡ length rows' → ⊥ = eqb-false (suc st.settled) (length rows') q in
              omega (arith, h, extends-longer st.rows rows' grown)

          done_at : (b : Bool) → eqb (suc st.settled) (length rows') ≡ b → cond {A = ℕ} b 1 0 ≡ 1 → suc st.settled ≡ length rows'
          done_at true q z = eqb-true _ _ q
          done_at false q z = absurd (omega (arith, z))

      step_went : Went 1 st (step left right room st)
      step_went = step-cases (λ (st' : State). Went 1 st st') st went-refutes went-fills went-closes

    -- ---- steps one after another
    went-stop : (n : ℕ) (st st' : State) → Went 1 st st' → st'.outcome ≢ 0 → Went (suc n) st st'
    went-stop n st st' w z =
        record {
          more = w.more;
          paid = omega (arith, w.paid);
          all = λ e. absurd (z e);
          extends = w.extends;
          within = w.within;
          closed = w.closed;
          from_step = w.from_step;
          kept = w.kept;
          born = w.born;
          few = w.few;
          undone = w.undone;
          done = w.done;
          refuted = λ e. let r = w.refuted e in (r.0, omega (arith, r.1));
          stuck = λ e. let s = w.stuck e in
              record { before = omega (arith, s.before); fine = s.fine; filled = s.filled; lacked = s.lacked; next = s.next; new = s.new };
        }

    went_then : (n : ℕ) (st next st' : State) → Went 1 st next → next.outcome ≡ 0 → Went n next st' → Went (suc n) st st'
    went_then n st next st' w z v =
        record {
          more = omega (arith, w.more, v.more);
          paid = omega (arith, w.paid, v.paid);
          all = λ e. omega (arith, w.all z, v.all e);
          extends = extends-trans st.rows next.rows st'.rows w.extends v.extends;
          within = λ l. v.within (w.within l);
          closed = λ i a b. closed_at i a b (dec_lt i next.settled);
          from_step = λ i a b. from_at i a b (dec_lt i (length next.rows));
          kept = λ k. v.kept (w.kept k);
          born = λ m b. v.born m (w.born m b);
          few = v.few;
          undone = v.undone;
          done = v.done;
          refuted = λ e. let r = v.refuted e in (r.0, omega (arith, r.1, w.all z));
          stuck = λ e. let s = v.stuck e in
              record { before = omega (arith, s.before, w.all z, v.more); fine = s.fine; filled = s.filled; lacked = s.lacked; next = s.next; new = s.new };
        }
      where
        closed_at : (i : ℕ) → st.settled ≤ i → i < st'.settled → Dec (i < next.settled) → Closed st'.rows i
        closed_at i a b (yes l) =
            closed-extends next.rows st'.rows i v.extends
            (omega (arith, l, w.undone (λ (q : next.outcome ≡ 1). omega (arith, q, z)))) (w.closed i a l)
        closed_at i a b (no l) = v.closed i (omega (arith, l)) b

        from_at : (i : ℕ) → length st.rows ≤ i → i < length st'.rows → Dec (i < length next.rows) → Comes st st' (row_of st'.rows i).parent
        from_at i a b (yes l) =
            let u = w.from_step i a l in
            let below : (row_of next.rows i).parent ≢ next.settled = λ e. absurd (omega (arith, z, u.2 e)) in
            subst (λ (r : Row). Comes st st' r.parent) (sym (extends-row next.rows st'.rows v.extends i l))
            (u.0, omega (arith, u.1, v.more), λ e. absurd (omega (arith, u.1, v.more, e, below)))
        from_at i a b (no l) = let u = v.from_step i (omega (arith, l)) b in (omega (arith, u.0, w.more), u.1, u.2)

    pub steps-went : (b : ℕ) (st : State) → st.settled < length st.rows → Went (suc b) st (steps left right room (suc b) st)
    unfolding steps
    steps-went zero st h = go (ℕ_discrete (step left right room st).outcome 0)
      where
        go : Dec ((step left right room st).outcome ≡ 0) → Went 1 st (steps left right room 1 st)
        go (yes z) = subst (λ (st' : State). Went 1 st st') (sym (steps-more left right room 0 st z)) (step_went st h)
        go (no z) = subst (λ (st' : State). Went 1 st st') (sym (steps-stop left right room 0 st z)) (step_went st h)
    steps-went (suc b) st h = go (ℕ_discrete (step left right room st).outcome 0) (steps-went b (step left right room st))
      where
        next : State
        next = step left right room st

        go : Dec (next.outcome ≡ 0) → (next.settled < length next.rows → Went (suc b) next (steps left right room (suc b) next))
            → Went (suc (suc b)) st (steps left right room (suc (suc b)) st)
        go (yes z) rest =
            subst (λ (st' : State). Went (suc (suc b)) st st') (sym (steps-more left right room (suc b) st z))
            (went_then (suc b) st next (steps left right room (suc b) next) (step_went st h) z
            (rest ((step_went st h).undone (λ (q : next.outcome ≡ 1). omega (arith, q, z)))))
        go (no z) rest =
            subst (λ (st' : State). Went (suc (suc b)) st st') (sym (steps-stop left right room (suc b) st z))
            (went-stop (suc b) st next (step_went st h) z)
