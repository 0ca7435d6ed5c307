-- What an accepted run call says and leaves, forged records among them: the sides pass, record and rows are possible, and the used
-- rows and the record at exit are those of the state that the run's rules give.
use Prim.Native.Nat.{ℕ, zero, suc, ◌≤◌, ◌<◌}
use mathlib.Core.Path.{◌≡◌, refl, sym, ap, subst, ◌∙◌}
use mathlib.Core.Bool.{Bool, true, false, cond, ◌||◌}
use mathlib.Core.Logic.{◌⊎◌, inl, inr, ⊎_elim, ◌≢◌}
use mathlib.Core.List.{List, []}
use native.Mathlib.Omega.{arith}
use lib.Dec.{eqb}
use lib.ListN.{length, drop}
use lib.Seq.{length-take-le, take-append_seam}
use borrow.Author.Tests.{eqb-true, eqb-false}
use Rattle.effect.proofs.Laws.{or-none, or_some}
use Rattle.places.specs.declared.Side.{Side}
use Rattle.goals.specs.declared.Row.{Row}
use Rattle.goals.specs.declared.Run.{Run}
use Rattle.goals.specs.Run.{State, state, steps, run}
use Rattle.goals.specs.Refusals.{Given, left_of, right_of, room_of, record_of, impossible_for, Reply, run_after}
use Rattle.demands.specs.Calls.{Lent, used_in, holding, Runs, Accepted}
use Rattle.demands.proofs.Both.{Both}
use Rattle.demands.proofs.Possible.{Possible, possible-iff}
use Rattle.demands.proofs.Accepting.{run-passes, accepted-leaves}
use Rattle.demands.proofs.Stepping.{Went, steps-went}

-- the state that a call is lent, and the one that the rules give
abbrev pub before : Lent → State
before l = state (used_in l) l.held.settled l.held.outcome

abbrev pub after : Given → Lent → ℕ → State
after g l budget = run_after g (length l.rows) (used_in l) l.held budget

pub room-lent : (n : ℕ) → (room_of n ≤ n) × (room_of n ≤ 65535)
unfolding room_of
room-lent n = (omega arith, omega arith)

-- a state in what it leaves
pub used-holding : (st : State) (l : Lent) → used_in (holding st l) ≡ st.rows
used-holding st l = take-append_seam st.rows (drop (length st.rows) l.rows)

module _ (g : Given) (l l' : Lent) (budget : ℕ) (reply : Reply) (h : Runs g l budget reply l') (a : Accepted reply) where
  accepted : (Both g × (impossible_for g (length l.rows) (used_in l) l.held ≡ false)) × (l' ≡ holding (after g l budget) l)
  accepted =
      let u = accepted-leaves reply _ [] (holding (after g l budget) l) l l' h a in
      ((run-passes g (length l.rows) (used_in l) l.held).0 u.0, u.1)

  pub ran-both : Both g
  ran-both = accepted.0.0

  pub ran-possible : Possible g.ls (left_of g).count (right_of g).count (room_of (length l.rows)) (used_in l) l.held
  ran-possible = (possible-iff g.ls (left_of g).count (right_of g).count (room_of (length l.rows)) (used_in l) l.held).0 accepted.0.1

  pub ran-holding : l' ≡ holding (after g l budget) l
  ran-holding = accepted.1

  pub ran-used : used_in l' ≡ (after g l budget).rows
  ran-used = ap used_in ran-holding ∙ used-holding (after g l budget) l

  pub ran-held : l'.held ≡ record_of (after g l budget)
  ran-held = ap (λ (m : Lent). m.held) ran-holding

  -- what holds of the state holds of what is left
  pub ran-is : (P : List Row → Run → Type 0) → P (after g l budget).rows (record_of (after g l budget)) → P (used_in l') l'.held
  ran-is P p = subst (λ (rows : List Row). P rows l'.held) (sym ran-used) (subst (λ (held : Run). P (after g l budget).rows held) (sym ran-held) p)

  -- the used rows are as many as the record says
  pub lent-used : length (used_in l) ≡ l.held.used
  lent-used =
      length-take-le l.held.used l.rows (omega (arith, ran-possible.within, (room-lent (length l.rows)).0))

  -- a run that is not included has a row to settle
  pub lent-unsettled : l.held.outcome ≢ 1 → l.held.settled < length (used_in l)
  lent-unsettled z = let ne : l.held.settled ≡ l.held.used → ⊥ = λ q. z (ran-possible.all q) in omega (arith, ran-possible.settled, lent-used)

-- ---- the ways of a call: nothing changes, or steps are taken
run-cases : (left right : Side) (room : ℕ) (Q : ℕ → State → Type 0) (st : State)
    → ((budget : ℕ) → (st.outcome ≡ 1) ⊎ (st.outcome ≡ 2) → Q budget st) → Q 0 st
    → ((b : ℕ) → st.outcome ≢ 1 → st.outcome ≢ 2 → Q (suc b) (steps left right room (suc b) st))
    → (budget : ℕ) → Q budget (run left right room budget st)
unfolding run steps
run-cases left right room Q st decided none some budget = by (eqb st.outcome 1 || eqb st.outcome 2) refl budget
  where
    by : (b : Bool) → (eqb st.outcome 1 || eqb st.outcome 2) ≡ b → (budget : ℕ) → Q budget (cond b st (steps left right room budget st))
    by true e budget =
        decided budget (⊎_elim (λ p. inl (eqb-true _ _ p)) (λ p. inr (eqb-true _ _ p)) ((or_some (eqb st.outcome 1) (eqb st.outcome 2)).0 e))
    by false e zero = none
    by false e (suc b) = let u = (or-none (eqb st.outcome 1) (eqb st.outcome 2)).0 e in some b (eqb-false _ _ u.0) (eqb-false _ _ u.1)

-- of the state that a call leaves
pub after-cases : (g : Given) (l : Lent) (Q : ℕ → State → Type 0)
    → ((budget : ℕ) → (l.held.outcome ≡ 1) ⊎ (l.held.outcome ≡ 2) → Q budget (before l)) → Q 0 (before l)
    → ((b : ℕ) → l.held.outcome ≢ 1 → l.held.outcome ≢ 2 → (st : State)
    → (l.held.settled < length (used_in l) → Went (left_of g) (right_of g) (room_of (length l.rows)) (suc b) (before l) st) → Q (suc b) st)
    → (budget : ℕ) → Q budget (after g l budget)
unfolding run_after
after-cases g l Q decided none some =
    run-cases (left_of g) (right_of g) (room_of (length l.rows)) Q (before l) decided none
    (λ b p q. some b p q (steps (left_of g) (right_of g) (room_of (length l.rows)) (suc b) (before l))
    (steps-went (left_of g) (right_of g) (room_of (length l.rows)) b (before l)))
