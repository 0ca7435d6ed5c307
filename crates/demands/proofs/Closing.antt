-- Demand 3, "each settled step closes one goal" and "no goal is entered twice": of any accepted run call, forged records among them,
-- and of the states of a chain.
use Prim.Native.Nat.{ℕ, suc, ◌^◌, ◌≤◌, ◌<◌}
use mathlib.Core.Path.{◌≡◌, sym, ap, subst, ◌∙◌}
use mathlib.Core.Logic.{◌⊎◌, inl, inr, ⊎_elim, ◌≢◌}
use mathlib.Core.List.{List}
use native.Mathlib.Omega.{arith}
use lib.ListN.{length, take, drop}
use lib.Seq.{take_at, drop-append_seam}
use Rattle.effect.proofs.Front.{length_front, front-taken}
use Rattle.goals.specs.declared.Row.{Row}
use Rattle.goals.specs.declared.Run.{Run}
use Rattle.goals.specs.Run.{State}
use Rattle.goals.specs.Refusals.{Given, left_of, right_of, room_of, record_of, Reply}
use Rattle.demands.specs.Calls.{Lent, lent, used_in, holding, ours, Runs, Accepted}
use Rattle.demands.specs.Demands.{row_of, Has, Follows, Undecided, Settles, StepsClose, StartLeaves, Enters, RowsEntered, Idles, GoalsDiffer, Stays, RowsStay}
use Rattle.demands.proofs.Rows.{Extends, extends-refl}
use Rattle.demands.proofs.Both.{Both}
use Rattle.demands.proofs.Reaching.{left-signals, left-match, follows-iff}
use Rattle.demands.proofs.Stepping.{Closed, Went}
use Rattle.demands.proofs.Calling.{before, after, after-cases, room-lent, used-holding, ran-both, ran-possible, ran-holding, ran-is, lent-used, lent-unsettled}
use Rattle.demands.proofs.Standing.{chain-standing, start-holding}

undecided-not : (r : Run) → Undecided r → (r.outcome ≢ 1) × (r.outcome ≢ 2)
undecided-not r (inl e) = ((λ q. omega (arith, q, e)), (λ q. omega (arith, q, e)))
undecided-not r (inr e) = ((λ q. omega (arith, q, e)), (λ q. omega (arith, q, e)))

pub not-decided : (r : Run) → Undecided r → (r.outcome ≡ 1) ⊎ (r.outcome ≡ 2) → ⊥
not-decided r u = let z = undecided-not r u in ⊎_elim z.0 z.1

-- a closed row's followers stand in rows
closed-follows : (g : Given) → Both g → (rows : List Row) (i x p S : ℕ) → Closed (left_of g) (right_of g) rows i → Follows g (row_of rows i) x p S → Has rows p S
closed-follows g both rows i x p S c f =
    let u = (follows-iff g (row_of rows i) x p S).0 f in
    subst (λ (T : ℕ). Has rows p T) (sym u.3) (c.followed x p (rw (left-signals g) u.0) (left-match g both x p u.2).2 u.1 u.2)

pub steps-close : StepsClose ours
steps-close g l l' budget reply h a u =
    ran-is g l l' budget reply h a (Settles g l budget)
    (after-cases g l (λ (b : ℕ) (st : State). Settles g l b st.rows (record_of st))
    (λ b d. absurd (not-decided l.held u d))
    (omega arith, omega arith, (λ e. omega arith), (λ e. absurd (not-decided l.held u (inr e))), (λ i p q. absurd (omega (arith, p, q))))
    (λ b p q st w. goes b st (w (lent-unsettled g l l' budget reply h a p)))
    budget)
  where
    goes : (b : ℕ) (st : State) → Went (left_of g) (right_of g) (room_of (length l.rows)) (suc b) (before l) st → Settles g l (suc b) st.rows (record_of st)
    goes b st w =
        (w.more, w.paid, w.all, (λ e. let r = w.refuted e in (r.1, r.0)), λ i p q. let c = w.closed i p q in (c.fine, λ x p S f. closed-follows g (ran-both g l l' budget reply h a) st.rows i x p S c f))

pub goals-differ : GoalsDiffer ours
goals-differ g least sum used held c = (chain-standing g least sum used held c).kept.once

-- ---- the new rows
module _ (g : Given) (l l' : Lent) (budget : ℕ) (reply : Reply) (h : Runs g l budget reply l') (a : Accepted reply) where
  -- nothing is new where nothing is done
  enters_none : Enters g l (used_in l) (record_of (before l))
  enters_none i p q = absurd (omega (arith, p, q, lent-used g l l' budget reply h a))

  enters-went : (n : ℕ) (st : State) → Went (left_of g) (right_of g) (room_of (length l.rows)) n (before l) st → Enters g l st.rows (record_of st)
  enters-went n st w i p q =
      let old = lent-used g l l' budget reply h a in
      let (from, upto, full) = w.from_step i (omega (arith, p, old)) q in
      let (low, goes) = w.born (length (used_in l)) (λ j b c. absurd (omega (arith, b, c))) i (omega (arith, p, old)) q in (
        from,
        upto,
        full,
        (follows-iff g _ _ _ _).1 (subst (λ (s : ℕ). (row_of st.rows i).letter < 2 ^ s) (left-signals g) goes.below, goes.follows, goes.matches, goes.spreads),
      )

  enters : Enters g l (used_in l') l'.held
  enters =
      ran-is g l l' budget reply h a (Enters g l)
      (after-cases g l (λ (b : ℕ) (st : State). Enters g l st.rows (record_of st)) (λ b d. enters_none) enters_none
      (λ b p q st w. enters-went (suc b) st (w (lent-unsettled g l l' budget reply h a p)))
      budget)

pub rows-entered : RowsEntered ours
rows-entered g l l' budget reply h a = enters g l l' budget reply h a

pub start-leaves : StartLeaves ours
start-leaves g l l' reply h a = (start-holding g l l' reply h a).1

-- ---- what stays
module _ (g : Given) (l l' : Lent) (budget : ℕ) (reply : Reply) (h : Runs g l budget reply l') (a : Accepted reply) where
  abbrev rows : List Row
  rows = (after g l budget).rows

  abbrev rest : List Row
  rest = drop (length rows) l.rows

  extended : Extends (used_in l) rows
  extended =
      after-cases g l (λ (b : ℕ) (st : State). Extends (used_in l) st.rows) (λ b d. extends-refl (used_in l)) (extends-refl (used_in l))
      (λ b p q st w. (w (lent-unsettled g l l' budget reply h a p)).extends) budget

  within : length rows ≤ room_of (length l.rows)
  within =
      let fits : length (used_in l) ≤ room_of (length l.rows) = rw (lent-used g l l' budget reply h a) (ran-possible g l l' budget reply h a).within in
      after-cases g l (λ (b : ℕ) (st : State). length st.rows ≤ room_of (length l.rows)) (λ b d. fits) fits
      (λ b p q st w. (w (lent-unsettled g l l' budget reply h a p)).within fits) budget

  older : take l.held.used rows ≡ used_in l
  older = let (more, e) = extended in ap (take l.held.used) (sym e) ∙ take_at (used_in l) more l.held.used (lent-used g l l' budget reply h a)

  stays : Stays l l'
  stays =
      subst (Stays l) (sym (ran-holding g l l' budget reply h a))
      (ap (take l.held.used) (used-holding (after g l budget) l) ∙ older, within, length_front rows l.rows short, drop-append_seam rows rest)
    where
      short : length rows ≤ length l.rows
      short = omega (arith, within, (room-lent (length l.rows)).0)

  -- the state that was lent is what was lent
  same-held : holding (before l) l ≡ l
  same-held = λ i. lent
      (front-taken l.held.used l.rows (omega (arith, (ran-possible g l l' budget reply h a).within, (room-lent (length l.rows)).0)) i)
      (record { settled = l.held.settled; used = lent-used g l l' budget reply h a i; outcome = l.held.outcome })

  idle : (l.held.outcome ≡ 1) ⊎ ((l.held.outcome ≡ 2) ⊎ (budget ≡ 0)) → l' ≡ l
  idle d =
      ran-holding g l l' budget reply h a
      ∙ after-cases g l (λ (b : ℕ) (st : State). (l.held.outcome ≡ 1) ⊎ ((l.held.outcome ≡ 2) ⊎ (b ≡ 0)) → holding st l ≡ l)
      (λ b e f. same-held) (λ f. same-held)
      (λ b p q st w f. absurd (⊎_elim p (⊎_elim q (λ z. omega (arith, z))) f))
      budget d

pub rows_stay : RowsStay ours
rows_stay g l l' budget reply h a = stays g l l' budget reply h a

pub idles : Idles ours
idles g l l' budget reply h a d = idle g l l' budget reply h a d
