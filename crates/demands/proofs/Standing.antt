-- What every state of a chain keeps: the sides pass, the rows are kept, what is settled is closed, and the outcome says how far the
-- run is. Start makes such a state, an accepted run call keeps it, and a refused call leaves everything.
use Prim.Native.Nat.{ℕ, ◌+◌, ◌≤◌, ◌<◌}
use mathlib.Core.Path.{◌≡◌, refl, sym, ap, subst}
use mathlib.Core.Bool.{true}
use mathlib.Core.Logic.{◌⊎◌, inl, inr, ◌≢◌}
use mathlib.Core.List.{List, []}
use native.Mathlib.Decide.{dec_lt, ℕ_discrete}
use native.Mathlib.Omega.{arith}
use lib.ListN.{length}
use Rattle.goals.specs.declared.Row.{Row}
use Rattle.goals.specs.declared.Run.{Run}
use Rattle.goals.specs.Goals.{bad}
use Rattle.goals.specs.Run.{State, started}
use Rattle.goals.specs.Refusals.{Given, left_of, right_of, record_of, start_refusal, run_refusal, Reply}
use Rattle.demands.specs.Calls.{Lent, lent, used_in, holding, Starts, Runs, ours, Accepted, Refused}
use Rattle.demands.specs.Demands.{row_of, Chain, begun, goes, waits, strays, traced}
use Rattle.demands.proofs.Both.{Both}
use Rattle.demands.proofs.Accepting.{start-passes, accepted-leaves, refused-leaves}
use Rattle.demands.proofs.Keeping.{Kept, kept-start}
use Rattle.demands.proofs.Stepping.{Closed, closed-extends, Went}
use Rattle.demands.proofs.Calling.{before, after, after-cases, used-holding, ran-is}

pub record Standing (g : Given) (used : List Row) (held : Run) : Type 0 where
  pub both : Both g
  pub count : held.used ≡ length used
  pub kept : Kept (left_of g) (right_of g) used
  pub closed : (i : ℕ) → i < held.settled → Closed (left_of g) (right_of g) used i
  pub few : held.outcome ≤ 3
  pub undone : held.outcome ≢ 1 → held.settled < length used
  pub done : held.outcome ≡ 1 → held.settled ≡ length used
  pub refuted : held.outcome ≡ 2 → bad (left_of g) (right_of g) (row_of used held.settled) ≡ true

-- ---- start
module _ (g : Given) (l l' : Lent) (reply : Reply) (h : Starts g l reply l') (a : Accepted reply) where
  pub start-holding : Both g × (l' ≡ holding started l)
  start-holding =
      let u = accepted-leaves reply (start_refusal g (length l.rows)) [] (holding started l) l l' h a in
      (((start-passes g (length l.rows)).0 u.0).0, u.1)

  pub start-held : l'.held ≡ record_of started
  start-held = ap (λ (m : Lent). m.held) start-holding.1

  pub start-standing : Standing g (used_in l') l'.held
  start-standing =
      subst (λ (m : Lent). Standing g (used_in m) m.held) (sym start-holding.1)
      (subst (λ (rows : List Row). Standing g rows (record_of started)) (sym (used-holding started l))
      (record {
        both = start-holding.0;
        count = refl;
        kept = kept-start (left_of g) (right_of g);
        closed = λ i k. absurd (omega (arith, k));
        few = omega arith;
        undone = λ e. omega arith;
        done = λ e. absurd (omega (arith, e));
        refuted = λ e. absurd (omega (arith, e));
      }))

-- ---- an accepted run call
went-standing : (g : Given) (l : Lent) (room n : ℕ) (st : State) → Standing g (used_in l) l.held → Went (left_of g) (right_of g) room n (before l) st → Standing g st.rows (record_of st)
went-standing g l room n st s w =
    record {
      both = s.both;
      count = refl;
      kept = w.kept s.kept;
      closed = λ i k. closed_at i k (dec_lt i l.held.settled);
      few = w.few;
      undone = w.undone;
      done = w.done;
      refuted = λ e. (w.refuted e).0;
    }
  where
    old : (i : ℕ) → i < l.held.settled → i < length (used_in l)
    old i k = go (ℕ_discrete l.held.outcome 1)
      where
        go : Dec (l.held.outcome ≡ 1) → i < length (used_in l)
        go (yes e) = omega (arith, k, s.done e)
        go (no e) = omega (arith, k, s.undone e)

    closed_at : (i : ℕ) → i < st.settled → Dec (i < l.held.settled) → Closed (left_of g) (right_of g) st.rows i
    closed_at i k (yes e) = closed-extends (left_of g) (right_of g) (used_in l) st.rows i w.extends (old i e) (s.closed i e)
    closed_at i k (no e) = w.closed i (omega (arith, e)) k

after-standing : (g : Given) (l : Lent) → Standing g (used_in l) l.held → (budget : ℕ) → Standing g (after g l budget).rows (record_of (after g l budget))
after-standing g l s =
    after-cases g l (λ (b : ℕ) (st : State). Standing g st.rows (record_of st)) (λ b e. same) same
    (λ b p q st w. went-standing g l _ _ st s (w (s.undone p)))
  where
    same : Standing g (used_in l) (record_of (before l))
    same = record { both = s.both; count = refl; kept = s.kept; closed = s.closed; few = s.few; undone = s.undone; done = s.done; refuted = s.refuted }

pub run-standing : (g : Given) (l l' : Lent) (budget : ℕ) (reply : Reply) → Runs g l budget reply l' → Accepted reply
    → Standing g (used_in l) l.held → Standing g (used_in l') l'.held
run-standing g l l' budget reply h a s = ran-is g l l' budget reply h a (Standing g) (after-standing g l s budget)

-- ---- a refused call
refused-stays : (g : Given) (l l' : Lent) (budget : ℕ) (reply : Reply) → Starts g l reply l' ⊎ Runs g l budget reply l' → Refused reply → l' ≡ l
refused-stays g l l' budget reply (inl h) r = refused-leaves reply (start_refusal g (length l.rows)) [] (holding started l) l l' h r
refused-stays g l l' budget reply (inr h) r =
    refused-leaves reply (run_refusal g (length l.rows) (used_in l) l.held) [] (holding (after g l budget) l) l l' h r

-- ---- the chain
-- what holds after an accepted start and is kept by an accepted run call holds of every state
pub chain-keeps : (g : Given) (least : ℕ) (P : List Row → Run → ℕ → Type 0)
    → ((l l' : Lent) (reply : Reply) → Starts g l reply l' → Accepted reply → P (used_in l') l'.held 0)
    → ((l l' : Lent) (budget sum : ℕ) (reply : Reply) → least ≤ length l.rows → Runs g l budget reply l' → Accepted reply → P (used_in l) l.held sum
    → P (used_in l') l'.held (sum + budget))
    → (sum : ℕ) (used : List Row) (held : Run) → Chain ours g least used held sum → P used held sum
chain-keeps g least P starts runs _ _ _ (begun {l} {l'} {reply} h a) = starts l l' reply h a
chain-keeps g least P starts runs _ _ _ (goes {used} {rows} {held} {sum} {budget} {reply} {l'} c e m h a) =
    runs (lent rows held) l' budget sum reply m h a (subst (λ (w : List Row). P w held sum) (sym e) (chain-keeps g least P starts runs sum used held c))
chain-keeps g least P starts runs _ _ _ (waits {used} {rows} {held} {sum} {budget} {other} {reply} {l'} c e h f) =
    subst (λ (l : Lent). P (used_in l) l.held sum) (sym (refused-stays other (lent rows held) l' budget reply h f))
    (subst (λ (w : List Row). P w held sum) (sym e) (chain-keeps g least P starts runs sum used held c))
chain-keeps g least P starts runs _ _ _ (strays {used} {rows} {held} {sum} {budget} {other} {reply} {l'} c h f) =
    subst (λ (l : Lent). P used l.held sum) (sym (refused-stays other (lent rows held) l' budget reply h f)) (chain-keeps g least P starts runs sum used held c)
chain-keeps g least P starts runs _ _ _ (traced {used} {rows} {held} {sum} c h) = chain-keeps g least P starts runs sum used held c

pub chain-standing : (g : Given) (least sum : ℕ) (used : List Row) (held : Run) → Chain ours g least used held sum → Standing g used held
chain-standing g least =
    chain-keeps g least (λ (used : List Row) (held : Run) (sum : ℕ). Standing g used held) (λ l l' reply h a. start-standing g l l' reply h a)
    (λ l l' budget sum reply m h a s. run-standing g l l' budget reply h a s)
