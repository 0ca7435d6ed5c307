-- Demand 3, "however divided": b + c steps are b steps and c more; a run that is decided stays, and one that is stuck is stuck again
-- at the same goal.
use Prim.Native.Nat.{ℕ, zero, suc, ◌+◌, ◌<◌}
use mathlib.Core.Path.{◌≡◌, refl, sym, ap, ap₂, subst, ◌∙◌}
use mathlib.Core.Bool.{Bool, true, cond, ◌||◌}
use mathlib.Core.Logic.{◌⊎◌, inl, inr, ◌≢◌}
use mathlib.Core.List.{List}
use native.Mathlib.Decide.{ℕ_discrete}
use native.Mathlib.Omega.{arith}
use lib.Dec.{eqb}
use lib.ListN.{length, take}
use borrow.Author.Tests.{eq-eqb, ne_eqb}
use Rattle.effect.proofs.Laws.{or-none, or_some}
use Rattle.places.specs.declared.Side.{Side}
use Rattle.goals.specs.declared.Row.{Row}
use Rattle.goals.specs.declared.Run.{Run}
use Rattle.goals.specs.Goals.{candidates, Entered}
use Rattle.goals.specs.Run.{State, state, settle, step, steps, run}
use Rattle.goals.specs.Refusals.{Given, left_of, right_of, room_of, record_of, Reply, run_after}
use Rattle.columns.proofs.Budget.{steps-more, steps-stop}
use Rattle.demands.specs.Calls.{Lent, lent, used_in, ours, Runs, Accepted}
use Rattle.demands.specs.Demands.{row_of, Divided}
use Rattle.demands.proofs.Entering.{full-again}
use Rattle.demands.proofs.Stepping.{Stuck, Went, steps-went}
use Rattle.demands.proofs.Calling.{before, after, ran-both, ran-possible, ran-used, ran-held, lent-unsettled}
use Rattle.demands.proofs.Room.{Four, four}
use Rattle.demands.proofs.Going.{PossibleFor, run-goes-on, ran-possible-after}

module _ (left right : Side) (room : ℕ) where
  -- ---- steps after steps: those of an open run go on,
  steps-open : (a b : ℕ) (st : State) → (steps left right room a st).outcome ≡ 0 → steps left right room (a + b) st ≡ steps left right room b (steps left right room a st)
  unfolding steps
  steps-open zero b st z = ap (λ (n : ℕ). steps left right room n st) (let e : zero + b ≡ b = omega arith in e)
  steps-open (suc a) b st z = go (ℕ_discrete (step left right room st).outcome 0) (steps-open a b (step left right room st))
    where
      go : Dec ((step left right room st).outcome ≡ 0)
          → ((steps left right room a (step left right room st)).outcome ≡ 0
          → steps left right room (a + b) (step left right room st) ≡ steps left right room b (steps left right room a (step left right room st)))
          → steps left right room (suc a + b) st ≡ steps left right room b (steps left right room (suc a) st)
      go (yes e) rest =
          ap (λ (n : ℕ). steps left right room n st) (let q : suc a + b ≡ suc (a + b) = omega arith in q)
          ∙ steps-more left right room (a + b) st e
          ∙ rest (ap (λ (s : State). s.outcome) (sym (steps-more left right room a st e)) ∙ z)
          ∙ ap (steps left right room b) (sym (steps-more left right room a st e))
      go (no e) rest = absurd (e (ap (λ (s : State). s.outcome) (sym (steps-stop left right room a st e)) ∙ z))

  -- and those of one that has ended are no more
  steps-ended : (a b : ℕ) (st : State) → (steps left right room (suc a) st).outcome ≢ 0 → steps left right room (suc (a + b)) st ≡ steps left right room (suc a) st
  unfolding steps
  steps-ended zero b st z = go (ℕ_discrete (step left right room st).outcome 0)
    where
      go : Dec ((step left right room st).outcome ≡ 0) → steps left right room (suc (zero + b)) st ≡ steps left right room 1 st
      go (yes e) = absurd (z (ap (λ (s : State). s.outcome) (steps-more left right room 0 st e) ∙ e))
      go (no e) = steps-stop left right room (zero + b) st e ∙ sym (steps-stop left right room 0 st e)
  steps-ended (suc a) b st z = go (ℕ_discrete (step left right room st).outcome 0) (steps-ended a b (step left right room st))
    where
      go : Dec ((step left right room st).outcome ≡ 0)
          → ((steps left right room (suc a) (step left right room st)).outcome ≢ 0
          → steps left right room (suc (a + b)) (step left right room st) ≡ steps left right room (suc a) (step left right room st))
          → steps left right room (suc (suc a + b)) st ≡ steps left right room (suc (suc a)) st
      go (yes e) rest =
          ap (λ (n : ℕ). steps left right room (suc n) st) (let q : suc a + b ≡ suc (a + b) = omega arith in q)
          ∙ steps-more left right room (suc (a + b)) st e
          ∙ rest (λ q. z (ap (λ (s : State). s.outcome) (steps-more left right room (suc a) st e) ∙ q))
          ∙ sym (steps-more left right room (suc a) st e)
      go (no e) rest = steps-stop left right room (suc a + b) st e ∙ sym (steps-stop left right room (suc a) st e)

  -- a stuck run is stuck again
  stuck-step : (n : ℕ) (st st' : State) → st'.outcome ≡ 3 → Stuck left right room n st st' → step left right room st' ≡ st'
  unfolding step settle
  stuck-step n st st' e s =
      ap₂ (λ (b : Bool) (x : Entered). cond b (state st'.rows st'.settled 2)
      (cond x.full (state x.rows st'.settled 3) (state x.rows (suc st'.settled) (cond (eqb (suc st'.settled) (length x.rows)) 1 0))))
      s.fine
      (full-again room (candidates left right st'.settled (row_of st'.rows st'.settled)) st'.rows s.lacked s.filled s.next s.new)
      ∙ (λ i. state st'.rows st'.settled (sym e i))

  stuck-again : (n : ℕ) (st st' : State) → st'.outcome ≡ 3 → Stuck left right room n st st' → (c : ℕ) → steps left right room c st' ≡ st'
  unfolding steps
  stuck-again n st st' e s zero = refl
  stuck-again n st st' e s (suc c) =
      let same = stuck-step n st st' e s in
      steps-stop left right room c st' (λ q. absurd (omega (arith, e, ap (λ (x : State). x.outcome) (sym same) ∙ q))) ∙ same

  -- ---- a call after a call
  run-decided : (c : ℕ) (st : State) → (st.outcome ≡ 1) ⊎ (st.outcome ≡ 2) → run left right room c st ≡ st
  unfolding run
  run-decided c st d = ap (λ (b : Bool). cond b st (steps left right room c st)) (test d)
    where
      test : (st.outcome ≡ 1) ⊎ (st.outcome ≡ 2) → (eqb st.outcome 1 || eqb st.outcome 2) ≡ true
      test (inl e) = (or_some (eqb st.outcome 1) (eqb st.outcome 2)).1 (inl (eq-eqb _ _ e))
      test (inr e) = (or_some (eqb st.outcome 1) (eqb st.outcome 2)).1 (inr (eq-eqb _ _ e))

  run-undecided : (c : ℕ) (st : State) → st.outcome ≢ 1 → st.outcome ≢ 2 → run left right room c st ≡ steps left right room c st
  unfolding run
  run-undecided c st p q =
      ap (λ (b : Bool). cond b st (steps left right room c st)) ((or-none (eqb st.outcome 1) (eqb st.outcome 2)).1 (ne_eqb _ _ p, ne_eqb _ _ q))

  -- c steps more, after one or more of them
  steps-after : (b c : ℕ) (st st' : State) → steps left right room (suc b) st ≡ st' → Went left right room (suc b) st st' → steps left right room (suc b + c) st ≡ run left right room c st'
  steps-after b c st st' is w = by (four st'.outcome w.few)
    where
      ended : st'.outcome ≢ 0 → steps left right room (suc b + c) st ≡ st'
      ended z =
          ap (λ (n : ℕ). steps left right room n st) (let e : suc b + c ≡ suc (b + c) = omega arith in e)
          ∙ steps-ended b c st (λ e. z (ap (λ (x : State). x.outcome) (sym is) ∙ e)) ∙ is

      by : Four st'.outcome → steps left right room (suc b + c) st ≡ run left right room c st'
      by (inl e) =
          steps-open (suc b) c st (ap (λ (x : State). x.outcome) is ∙ e) ∙ ap (steps left right room c) is
          ∙ sym (run-undecided c st' (λ z. omega (arith, z, e)) (λ z. omega (arith, z, e)))
      by (inr (inl e)) = ended (λ z. omega (arith, z, e)) ∙ sym (run-decided c st' (inl e))
      by (inr (inr (inl e))) = ended (λ z. omega (arith, z, e)) ∙ sym (run-decided c st' (inr e))
      by (inr (inr (inr e))) =
          ended (λ z. omega (arith, z, e))
          ∙ sym (run-undecided c st' (λ z. omega (arith, z, e)) (λ z. omega (arith, z, e)) ∙ stuck-again (suc b) st st' e (w.stuck e) c)

  steps-add : (b c : ℕ) (st : State) → st.outcome ≢ 1 → st.outcome ≢ 2 → st.settled < length st.rows
      → steps left right room (b + c) st ≡ run left right room c (steps left right room b st)
  unfolding steps
  steps-add zero c st p q l = ap (λ (n : ℕ). steps left right room n st) (let e : zero + c ≡ c = omega arith in e) ∙ sym (run-undecided c st p q)
  steps-add (suc b) c st p q l = steps-after b c st (steps left right room (suc b) st) refl (steps-went left right room b st l)

  run-add : (b c : ℕ) (st : State) → (st.outcome ≢ 1 → st.settled < length st.rows) → run left right room (b + c) st ≡ run left right room c (run left right room b st)
  run-add b c st l = by (ℕ_discrete st.outcome 1) (ℕ_discrete st.outcome 2)
    where
      decided : (st.outcome ≡ 1) ⊎ (st.outcome ≡ 2) → run left right room (b + c) st ≡ run left right room c (run left right room b st)
      decided d = run-decided (b + c) st d ∙ sym (ap (run left right room c) (run-decided b st d) ∙ run-decided c st d)

      by : Dec (st.outcome ≡ 1) → Dec (st.outcome ≡ 2) → run left right room (b + c) st ≡ run left right room c (run left right room b st)
      by (yes p) q = decided (inl p)
      by (no p) (yes q) = decided (inr q)
      by (no p) (no q) = run-undecided (b + c) st p q ∙ steps-add b c st p q (l p) ∙ ap (run left right room c) (sym (run-undecided b st p q))

module _ (g : Given) (l l₁ l₂ l' : Lent) (rows : List Row) (b c : ℕ) (reply₁ reply₂ reply : Reply) (h₁ : Runs g l b reply₁ l₁) (a₁ : Accepted reply₁)
    (begins : take l₁.held.used rows ≡ used_in l₁) (same : room_of (length rows) ≡ room_of (length l.rows))
    (h₂ : Runs g (lent rows l₁.held) c reply₂ l₂) (h : Runs g l (b + c) reply l') where
  accepted₂ : Accepted reply₂
  accepted₂ =
      run-goes-on g rows l₁.held c reply₂ l₂ (ran-both g l l₁ b reply₁ h₁ a₁)
      (subst (λ (room : ℕ). PossibleFor g room (take l₁.held.used rows) l₁.held) (sym same)
      (subst (λ (u : List Row). PossibleFor g (room_of (length l.rows)) u l₁.held) (sym begins) (ran-possible-after g l l₁ b reply₁ h₁ a₁)))
      h₂

  accepted : Accepted reply
  accepted = run-goes-on g l.rows l.held (b + c) reply l' (ran-both g l l₁ b reply₁ h₁ a₁) (ran-possible g l l₁ b reply₁ h₁ a₁) h

  -- the second call begins where the first ended
  second : before (lent rows l₁.held) ≡ after g l b
  second = λ i. state
      ((begins ∙ ran-used g l l₁ b reply₁ h₁ a₁) i)
      (ap (λ (r : Run). r.settled) (ran-held g l l₁ b reply₁ h₁ a₁) i)
      (ap (λ (r : Run). r.outcome) (ran-held g l l₁ b reply₁ h₁ a₁) i)

  one_state : after g (lent rows l₁.held) c ≡ after g l (b + c)
  unfolding run_after
  one_state =
      ap₂ (λ (room : ℕ) (st : State). run (left_of g) (right_of g) room c st) same second
      ∙ sym (run-add (left_of g) (right_of g) (room_of (length l.rows)) b c (before l) (lent-unsettled g l l₁ b reply₁ h₁ a₁))

  divides : Accepted reply₂ × Accepted reply × (used_in l₂ ≡ used_in l') × (l₂.held ≡ l'.held)
  divides = (
    accepted₂,
    accepted,
    ran-used g (lent rows l₁.held) l₂ c reply₂ h₂ accepted₂ ∙ ap (λ (st : State). st.rows) one_state ∙ sym (ran-used g l l' (b + c) reply h accepted),
    ran-held g (lent rows l₁.held) l₂ c reply₂ h₂ accepted₂ ∙ ap record_of one_state ∙ sym (ran-held g l l' (b + c) reply h accepted),
  )

pub divided : Divided ours
divided g l l₁ l₂ l' rows b c reply₁ reply₂ reply h₁ a₁ begins same h₂ h = divides g l l₁ l₂ l' rows b c reply₁ reply₂ reply h₁ a₁ begins same h₂ h
