-- Demand 3, room and budget: the goals that there can be are 1 + m × 2^k, so with that much room none is ever lacked, and an open
-- run has settled a row for each step of its budgets. And what "no room" says of any run call.
use Prim.Native.Nat.{ℕ, suc, ◌+◌, ◌^◌, ◌≤◌, ◌<◌}
use mathlib.Core.Path.{◌≡◌, refl, sym, ap, subst, ◌∙◌}
use mathlib.Core.Bool.{true≢false}
use mathlib.Core.Logic.{◌⊎◌, inl, inr, ⊎_elim, ◌↔◌, ◌≢◌}
use mathlib.Core.List.{List}
use native.Mathlib.Decide.{ℕ_discrete}
use native.Mathlib.Omega.{arith}
use lib.ListN.{length}
use Rattle.goals.specs.declared.Row.{Row}
use Rattle.goals.specs.declared.Run.{Run}
use Rattle.goals.specs.Run.{State}
use Rattle.goals.specs.Refusals.{Given, left_of, right_of, room_of, record_of, Reply}
use Rattle.places.specs.Readings.{post}
use Rattle.demands.specs.Calls.{Lent, used_in, ours, Runs, Accepted}
use Rattle.demands.specs.Demands.{row_of, most, Chain, RoomAndBudget, Lacks, NoRoom, BudgetEnds}
use Rattle.demands.proofs.Both.{Both}
use Rattle.demands.proofs.Possible.{Possible}
use Rattle.demands.proofs.Bound.{Late, goals-bound}
use Rattle.demands.proofs.Rows.{length-snoc, unknown, candidate-of}
use Rattle.demands.proofs.Reaching.{left-signals, left-count, right-count, left-match, follows-iff, post-late}
use Rattle.demands.proofs.Keeping.{Goes, Kept, kept-snoc, candidate-goes}
use Rattle.demands.proofs.Stepping.{Stuck, Went}
use Rattle.demands.proofs.Calling.{before, after-cases, ran-is, ran-possible, lent-used, lent-unsettled}
use Rattle.demands.proofs.Standing.{Standing, start-holding, start-standing, run-standing, chain-keeps}
use Rattle.demands.proofs.Closing.{not-decided}

-- ---- how many rows there can be
pub goes-late : (g : Given) → Both g → (rs : List Row) (c : Row) → Goes (left_of g) (right_of g) rs c → Late (left_of g).count (right_of g).count c.place c.set
goes-late g both rs c b =
    let m = left-match g both c.letter c.place b.matches in
    let s = post-late g (row_of rs c.parent).set c.letter in
    (m.0, m.1, rw b.spreads s.0, rw b.spreads s.1)

rows_bound : (g : Given) → Both g → (rs : List Row) → Kept (left_of g) (right_of g) rs → length rs ≤ most g
rows_bound g both rs k =
    rw (sym (left-count g), sym (right-count g))
    (goals-bound (left_of g).count (right_of g).count (length rs) (λ i. (row_of rs i).place) (λ i. (row_of rs i).set)
    (ap (λ (w : Row). w.place) k.first) (λ i h l. goes-late g both rs (row_of rs i) (k.born i h l).1) k.once)

-- with room for them all a run is never stuck
never_stuck : (g : Given) → Both g → (room n : ℕ) → most g ≤ room → (st st' : State) → Kept (left_of g) (right_of g) st'.rows → st'.settled < length st'.rows
    → Stuck (left_of g) (right_of g) room n st st' → ⊥
never_stuck g both room n m st st' k h s =
    let bound = rows_bound g both _
    (kept-snoc (left_of g) (right_of g) st'.rows s.lacked k (candidate-goes (left_of g) (right_of g) st'.rows st'.settled s.lacked h s.next) s.new) in
    omega (arith, bound, length-snoc st'.rows s.lacked, s.filled)

-- an outcome is one of four
abbrev pub Four : ℕ → Type 0
Four o = (o ≡ 0) ⊎ ((o ≡ 1) ⊎ ((o ≡ 2) ⊎ (o ≡ 3)))

pub four : (o : ℕ) → o ≤ 3 → Four o
four o h = go (ℕ_discrete o 0) (ℕ_discrete o 1) (ℕ_discrete o 2)
  where
    go : Dec (o ≡ 0) → Dec (o ≡ 1) → Dec (o ≡ 2) → Four o
    go (yes a) q r = inl a
    go (no a) (yes b) r = inr (inl b)
    go (no a) (no b) (yes c) = inr (inr (inl c))
    go (no a) (no b) (no c) = inr (inr (inr (omega arith)))

-- ---- the budgets of a chain
-- not out of room, and where it is open a row is settled for each step
abbrev Fed : ℕ → Run → Type 0
Fed sum held = (held.outcome ≢ 3) × (held.outcome ≡ 0 → held.settled ≡ sum)

run-fed : (g : Given) (l l' : Lent) (budget sum : ℕ) (reply : Reply) → most g ≤ room_of (length l.rows) → Runs g l budget reply l' → Accepted reply
    → Standing g (used_in l) l.held → Fed sum l.held → Fed (sum + budget) l'.held
run-fed g l l' budget sum reply m h a s f =
    ran-is g l l' budget reply h a (λ (used : List Row) (held : Run). Fed (sum + budget) held)
    (after-cases g l (λ (b : ℕ) (st : State). Fed (sum + b) (record_of st))
    (λ b d. (f.0, λ e. absurd (⊎_elim (λ q. omega (arith, q, e)) (λ q. omega (arith, q, e)) d)))
    (f.0, λ e. omega (arith, f.1 e))
    (λ b p q st w. steps b p q st (w (s.undone p)))
    budget)
  where
    steps : (b : ℕ) → l.held.outcome ≢ 1 → l.held.outcome ≢ 2 → (st : State) → Went (left_of g) (right_of g) (room_of (length l.rows)) (suc b) (before l) st → Fed (sum + suc b) (record_of st)
    steps b p q st w = (
      (λ e. never_stuck g s.both (room_of (length l.rows)) (suc b) m (before l) st (w.kept s.kept) (w.undone (λ z. omega (arith, z, e))) (w.stuck e)),
      (λ e. omega (arith, w.all e, f.1 (entry (four l.held.outcome s.few)))),
    )
      where
        entry : Four l.held.outcome → l.held.outcome ≡ 0
        entry (inl z) = z
        entry (inr (inl z)) = absurd (p z)
        entry (inr (inr (inl z))) = absurd (q z)
        entry (inr (inr (inr z))) = absurd (f.0 z)

room-enough : (m n : ℕ) → m ≤ 65535 → m ≤ n → m ≤ room_of n
unfolding room_of
room-enough m n h k = omega arith

chain-fed : (g : Given) → most g ≤ 65535 → (sum : ℕ) (used : List Row) (held : Run) → Chain ours g (most g) used held sum → Standing g used held × Fed sum held
chain-fed g m =
    chain-keeps g (most g) (λ (used : List Row) (held : Run) (sum : ℕ). Standing g used held × Fed sum held)
    (λ l l' reply h a. (
      start-standing g l l' reply h a,
      subst (Fed 0) (sym (ap (λ (x : Lent). x.held) (start-holding g l l' reply h a).1)) ((λ e. omega (arith, e)), (λ e. refl)),
    ))
    (λ l l' budget sum reply b h a p. (
      run-standing g l l' budget reply h a p.0,
      run-fed g l l' budget sum reply (room-enough (most g) (length l.rows) m b) h a p.0 p.1,
    ))

pub room-and-budget : RoomAndBudget ours
room-and-budget g sum used held m c = (f.0, λ b. verdict b (four held.outcome s.few))
  where
    s : Standing g used held
    s = (chain-fed g m sum used held c).0

    f : Fed sum held
    f = (chain-fed g m sum used held c).1

    verdict : most g ≤ sum → Four held.outcome → (held.outcome ≡ 1) ⊎ (held.outcome ≡ 2)
    verdict b (inl e) =
        let bound = rows_bound g s.both used s.kept in
        absurd (omega (arith, bound, f.1 e, s.undone (λ (q : held.outcome ≡ 1). omega (arith, q, e))))
    verdict b (inr (inl e)) = inl e
    verdict b (inr (inr (inl e))) = inr e
    verdict b (inr (inr (inr e))) = absurd (f.0 e)

-- ---- any run call
pub no_room : NoRoom ours
no_room g l l' budget reply h a u n =
    ran-is g l l' budget reply h a (λ (used : List Row) (held : Run). 1 ≤ budget → (held.outcome ≡ 3) ↔ Lacks g l budget used held)
    (after-cases g l (λ (b : ℕ) (st : State). 1 ≤ b → (st.outcome ≡ 3) ↔ Lacks g l b st.rows (record_of st))
    (λ b d. absurd (not-decided l.held u d))
    (λ z. absurd (omega (arith, z)))
    (λ b p q st w z. stops b st (w (lent-unsettled g l l' budget reply h a p)))
    budget) n
  where
    stops : (b : ℕ) (st : State) → Went (left_of g) (right_of g) (room_of (length l.rows)) (suc b) (before l) st → (st.outcome ≡ 3) ↔ Lacks g l (suc b) st.rows (record_of st)
    stops b st w = (to, λ k. from k (four st.outcome w.few))
      where
        to : st.outcome ≡ 3 → Lacks g l (suc b) st.rows (record_of st)
        to e =
            let s = w.stuck e in
            let d = candidate-of (left_of g) (right_of g) st.settled (row_of st.rows st.settled) s.lacked s.next in (
              w.undone (λ z. omega (arith, z, e)),
              s.before,
              s.fine,
              s.filled,
              (
                d.by,
                d.at,
                post (right_of g) (row_of st.rows st.settled).set d.by,
                (follows-iff g (row_of st.rows st.settled) d.by d.at (post (right_of g) (row_of st.rows st.settled).set d.by)).1
                    (subst (λ (n : ℕ). d.by < 2 ^ n) (left-signals g) d.below, d.follows, d.matches, refl),
                (λ k. unknown s.lacked st.rows s.new (rw d.is k)),
              ),
            )

        from : Lacks g l (suc b) st.rows (record_of st) → Four st.outcome → st.outcome ≡ 3
        from k (inl e) = absurd (omega (arith, w.all e, k.1))
        from k (inr (inl e)) = absurd (omega (arith, w.done e, k.0))
        from k (inr (inr (inl e))) = absurd (true≢false (sym (w.refuted e).0 ∙ k.2))
        from k (inr (inr (inr e))) = e

abbrev Ended : Run → Type 0
Ended held = (held.outcome ≡ 1) ⊎ ((held.outcome ≡ 2) ⊎ (held.outcome ≡ 3))

pub budget-ends : BudgetEnds ours
budget-ends g l l' budget reply h a =
    ran-is g l l' budget reply h a (λ (used : List Row) (held : Run). room_of (length l.rows) ≤ budget → Ended held)
    (after-cases g l (λ (b : ℕ) (st : State). room_of (length l.rows) ≤ b → Ended (record_of st))
    (λ b d z. ⊎_elim (λ e. inl e) (λ e. inr (inl e)) d)
    (λ z. absurd (omega (arith, z, possible.some, possible.within)))
    (λ b p q st w z. ends b z st (w (lent-unsettled g l l' budget reply h a p)))
    budget)
  where
    possible : Possible g.ls (left_of g).count (right_of g).count (room_of (length l.rows)) (used_in l) l.held
    possible = ran-possible g l l' budget reply h a

    ends : (b : ℕ) → room_of (length l.rows) ≤ suc b → (st : State) → Went (left_of g) (right_of g) (room_of (length l.rows)) (suc b) (before l) st → Ended (record_of st)
    ends b z st w = by (four st.outcome w.few)
      where
        by : Four st.outcome → Ended (record_of st)
        by (inl e) =
            let in-room = w.within (rw (lent-used g l l' budget reply h a) possible.within) in
            absurd (omega (arith, w.all e, in-room, w.undone (λ (q : st.outcome ≡ 1). omega (arith, q, e)), z))
        by (inr e) = e
