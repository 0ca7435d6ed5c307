-- A run goes on: what a chain holds, and what any accepted run call leaves, is possible, so the next call with the same sides is
-- accepted exactly where the rows fit its room.
use Prim.Native.Nat.{ℕ, suc, ◌≤◌, ◌<◌, ◌^◌}
use mathlib.Core.Path.{◌≡◌, refl, sym, ap, subst, ◌∙◌}
use mathlib.Core.Logic.{◌≢◌}
use mathlib.Core.List.{List, [], ◌∷◌}
use native.Mathlib.Decide.{dec_lt, ℕ_discrete}
use native.Mathlib.Omega.{arith}
use lib.ListN.{length, take}
use lib.Seq.{take_all}
use Rattle.effect.specs.Refusals.{front}
use Rattle.goals.specs.declared.Row.{Row}
use Rattle.goals.specs.declared.Run.{Run}
use Rattle.goals.specs.Goals.{row_zero}
use Rattle.goals.specs.Run.{State, trace_of}
use Rattle.goals.specs.Refusals.{Given, left_of, right_of, room_of, record_of, trace_refusal, Reply, Leaves}
use Rattle.demands.specs.Calls.{Lent, lent, used_in, ours, Runs, Accepted}
use Rattle.demands.specs.Demands.{row_of, RunAccepted, TraceAccepted}
use Rattle.demands.proofs.Both.{Both}
use Rattle.demands.proofs.Bound.{Late}
use Rattle.demands.proofs.Possible.{Possible, possible-iff}
use Rattle.demands.proofs.Accepting.{run-passes, trace-passes, accepted-leaves}
use Rattle.demands.proofs.Rows.{extends-longer, extends-row}
use Rattle.demands.proofs.Reaching.{left-signals}
use Rattle.demands.proofs.Keeping.{Born}
use Rattle.demands.proofs.Stepping.{Went}
use Rattle.demands.proofs.Calling.{before, after-cases, room-lent, ran-both, ran-possible, ran-is, lent-used, lent-unsettled}
use Rattle.demands.proofs.Standing.{Standing, chain-standing}
use Rattle.demands.proofs.Room.{goes-late}

-- possible for the sides given
abbrev pub PossibleFor : Given → ℕ → List Row → Run → Type 0
PossibleFor g room used held = Possible g.ls (left_of g).count (right_of g).count room used held

-- what refusal 16 asks of row i
pub record Fine (g : Given) (rs : List Row) (i : ℕ) : Type 0 where
  pub late : Late (left_of g).count (right_of g).count (row_of rs i).place (row_of rs i).set
  pub parent : (row_of rs i).parent < i
  pub letter : (row_of rs i).letter < 2 ^ g.ls

born-fine : (g : Given) → Both g → (rs : List Row) (n i : ℕ) → Born (left_of g) (right_of g) rs n → n ≤ i → i < length rs → Fine g rs i
born-fine g both rs n i b h l =
    let (low, goes) = b i h l in
    record { late = goes-late g both rs (row_of rs i) goes; parent = low; letter = subst (λ (s : ℕ). (row_of rs i).letter < 2 ^ s) (left-signals g) goes.below }

-- how far a run is, as its outcome says
pub record Far (used : List Row) (held : Run) : Type 0 where
  pub few : held.outcome ≤ 3
  pub undone : held.outcome ≢ 1 → held.settled < length used
  pub done : held.outcome ≡ 1 → held.settled ≡ length used

possible-of : (g : Given) (room : ℕ) (used : List Row) (held : Run) → held.used ≡ length used → held.used ≤ room → 0 < length used → row_of used 0 ≡ row_zero
    → ((i : ℕ) → 0 < i → i < length used → Fine g used i) → Far used held → PossibleFor g room used held
possible-of g room used held count fits some first fine far =
    record {
      some = omega (arith, count, some);
      within = fits;
      settled = settled (ℕ_discrete held.outcome 1);
      outcome = far.few;
      all = λ e. all e (ℕ_discrete held.outcome 1);
      unsettled = λ l e. omega (arith, l, count, far.done e);
      first = first;
      places = λ i h l. let f = fine i h (omega (arith, l, count)) in (f.late.0, f.late.1);
      sets = λ i h l. let f = fine i h (omega (arith, l, count)) in (f.late.2, f.late.3);
      parents = λ i h l. (fine i h (omega (arith, l, count))).parent;
      letters = λ i h l. (fine i h (omega (arith, l, count))).letter;
    }
  where
    settled : Dec (held.outcome ≡ 1) → held.settled ≤ held.used
    settled (yes e) = omega (arith, count, far.done e)
    settled (no e) = omega (arith, count, far.undone e)

    all : held.settled ≡ held.used → Dec (held.outcome ≡ 1) → held.outcome ≡ 1
    all q (yes e) = e
    all q (no e) = absurd (omega (arith, q, count, far.undone e))

-- ---- what any accepted run call leaves
module _ (g : Given) (l l' : Lent) (budget : ℕ) (reply : Reply) (h : Runs g l budget reply l') (a : Accepted reply) where
  abbrev room : ℕ
  room = room_of (length l.rows)

  possible : PossibleFor g room (used_in l) l.held
  possible = ran-possible g l l' budget reply h a

  count : length (used_in l) ≡ l.held.used
  count = lent-used g l l' budget reply h a

  possible-before : PossibleFor g room (used_in l) (record_of (before l))
  possible-before =
      subst (PossibleFor g room (used_in l)) (λ i. record { settled = l.held.settled; used = sym count i; outcome = l.held.outcome }) possible

  possible-went : (n : ℕ) (st : State) → Went (left_of g) (right_of g) room n (before l) st → PossibleFor g room st.rows (record_of st)
  possible-went n st w =
      possible-of g room st.rows (record_of st) refl (w.within (omega (arith, count, possible.within)))
      (omega (arith, longer, count, possible.some)) (older 0 (omega (arith, count, possible.some)) ∙ possible.first)
      (λ i p q. fine i p q (dec_lt i (length (used_in l)))) (record { few = w.few; undone = w.undone; done = w.done })
    where
      longer : length (used_in l) ≤ length st.rows
      longer = extends-longer (used_in l) st.rows w.extends

      older : (i : ℕ) → i < length (used_in l) → row_of st.rows i ≡ row_of (used_in l) i
      older = extends-row (used_in l) st.rows w.extends

      fine : (i : ℕ) → 0 < i → i < length st.rows → Dec (i < length (used_in l)) → Fine g st.rows i
      fine i p q (yes k) =
          let e = sym (older i k) in
          let (x, y) = possible.places i p (omega (arith, k, count)) in
          let (z, u) = possible.sets i p (omega (arith, k, count)) in
          record {
            late = subst (λ (v : Row). Late (left_of g).count (right_of g).count v.place v.set) e (x, y, z, u);
            parent = subst (λ (v : Row). v.parent < i) e (possible.parents i p (omega (arith, k, count)));
            letter = subst (λ (v : Row). v.letter < 2 ^ g.ls) e (possible.letters i p (omega (arith, k, count)));
          }
      fine i p q (no k) =
          born-fine g (ran-both g l l' budget reply h a) st.rows (length (used_in l)) i
          (w.born (length (used_in l)) (λ j b c. absurd (omega (arith, b, c)))) (omega (arith, k)) q

  pub ran-possible-after : PossibleFor g room (used_in l') l'.held
  ran-possible-after =
      ran-is g l l' budget reply h a (PossibleFor g room)
      (after-cases g l (λ (b : ℕ) (st : State). PossibleFor g room st.rows (record_of st)) (λ b d. possible-before) possible-before
      (λ b p q st w. possible-went (suc b) st (w (lent-unsettled g l l' budget reply h a p)))
      budget)

-- ---- what a chain holds
standing-possible : (g : Given) (room : ℕ) (used : List Row) (held : Run) → Standing g used held → held.used ≤ room → PossibleFor g room used held
standing-possible g room used held s fits =
    possible-of g room used held s.count fits s.kept.some s.kept.first (λ i p q. born-fine g s.both used 1 i s.kept.born p q)
    (record { few = s.few; undone = s.undone; done = s.done })

pub run-goes-on : (g : Given) (rows : List Row) (held : Run) (budget : ℕ) (reply : Reply) (l' : Lent) → Both g
    → PossibleFor g (room_of (length rows)) (take held.used rows) held → Runs g (lent rows held) budget reply l' → Accepted reply
run-goes-on g rows held budget reply l' both p h =
    ap (λ (x : Leaves Lent). x.reply.refusal) h
    ∙ (run-passes g (length rows) (take held.used rows) held).1
    (both, (possible-iff g.ls (left_of g).count (right_of g).count (room_of (length rows)) (take held.used rows) held).1 p)

module _ (g : Given) (used rows : List Row) (held : Run) (s : Standing g used held) (e : take held.used rows ≡ take (length rows) used) where
  -- a table that the used rows fit begins with them
  begins : held.used ≤ room_of (length rows) → take held.used rows ≡ used
  begins f = e ∙ take_all (length rows) used (omega (arith, f, s.count, (room-lent (length rows)).0))

  fits : held.used ≤ room_of (length rows) → PossibleFor g (room_of (length rows)) (take held.used rows) held
  fits f = subst (λ (u : List Row). PossibleFor g (room_of (length rows)) u held) (sym (begins f)) (standing-possible g (room_of (length rows)) used held s f)

pub run-accepts : RunAccepted ours
run-accepts g least sum used held c rows budget reply l' e h =
    let s = chain-standing g least sum used held c in (
      (λ a. (ran-possible g (lent rows held) l' budget reply h a).within),
      (λ f. run-goes-on g rows held budget reply l' s.both (fits g used rows held s e f) h),
    )

pub trace-accepts : TraceAccepted ours
trace-accepts g least sum used held c o rows out out' reply e h = (to, from)
  where
    s : Standing g used held
    s = chain-standing g least sum used held c

    word : List Row → List ℕ
    word u = trace_of u held.settled

    to : Accepted reply → (held.used ≤ room_of (length rows)) × (length (word used) ≤ length out)
    to a =
        let u = accepted-leaves reply (trace_refusal g (length rows) (take held.used rows) held (length out)) (length (word (take held.used rows)) ∷ [])
        (front (word (take held.used rows)) out) out out' h a in
        let v = (trace-passes g (length rows) (take held.used rows) held (length out)).0 u.0 in
        let p = (possible-iff g.ls (left_of g).count (right_of g).count (room_of (length rows)) (take held.used rows) held).0 v.1 in
        (p.within, subst (λ (x : List Row). length (word x) ≤ length out) (begins g used rows held s e p.within) v.3)

    from : (held.used ≤ room_of (length rows)) × (length (word used) ≤ length out) → Accepted reply
    from (f, b) =
        ap (λ (x : Leaves (List ℕ)). x.reply.refusal) h
        ∙ (trace-passes g (length rows) (take held.used rows) held (length out)).1 (
          s.both,
          (possible-iff g.ls (left_of g).count (right_of g).count (room_of (length rows)) (take held.used rows) held).1 (fits g used rows held s e f),
          o,
          subst (λ (x : List Row). length (word x) ≤ length out) (sym (begins g used rows held s e f)) b,
        )
