-- The run of the program: start and one run call, with as many steps as there is room for rows, which end it. It is a chain of calls, so what is
-- demanded of one holds of it.
use Rattle.std.proofs.Common.{ℕ, ◌+◌, ◌≤◌, ◌<◌, ◌≡◌, refl, sym, ap, ap₂, subst, ◌∙◌, Bool, true, false, ◌⊎◌, inl, ◌↔◌, ◌≢◌, List, [], le_refl, le_trans, arith, ltb, length, ltb-true, ltb-false}
use Rattle.goals.specs.declared.Row.{Row}
use Rattle.goals.specs.Run.{State, started, run}
use Rattle.goals.specs.Refusals.{Given, left_of, right_of, room_of, record_of, impossible_for, Against, against, start_refusal, run_refusal, leaves, run_after}
use Rattle.demands.specs.Calls.{Lent, used_in, holding, Runs, ours}
use Rattle.demands.specs.Demands.{LeftTrace, RightTrace, Has, Differ, Reaches, most, Chain}
use Rattle.demands.proofs.Both.{Both}
use Rattle.demands.proofs.Possible.{possible-iff}
use Rattle.demands.proofs.Accepting.{start-passes, run-passes}
use Rattle.demands.proofs.Calling.{after, used-holding}
use Rattle.demands.proofs.Standing.{chain-standing}
use Rattle.demands.proofs.Included.{included-only-if, counts-reached}
use Rattle.demands.proofs.Refuting.{refuted-only-with}
use Rattle.demands.proofs.Room.{room-and-budget, no_room, budget-ends}
use Rattle.demands.proofs.Going.{PossibleFor, ran-possible-after}
use Rattle.demands.proofs.OneCall.{ready, ready-length, ready-used, accepted, one-call}
use Rattle.program.specs.Program.{ended_on, trace_in}

-- ---- in any room that start accepts: the program's rows are too many to be written out
module _ (g : Given) (room : ℕ) (small : room ≤ 65535) (starts : start_refusal g room ≡ against 0 0) where
  -- the state that the run ends in
  abbrev pub end : State
  end = run (left_of g) (right_of g) room room started

  pub both : Both g
  both = ((start-passes g room).0 starts).0

  some : room ≢ 0
  some = ((start-passes g room).0 starts).1

  room-is : room_of room ≡ room
  unfolding room_of
  room-is = omega (arith, small)

  -- the run call is not refused: what start leaves is possible,
  started-possible : PossibleFor g (room_of room) started.rows (record_of started)
  started-possible = record {
    some = omega arith;
    within = let n : room ≢ 0 = some in omega (arith, room-is);
    settled = omega arith;
    outcome = omega arith;
    all = λ e. absurd (omega (arith, e));
    unsettled = λ l e. omega (arith, e);
    first = refl;
    places = λ i h l. absurd (omega (arith, h, l));
    sets = λ i h l. absurd (omega (arith, h, l));
    parents = λ i h l. absurd (omega (arith, h, l));
    letters = λ i h l. absurd (omega (arith, h, l));
  }

  pub started-passes : run_refusal g room started.rows (record_of started) ≡ against 0 0
  started-passes =
      (run-passes g room started.rows (record_of started)).1
      (both, (possible-iff g.ls (left_of g).count (right_of g).count (room_of room) started.rows (record_of started)).1 started-possible)

  -- and leaves that state
  pub run_ends : run_after g room started.rows (record_of started) room ≡ end
  unfolding run_after
  run_ends = ap (λ (n : ℕ). run (left_of g) (right_of g) n room started) room-is

  -- the same on rows of which each is the start row
  abbrev l : Lent
  l = ready room

  used : used_in l ≡ started.rows
  used = ready-used room some

  after_is : after g l room ≡ end
  after_is = ap₂ (λ (n : ℕ) (rows : List Row). run_after g n rows (record_of started) room) (ready-length room) used ∙ run_ends

  runs : Runs g l room accepted (holding end l)
  runs =
      ap₂ (λ (w : Against) (st : State). leaves w [] (holding st l) l)
      (sym (ap₂ (λ (n : ℕ) (rows : List Row). run_refusal g n rows (record_of started)) (ready-length room) used ∙ started-passes))
      (sym after_is)

  -- the chain of the two calls, lent at least any number of rows that the room has
  pub end-chain : (least : ℕ) → least ≤ room → Chain ours g least end.rows (record_of end) room
  end-chain least h =
      let sum : 0 + room ≡ room = omega arith in
      subst (λ (rows : List Row). Chain ours g least rows (record_of end) room) (used-holding end l)
      (subst (Chain ours g least (used_in (holding end l)) (record_of end)) sum (one-call Runs g least room room (holding end l) starts h runs))

  pub end-outcome : (end.outcome ≡ 1) ⊎ ((end.outcome ≡ 2) ⊎ (end.outcome ≡ 3))
  end-outcome = budget-ends g l (holding end l) room accepted runs refl (omega (arith, ap room_of (ready-length room), room-is))

  end-is-possible : PossibleFor g room end.rows (record_of end)
  end-is-possible =
      subst (λ (rows : List Row). PossibleFor g room rows (record_of end)) (used-holding end l)
      (subst (λ (n : ℕ). PossibleFor g n (used_in (holding end l)) (record_of end)) (ap room_of (ready-length room) ∙ room-is)
      (ran-possible-after g l (holding end l) room accepted runs refl))

  -- what a trace call asks of the rows and the record
  pub end-possible : impossible_for g room end.rows (record_of end) ≡ false
  end-possible =
      (possible-iff g.ls (left_of g).count (right_of g).count (room_of room) end.rows (record_of end)).1
      (subst (λ (n : ℕ). PossibleFor g n end.rows (record_of end)) (sym room-is) end-is-possible)

  pub end-some : 1 ≤ length end.rows
  end-some = (chain-standing g room room end.rows (record_of end) (end-chain room (le_refl room))).kept.some

  pub end_fits : length end.rows ≤ room
  end_fits = end-is-possible.within

  pub end-settled : end.settled ≤ room
  end-settled = le_trans end-is-possible.settled end_fits

  -- fewer are settled, unless it is included
  pub end-undone : end.outcome ≢ 1 → end.settled < length end.rows
  end-undone = (chain-standing g room room end.rows (record_of end) (end-chain room (le_refl room))).undone

  -- out of room: every row is used,
  pub end-filled : end.outcome ≡ 3 → length end.rows ≡ room
  end-filled e =
      let n : room ≢ 0 = some in
      ((no_room g l (holding end l) room accepted runs refl (inl refl) (omega arith)).0 e).3 ∙ ap room_of (ready-length room) ∙ room-is

  -- and there can be more goals than rows
  pub end-outgrown : end.outcome ≡ 3 → room < most g
  end-outgrown e = by (ltb room (most g)) refl
    where
      by : (b : Bool) → ltb room (most g) ≡ b → room < most g
      by true q = ltb-true _ _ q
      by false q =
          let fits : most g ≤ room = ltb-false _ _ q in
          absurd ((room-and-budget g room end.rows (record_of end) (le_trans fits small) (end-chain (most g) fits)).0 e)

-- ---- in the program's room
pub few : ◌≤◌ 1024 65535
few = omega arith

module _ (g : Given) (starts : start_refusal g 1024 ≡ against 0 0) where
  -- start, and a run call of budget 1,024
  pub ended-chain : Chain ours g 1024 (ended_on g).rows (record_of (ended_on g)) 1024
  ended-chain = end-chain g 1024 few starts 1024 (le_refl 1024)

  -- the run has ended: included, refuted or no room
  pub three-outcomes : ((ended_on g).outcome ≡ 1) ⊎ (((ended_on g).outcome ≡ 2) ⊎ ((ended_on g).outcome ≡ 3))
  three-outcomes = end-outcome g 1024 few starts

  -- it uses no more rows than there are
  pub ended-fits : length (ended_on g).rows ≤ 1024
  ended-fits = end_fits g 1024 few starts

  pub ended-settled : (ended_on g).settled ≤ 1024
  ended-settled = end-settled g 1024 few starts

  -- and has settled fewer, unless it is included
  pub ended-undone : (ended_on g).outcome ≢ 1 → (ended_on g).settled < length (ended_on g).rows
  ended-undone = end-undone g 1024 few starts

  -- included: every trace of the left is one of the right,
  pub ended-included : (ended_on g).outcome ≡ 1 → (w : List ℕ) → LeftTrace g w → RightTrace g w
  ended-included = included-only-if g 1024 1024 (ended_on g).rows (record_of (ended_on g)) ended-chain

  -- all rows are settled, and they are the goals that some trace reaches
  pub ended-goals : (ended_on g).outcome ≡ 1
      → (goals : List Row)
      × (length goals ≡ (ended_on g).settled)
      × (length goals ≡ length (ended_on g).rows)
      × Differ goals
      × ((p S : ℕ) → Has goals p S ↔ ((w : List ℕ) × Reaches g w p S))
  ended-goals e =
      let (goals, count, once, each) = counts-reached g 1024 1024 (ended_on g).rows (record_of (ended_on g)) ended-chain e in
      let done : (ended_on g).settled ≡ length (ended_on g).rows = (chain-standing g 1024 1024 (ended_on g).rows (record_of (ended_on g)) ended-chain).done e in
      (goals, count, count ∙ done, once, each)

  -- refuted: its trace is one of the left and none of the right
  pub ended-refuted : (ended_on g).outcome ≡ 2 → LeftTrace g (trace_in g) × (RightTrace g (trace_in g) → ⊥)
  ended-refuted = refuted-only-with g 1024 1024 (ended_on g).rows (record_of (ended_on g)) ended-chain

  -- no room: all rows are used, and 1 + m × 2^k is above their number
  pub all-used : (ended_on g).outcome ≡ 3 → length (ended_on g).rows ≡ 1024
  all-used = end-filled g 1024 few starts

  pub outgrown : (ended_on g).outcome ≡ 3 → 1024 < most g
  outgrown = end-outgrown g 1024 few starts
