-- C1 to C12 with C5r: what the rules give (goals' `worked`) is what the meaning says, by demand 2 of the chain "start, one run call".
use Prim.Native.Nat.{ℕ, ◌+◌}
use mathlib.Core.Path.{◌≡◌, refl, sym, ap, ap₂, ◌∙◌}
use mathlib.Core.Bool.{Bool, cond}
use mathlib.Core.Logic.{◌⊎◌, inr, ◌↔◌, ◌≢◌}
use mathlib.Core.List.{List, []}
use native.Mathlib.Omega.{arith}
use borrow.Author.Tests.{eq-eqb}
use Rattle.effect.specs.Node.{kind_of, decode_of, fields_of, number_of}
use Rattle.effect.specs.Meaning.{root, Trace, Included}
use Rattle.goals.specs.declared.Row.{Row}
use Rattle.goals.specs.Run.{started, trace_of}
use Rattle.goals.specs.Refusals.{Given, record_of, Against, run_refusal, leaves, run_after}
use Rattle.goals.specs.Cases.{Listed, Comparison, given_by, shown, Gives, Each}
use Rattle.goals.proofs.Worked.{worked}
use Rattle.demands.specs.Calls.{Lent, used_in, holding, Runs, ours}
use Rattle.demands.specs.Demands.{left_nodes, right_nodes, LeftTrace, RightTrace, Chain}
use Rattle.demands.specs.Worked.{Meant, in_ample, Holds, Worked}
use Rattle.demands.proofs.Accepting.{start-passes}
use Rattle.demands.proofs.Calling.{after, used-holding}
use Rattle.demands.proofs.Included.{included-only-if}
use Rattle.demands.proofs.Refuting.{refuted-only-with}
use Rattle.demands.proofs.OneCall.{ready, ready-length, ready-used, accepted, one-call}

-- the tables given are those of the nodes
abbrev Tables : Comparison → Type 0
Tables c = (left_nodes (given_by c.case) ≡ c.case.left) × (right_nodes (given_by c.case) ≡ c.case.right)

module _ (c : Comparison) (gives : Gives c) (tables : Tables c) where
  abbrev g : Given
  g = given_by c.case

  abbrev room : ℕ
  room = c.case.room

  -- the run call on as many rows as the room has
  abbrev l : Lent
  l = ready room

  used : used_in l ≡ started.rows
  used = ready-used room ((start-passes g room).0 gives.starts).1

  state-is : after g l room ≡ run_after g room started.rows (record_of started) room
  state-is = ap₂ (λ (n : ℕ) (rows : List Row). run_after g n rows (record_of started) room) (ready-length room) used

  runs : Runs g l room accepted (holding (after g l room) l)
  runs =
      ap (λ (w : Against). leaves w [] (holding (after g l room) l) l)
      (sym (ap₂ (λ (n : ℕ) (rows : List Row). run_refusal g n rows (record_of started)) (ready-length room) used ∙ gives.runs))

  chain : Chain ours g 0 (used_in (holding (after g l room) l)) (record_of (after g l room)) (0 + room)
  chain = one-call Runs g 0 room room (holding (after g l room) l) gives.starts (omega arith) runs

  shows : shown (after g l room) ≡ c.listed
  shows = ap shown state-is ∙ gives.shows

  outcome : (after g l room).outcome ≡ c.listed.outcome
  outcome = ap (λ (x : Listed). x.outcome) shows

  -- the trace of the refuted row is the one listed
  word : c.listed.outcome ≡ 2 → trace_of (used_in (holding (after g l room) l)) (after g l room).settled ≡ c.listed.trace
  word e =
      let st = after g l room in
      ap (λ (rows : List Row). trace_of rows st.settled) (used-holding st l)
      ∙ sym (ap (λ (b : Bool). cond b (trace_of st.rows st.settled) []) (eq-eqb st.outcome 2 (outcome ∙ e)))
      ∙ ap (λ (x : Listed). x.trace) shows

  means : Meant c.case c.listed
  means = record { included = included; refuted = refuted }
    where
      left : (w : List ℕ) → LeftTrace g w ↔ Trace c.case.s c.case.left (root c.case.left) w
      left w = rw tables.0 ((λ t. t), (λ t. t))

      right : (w : List ℕ) → RightTrace g w ↔ Trace c.case.s c.case.right (root c.case.right) w
      right w = rw tables.1 ((λ t. t), (λ t. t))

      included : c.listed.outcome ≡ 1 → Included c.case.s c.case.left c.case.right
      included e w t = (right w).0 (included-only-if g 0 (0 + room) _ _ chain (outcome ∙ e) w ((left w).1 t))

      refuted : c.listed.outcome ≡ 2
          → Trace c.case.s c.case.left (root c.case.left) c.listed.trace × (Trace c.case.s c.case.right (root c.case.right) c.listed.trace → ⊥)
      refuted e =
          let r = refuted-only-with g 0 (0 + room) _ _ chain (outcome ∙ e) in
          rw (sym (word e)) ((left _).0 r.0, λ t. r.1 ((right _).1 t))

  -- a comparison that is decided
  decided : c.listed.outcome ≢ 3 → Holds c
  decided n = record { tables = tables; gives = gives; means = means; same = λ e. absurd (n e) }

-- one that finds no room, as the same in ample room
module _ (c : Comparison) (gives : Gives c) (tables : Tables c) (listed : Listed)
    (full : Gives (record { case = in_ample c.case; listed = listed })) (d : (listed.outcome ≡ 1) ⊎ (listed.outcome ≡ 2)) where
  as-ample : Holds c
  as-ample = record { tables = tables; gives = gives; means = means c gives tables; same = λ e. (listed, full, d, ample) }
    where
      ample : Meant c.case listed
      ample = let m = means (record { case = in_ample c.case; listed = listed }) full tables in record { included = m.included; refuted = m.refuted }

pub all-worked : Worked
unfolding Each kind_of decode_of fields_of number_of
all-worked = (
  decided _ worked.0 (refl, refl) (λ e. omega (arith, e)),
  (
    decided _ worked.1.0 (refl, refl) (λ e. omega (arith, e)),
    (
      decided _ worked.1.1.0 (refl, refl) (λ e. omega (arith, e)),
      (
        decided _ worked.1.1.1.0 (refl, refl) (λ e. omega (arith, e)),
        (
          decided _ worked.1.1.1.1.0 (refl, refl) (λ e. omega (arith, e)),
          (
            as-ample _ worked.1.1.1.1.1.0 (refl, refl) _ worked.1.1.1.1.0 (inr refl),
            (
              decided _ worked.1.1.1.1.1.1.0 (refl, refl) (λ e. omega (arith, e)),
              (
                decided _ worked.1.1.1.1.1.1.1.0 (refl, refl) (λ e. omega (arith, e)),
                (
                  decided _ worked.1.1.1.1.1.1.1.1.0 (refl, refl) (λ e. omega (arith, e)),
                  (
                    decided _ worked.1.1.1.1.1.1.1.1.1.0 (refl, refl) (λ e. omega (arith, e)),
                    (
                      decided _ worked.1.1.1.1.1.1.1.1.1.1.0 (refl, refl) (λ e. omega (arith, e)),
                      (
                        decided _ worked.1.1.1.1.1.1.1.1.1.1.1.0 (refl, refl) (λ e. omega (arith, e)),
                        (
                          decided _ worked.1.1.1.1.1.1.1.1.1.1.1.1.0 (refl, refl) (λ e. omega (arith, e)),
                          tt,
                        ),
                      ),
                    ),
                  ),
                ),
              ),
            ),
          ),
        ),
      ),
    ),
  ),
)
