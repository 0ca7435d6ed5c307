-- What an accepted call says of what it was given, and what an accepted and a refused call leave: the first of some rows is none
-- exactly when none of them is a refusal, and each row's test is taken to the property that it decides.
use Prim.Native.Nat.{ℕ, ◌≤◌}
use mathlib.Core.Path.{◌≡◌, refl, sym, ap, ◌∙◌}
use mathlib.Core.Logic.{◌↔◌, ◌≢◌}
use mathlib.Core.Bool.{Bool, true, false, cond, not}
use mathlib.Core.List.{List, [], ◌∷◌, map}
use lib.Dec.{eqb, ltb}
use lib.ListN.{length}
use borrow.Author.Tests.{eq-eqb, ne_eqb, eqb-true, eqb-false, ltb-false, le-ltb}
use Rattle.effect.specs.Node.{decodings}
use Rattle.effect.specs.Refusals.{rule}
use Rattle.effect.proofs.Laws.{rule-none, not_none}
use Rattle.effect.proofs.Accepted.{accepted-iff}
use Rattle.goals.specs.declared.Row.{Row}
use Rattle.goals.specs.declared.Run.{Run}
use Rattle.goals.specs.Run.{trace_of}
use Rattle.goals.specs.Refusals.{Given, Against, against, first, refusal_of, impossible_for, start_refusal, run_refusal, trace_refusal, Reply, Leaves, exit, leaves}
use Rattle.demands.specs.Calls.{Accepted, Refused}
use Rattle.demands.proofs.Both.{Both}

-- none of the rows is a refusal
abbrev AllNone : List Against → Type 0
AllNone [] = Unit {0}
AllNone (r ∷ rs) = (r.number ≡ 0) × AllNone rs

first-none : (rs : List Against) → (first rs ≡ against 0 0) ↔ AllNone rs
unfolding first
first-none [] = ((λ h. tt), (λ h. refl))
first-none (r ∷ rs) = by (eqb r.number 0) refl (first-none rs)
  where
    by : (b : Bool) → eqb r.number 0 ≡ b → (first rs ≡ against 0 0) ↔ AllNone rs → (cond b (first rs) r ≡ against 0 0) ↔ ((r.number ≡ 0) × AllNone rs)
    by true e rest = ((λ h. (eqb-true _ _ e, rest.0 h)), (λ h. rest.1 h.1))
    by false e rest = ((λ h. absurd (eqb-false _ _ e (ap (λ (x : Against). x.number) h))), (λ h. absurd (eqb-false _ _ e h.0)))

same-iff : (m n : ℕ) → (not (eqb m n) ≡ false) ↔ (m ≡ n)
same-iff m n = ((λ h. eqb-true m n ((not_none (eqb m n)).0 h)), (λ e. (not_none (eqb m n)).1 (eq-eqb m n e)))

-- both sides are accepted, and none of the rest is a refusal
sides-accepted : (g : Given) (rest : List ℕ) → (refusal_of g rest ≡ against 0 0) ↔ (Both g × AllNone (map (against 3) rest))
sides-accepted g rest = (
  (λ h.
      let z = (first-none _).0 h in (
        record {
          left = (accepted-iff g.ls (decodings g.left)).0 z.0;
          right = (accepted-iff g.rs (decodings g.right)).0 z.1.0;
          same = (same-iff g.ls g.rs).0 ((rule-none 13 _).0 z.1.1.0);
        },
        z.1.1.1,
      )),
  (λ h.
      (first-none _).1 (
        (accepted-iff g.ls (decodings g.left)).1 h.0.left,
        (
          (accepted-iff g.rs (decodings g.right)).1 h.0.right,
          ((rule-none 13 _).1 ((same-iff g.ls g.rs).1 h.0.same), h.1),
        ),
      )),
)

pub start-passes : (g : Given) (lent : ℕ) → (start_refusal g lent ≡ against 0 0) ↔ (Both g × (lent ≢ 0))
unfolding start_refusal
start-passes g lent =
    let sides = sides-accepted g (rule 15 (eqb lent 0) ∷ []) in (
      (λ h. let z = sides.0 h in (z.0, eqb-false lent 0 ((rule-none 14 _).0 z.1.0))),
      (λ h. sides.1 (h.0, ((rule-none 14 _).1 (ne_eqb lent 0 h.1), tt))),
    )

pub run-passes : (g : Given) (lent : ℕ) (rows : List Row) (r : Run) → (run_refusal g lent rows r ≡ against 0 0) ↔ (Both g × (impossible_for g lent rows r ≡ false))
unfolding run_refusal
run-passes g lent rows r =
    let sides = sides-accepted g (rule 16 (impossible_for g lent rows r) ∷ []) in (
      (λ h. let z = sides.0 h in (z.0, (rule-none 15 _).0 z.1.0)),
      (λ h. sides.1 (h.0, ((rule-none 15 _).1 h.1, tt))),
    )

pub trace-passes : (g : Given) (lent : ℕ) (rows : List Row) (r : Run) (buffer : ℕ)
    → (trace_refusal g lent rows r buffer ≡ against 0 0)
    ↔ (Both g × (impossible_for g lent rows r ≡ false) × (r.outcome ≡ 2) × (length (trace_of rows r.settled) ≤ buffer))
unfolding trace_refusal
trace-passes g lent rows r buffer =
    let sides = sides-accepted g
    (rule 16 (impossible_for g lent rows r) ∷ rule 17 (not (eqb r.outcome 2)) ∷ rule 18 (ltb buffer (length (trace_of rows r.settled))) ∷ []) in (
      (λ h.
          let z = sides.0 h in (
            z.0,
            (rule-none 15 _).0 z.1.0,
            (same-iff r.outcome 2).0 ((rule-none 16 _).0 z.1.1.0),
            ltb-false _ _ ((rule-none 17 _).0 z.1.1.1.0),
          )),
      (λ h.
          sides.1 (
            h.0,
            ((rule-none 15 _).1 h.1, ((rule-none 16 _).1 ((same-iff r.outcome 2).1 h.2), ((rule-none 17 _).1 (le-ltb _ _ h.3), tt))),
          )),
    )

-- ---- what a call leaves
module _ {Lent : Type 0} (reply : Reply) (why : Against) (values : List ℕ) (changed lent lent' : Lent) (e : exit reply lent' ≡ leaves why values changed lent) where
  refusal_is : reply.refusal ≡ why
  refusal_is = ap (λ (x : Leaves Lent). x.reply.refusal) e

  lent_is : lent' ≡ cond (eqb why.number 0) changed lent
  lent_is = ap (λ (x : Leaves Lent). x.lent) e

  values-are : reply.values ≡ cond (eqb why.number 0) values []
  values-are = ap (λ (x : Leaves Lent). x.reply.values) e

  pub accepted-leaves : Accepted reply → (why ≡ against 0 0) × (lent' ≡ changed) × (reply.values ≡ values)
  accepted-leaves h =
      let none : why ≡ against 0 0 = sym refusal_is ∙ h in (
        none,
        lent_is ∙ ap (λ (x : Against). cond (eqb x.number 0) changed lent) none,
        values-are ∙ ap (λ (x : Against). cond (eqb x.number 0) values []) none,
      )

  pub refused-leaves : Refused reply → lent' ≡ lent
  refused-leaves h = lent_is ∙ ap (λ (b : Bool). cond b changed lent) (ne_eqb why.number 0 (λ z. h (ap (λ (x : Against). x.number) refusal_is ∙ z)))
