-- Demand 2, "included", and demand 3's count: on "included" every row is closed, so the goals of the rows are a closed set with the
-- start and no bad one. They are the goals that some word reaches.
use Prim.Native.Nat.{ℕ, ◌<◌, ◌^◌}
use mathlib.Core.Path.{◌≡◌, sym, ap, subst}
use mathlib.Core.Bool.{false}
use mathlib.Core.Logic.{◌↔◌}
use mathlib.Core.List.{List}
use native.Mathlib.Omega.{arith}
use lib.ListN.{length}
use Rattle.bits.specs.Bit.{Mem}
use Rattle.places.specs.Readings.{matching, followers, post}
use Rattle.goals.specs.declared.Row.{Row}
use Rattle.goals.specs.declared.Run.{Run}
use Rattle.goals.specs.Goals.{bad_goal}
use Rattle.goals.specs.Run.{trace_of}
use Rattle.goals.specs.Refusals.{Given, left_of, right_of}
use Rattle.demands.specs.Calls.{ours}
use Rattle.demands.specs.Demands.{row_of, Has, LeftTrace, RightTrace, Reaches, IncludedOnlyIf, GoalsReached, CountsReached}
use Rattle.demands.proofs.Reaching.{left-signals, left-match, ReachesBy, reaches-iff, closed-reached}
use Rattle.demands.proofs.Including.{closed-included}
use Rattle.demands.proofs.Standing.{Standing, chain-standing}
use Rattle.demands.proofs.Refuting.{row-reached}

module _ (g : Given) (used : List Row) (held : Run) (s : Standing g used held) (e : held.outcome ≡ 1) where
  all_settled : (i : ℕ) → i < length used → i < held.settled
  all_settled i h = omega (arith, h, s.done e)

  has-start : Has used 0 1
  has-start = (0, s.kept.some, ap (λ (w : Row). w.place) s.kept.first, ap (λ (w : Row). w.set) s.kept.first)

  has-fine : (p S : ℕ) → Has used p S → bad_goal (left_of g).accepts (right_of g).accepts p S ≡ false
  has-fine p S (i, h, a, b) =
      subst (λ (q : ℕ). bad_goal (left_of g).accepts (right_of g).accepts q S ≡ false) a
      (subst (λ (T : ℕ). bad_goal (left_of g).accepts (right_of g).accepts (row_of used i).place T ≡ false) b (s.closed i (all_settled i h)).fine)

  has-closed : (p S x k : ℕ) → Has used p S → x < 2 ^ g.ls → Mem (followers (left_of g) p) k → Mem (matching (left_of g) x) k → Has used k (post (right_of g) S x)
  has-closed p S x k (i, h, a, b) l f m =
      subst (λ (T : ℕ). Has used k (post (right_of g) T x)) b
      ((s.closed i (all_settled i h)).followed x k (rw (left-signals g) l) (left-match g s.both x k m).2
      (subst (λ (q : ℕ). Mem (followers (left_of g) q) k) (sym a) f) m)

  traces-included : (w : List ℕ) → LeftTrace g w → RightTrace g w
  traces-included = closed-included g s.both (Has used) has-fine has-closed has-start

  reached_has : (p S : ℕ) → Has used p S ↔ ((w : List ℕ) × Reaches g w p S)
  reached_has p S = (
    (λ (h : Has used p S). (
      trace_of used h.0,
      (reaches-iff g s.both (trace_of used h.0) p S).1
          (subst (λ (q : ℕ). ReachesBy g (trace_of used h.0) q S) h.2
          (subst (λ (T : ℕ). ReachesBy g (trace_of used h.0) (row_of used h.0).place T) h.3 (row-reached g used s.kept h.0 h.1))),
    )),
    (λ (r : (w : List ℕ) × Reaches g w p S).
        let u = (reaches-iff g s.both r.0 p S).0 r.1 in
        rw u.2 (closed-reached g (Has used) has-closed r.0 0 p 1 u.0 u.1 has-start)),
  )

pub goals-reached : GoalsReached ours
goals-reached g least sum used held c i l =
    let s = chain-standing g least sum used held c in
    (reaches-iff g s.both (trace_of used i) (row_of used i).place (row_of used i).set).1 (row-reached g used s.kept i l)

pub included-only-if : IncludedOnlyIf ours
included-only-if g least sum used held c e = traces-included g used held (chain-standing g least sum used held c) e

pub counts-reached : CountsReached ours
counts-reached g least sum used held c e =
    let s = chain-standing g least sum used held c in
    (used, sym (s.done e), s.kept.once, reached_has g used held s e)
