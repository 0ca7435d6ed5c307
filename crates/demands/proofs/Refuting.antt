-- Demand 2, "refuted": the letters from row 0 to a row are a word that reaches its goal, by the rows' parents; so those to a bad row
-- are a trace of the left and none of the right.
use Prim.Native.Nat.{ℕ, zero, suc, ◌≤◌, ◌<◌}
use mathlib.Core.Path.{◌≡◌, refl, sym, ap, subst, ◌∙◌}
use mathlib.Core.Bool.{Bool, true, false}
use mathlib.Core.List.{List, [], ◌∷◌, ◌++◌}
use native.Mathlib.Omega.{arith}
use lib.Dec.{eqb}
use lib.ListN.{length, take, drop}
use lib.Seq.{take-append_seam, drop-append_seam}
use borrow.Author.Tests.{eqb-true, eqb-false}
use Rattle.effect.specs.Refusals.{front}
use Rattle.effect.proofs.Front.{length_front}
use Rattle.goals.specs.declared.Row.{Row}
use Rattle.goals.specs.Run.{word_in, trace_of}
use Rattle.goals.specs.Refusals.{Given, left_of, right_of, against, trace_refusal, Reply}
use Rattle.demands.specs.Calls.{Lent, lent, used_in, Traces, Accepted, ours}
use Rattle.demands.specs.Demands.{row_of, LeftTrace, RightTrace, RefutedOnlyWith, TraceHands, RefutedShown}
use Rattle.demands.proofs.Accepting.{trace-passes, accepted-leaves}
use Rattle.demands.proofs.Reaching.{left-signals, ReachesBy, reaches-start, reaches_step, bad-refutes}
use Rattle.demands.proofs.Keeping.{Kept}
use Rattle.demands.proofs.Standing.{chain-standing}

module _ (g : Given) (rs : List Row) (k : Kept (left_of g) (right_of g) rs) where
  abbrev Reached : List ℕ → ℕ → Type 0
  Reached w i = ReachesBy g w (row_of rs i).place (row_of rs i).set

  start-reached : (i : ℕ) → i ≡ 0 → Reached [] i
  start-reached i e =
      subst (λ (w : Row). ReachesBy g [] w.place w.set) (sym (ap (row_of rs) e ∙ k.first)) (reaches-start g)

  row_word : (f i : ℕ) → i ≤ f → i < length rs → Reached (word_in rs f i) i
  unfolding word_in
  row_word zero i h l = start-reached i (omega arith)
  row_word (suc f) i h l = by (eqb i 0) refl (row_word f (row_of rs i).parent)
    where
      by : (b : Bool) → eqb i 0 ≡ b → ((row_of rs i).parent ≤ f → (row_of rs i).parent < length rs → Reached (word_in rs f (row_of rs i).parent) (row_of rs i).parent)
          → Reached (elim b [ true ↦ [] | false ↦ word_in rs f (row_of rs i).parent ++ ((row_of rs i).letter ∷ []) ]) i
      by true e rest = start-reached i (eqb-true _ _ e)
      by false e rest =
          let ne : i ≡ 0 → ⊥ = eqb-false i 0 e in
          let q : 0 < i = omega arith in
          let (low, b) = k.born i q l in
          subst (λ (S : ℕ). ReachesBy g (word_in rs f (row_of rs i).parent ++ ((row_of rs i).letter ∷ [])) (row_of rs i).place S) (sym b.spreads)
          (reaches_step g (word_in rs f (row_of rs i).parent) (row_of rs (row_of rs i).parent).place (row_of rs (row_of rs i).parent).set (row_of rs i).letter (row_of rs i).place
          (rest (omega arith) (omega arith)) (rw (left-signals g) at b.below) b.follows b.matches)

  pub row-reached : (i : ℕ) → i < length rs → Reached (trace_of rs i) i
  row-reached i l = row_word i i (omega arith) l

pub refuted-only-with : RefutedOnlyWith ours
refuted-only-with g least sum used held c e =
    let s = chain-standing g least sum used held c in
    bad-refutes g s.both (trace_of used held.settled) (row_of used held.settled).place (row_of used held.settled).set
    (row-reached g used s.kept held.settled (s.undone (λ (q : held.outcome ≡ 1). omega (arith, q, e)))) (s.refuted e)

-- what an accepted trace call says and leaves
module _ (g : Given) (l : Lent) (out out' : List ℕ) (reply : Reply) (h : Traces g l out reply out') (a : Accepted reply) where
  abbrev word : List ℕ
  word = trace_of (used_in l) l.held.settled

  left_by_lem : (trace_refusal g (length l.rows) (used_in l) l.held (length out) ≡ against 0 0) × (out' ≡ front word out) × (reply.values ≡ length word ∷ [])
  left_by_lem = accepted-leaves reply _ (length word ∷ []) (front word out) out out' h a

  -- 17 and 18 do not apply
  passed : (l.held.outcome ≡ 2) × (length word ≤ length out)
  passed = let p = (trace-passes g (length l.rows) (used_in l) l.held (length out)).0 left_by_lem.0 in (p.2, p.3)

pub trace-hands : TraceHands ours
trace-hands g l out out' reply h a = let u = left_by_lem g l out out' reply h a in (u.2, u.1)

-- a trace call is accepted of a refuted run alone, and the front of the buffer is that trace
pub refuted-shown : RefutedShown ours
refuted-shown g least sum used held c rows out out' reply begins h a =
    let (values, buffer) = trace-hands g (lent rows held) out out' reply h a in
    let w = trace_of (take held.used rows) held.settled in
    let (two, fits) = passed g (lent rows held) out out' reply h a in
    let (of_left, of_right) = refuted-only-with g least sum used held c two in
    let is : take (length w) out' ≡ trace_of used held.settled =
    ap (take (length w)) buffer ∙ take-append_seam w (drop (length w) out) ∙ ap (λ (u : List Row). trace_of u held.settled) begins in (
      length w,
      values,
      fits,
      ap length buffer ∙ length_front w out fits,
      subst (LeftTrace g) (sym is) of_left,
      (λ t. of_right (subst (RightTrace g) is t)),
      ap (drop (length w)) buffer ∙ drop-append_seam w (drop (length w) out),
    )
