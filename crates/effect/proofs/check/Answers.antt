-- `effect::check`. The loop keeps what the first i nodes leave (`After`); each way out is a row of the table (`check-node`, `check-rest`).
use Prim.Native.Nat.{ℕ}
use mathlib.Core.Path.{◌≡◌, sym, subst, ◌∙◌}
use mathlib.Core.Logic.{inl, inr}
use native.Mathlib.Numerals.{add-one}
use native.Mathlib.Omega.{arith}
use lib.ListN.{get_or}
use Rattle.std.specs.Prelude.{Some, None}
use Rattle.std.proofs.lemmas.Result.{err_from_is_err_and}
use Rattle.effect.specs.declared.Refusal.TheVariants.{NoSuchNode}
use Rattle.effect.specs.Node.{decode_of, decodings, entry, nodes_of}
use Rattle.effect.specs.Refusals.{checked}
use Rattle.effect.proofs.Laws.{After, after_none, after_next, judged, unclaimed, none-refusal, entry-decoded, instants-le, check-signals, check-size, check-node, check-rest}
use Rattle.effect.proofs.Numbers.{number-positive}
use Rattle.effect.proofs.check.Goals as goal
use Rattle.effect.proofs.check.Goals.{After-judge, then-n-eq0-via-then-n-eq0, then-n-eq0-via-else-n-eq0+then-n-gt255}

pub returns-then-s-gt8 : goal.returns-then-s-gt8
unfolding checked
returns-then-s-gt8 c = check-signals _ _ c.if-s-gt8.true

pub returns-then-n-eq0 : goal.returns-then-n-eq0
unfolding checked
returns-then-n-eq0 c =
    check-size _ _ c.if-s-gt8.false
    (elim c.then-n-eq0.branch [ then-n-eq0-via-then-n-eq0 w ↦ inl w.if-n-eq0.true | then-n-eq0-via-else-n-eq0+then-n-gt255 w ↦ inr w.if-n-gt255.true ])

pub loop-i-init : goal.loop-i-init
loop-i-init c = after_none _ _ _ (unclaimed 256)

pub returns-in_err-node : goal.returns-in_err-node
unfolding checked
returns-in_err-node c =
    let a = c.args in
    let p = err_from_is_err_and c.from_residual.result c.from_residual.ensures.1 in
    let e : decode_of (get_or a.nodes.now c.loop-i.i 0) ≡ None = grind arith in
    let q : c.in_err-node.field-0.0 ≡ NoSuchNode = grind arith in
    rw (p.1, p.2, q) (check-node a.s a.nodes.now c.if-s-gt8.false c.if-n-eq0.false c.if-n-gt255.false c.loop-i.i 7
    c.loop-i-test.true
    c.loop-i.invariant.none
    (none-refusal _ _ _ (entry-decoded a.nodes.now c.loop-i.i ∙ e))
    (λ z. omega arith))

pub judge-requires : goal.judge-requires
judge-requires c = omega (arith, c.loop-i.invariant.count, instants-le (nodes_of (decodings c.args.nodes.now)) c.loop-i.i)

-- the node that is judged is the table's entry i
entry-judged : (c : After-judge) → entry (decodings c.args.nodes.now) c.loop-i.i ≡ Some c.in_ok-node.node
entry-judged c = let e : decode_of (get_or c.args.nodes.now c.loop-i.i 0) ≡ Some c.in_ok-node.node = grind arith in entry-decoded c.args.nodes.now c.loop-i.i ∙ e

pub returns-in_err-judge : goal.returns-in_err-judge
unfolding checked
returns-in_err-judge c =
    let a = c.args in
    let p = err_from_is_err_and c.from_residual-in_err-judge.result c.from_residual-in_err-judge.ensures.1 in
    rw (p.1, p.2) (check-node a.s a.nodes.now c.if-s-gt8.false c.if-n-eq0.false c.if-n-gt255.false c.loop-i.i _
    c.loop-i-test.true
    c.loop-i.invariant.none
    (c.in_err-judge.ensures.refusal ∙ judged _ _ _ _ _ _ c.loop-i.invariant (omega arith) (entry-judged (goal.at.returns-in_err-judge c).After-judge))
    (λ z. omega (arith, number-positive)))

pub loop-i-preserved : goal.loop-i-preserved
loop-i-preserved c =
    let j = c.in_ok-judge.ensures in
    rw add-one (after_next _ _ _ _ _ _ c.loop-i.invariant (omega arith) (entry-judged (goal.at.loop-i-preserved c).After-judge) _ _ (sym j.refusal) j.count j.children)

pub returns : goal.returns
returns c =
    let a = c.args in
    c.finish.ensures
    ∙ check-rest a.s a.nodes.now c.if-s-gt8.false c.if-n-eq0.false c.if-n-gt255.false _ _
    (subst (λ (k : ℕ). After a.s (decodings a.nodes.now) k c.loop-i.seen.instants c.loop-i.seen.claimed) (omega arith) c.loop-i.invariant)
