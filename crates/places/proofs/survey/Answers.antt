-- `places::survey`. The loop keeps the masks of the first i nodes' instants, and these nodes in the skeleton.
use Rattle.std.proofs.Common.{◌≡◌, ◌+◌, ◌≤◌, length, refl, sym, ap, ◌∙◌, add-one, arith}
use Rattle.effect.specs.Refusals.{one_if_instant, instants}
use Rattle.effect.specs.Meaning.{at}
use Rattle.places.specs.Side.{masks_to}
use Rattle.places.specs.Walk.{table_of}
use Rattle.places.proofs.Laws.{table_at, count-instants, holds-next, numbers-next}
use Rattle.places.proofs.survey.Goals as goal
use Rattle.places.proofs.survey.Goals.{After-node_of-node}

-- node i of the table, and that it leaves at most 63 instants
here : (c : After-node_of-node) → c.node_of-node.result ≡ at (table_of c.args.nodes.now) c.loop-i.i
here c = c.node_of-node.ensures ∙ sym (table_at c.args.nodes.now c.loop-i.i)

few : (c : After-node_of-node) → c.loop-i.masks.count + one_if_instant c.node_of-node.result ≤ 63
few c =
    omega (arith, c.loop-i.invariant.0.count, c.requires.few, ap one_if_instant (here c), count-instants (table_of c.args.nodes.now) c.loop-i.i (length c.args.nodes.now) (omega arith))

pub loop-i-init : goal.loop-i-init
unfolding instants masks_to
loop-i-init c = (record { count = refl; present = refl; absent = refl }, (λ i l. absurd (omega arith)))

pub overflow_add-masks : goal.overflow_add-masks
overflow_add-masks c = omega (arith, few (goal.at.overflow_add-masks c).After-node_of-node)

pub with_masks-masks-requires : goal.with_masks-masks-requires
with_masks-masks-requires c = few (goal.at.with_masks-masks-requires c).After-node_of-node

pub loop-i-preserved : goal.loop-i-preserved
loop-i-preserved c =
    let v = c.loop-i.invariant in
    let t = table_of c.args.nodes.now in
    let w = c.with_masks-masks.ensures in
    let e = here (goal.at.loop-i-preserved c).After-node_of-node in (
      rw add-one (holds-next t c.loop-i.i c.loop-i.masks c.with_masks-masks.result _ v.0 e w.count w.present w.absent),
      rw add-one (numbers-next t c.loop-i.i c.loop-i.masks.count _ _ c.loop-i.skeleton (omega (arith, c.requires.fits)) v.1 v.0.count e c.numbered_node.ensures),
    )
