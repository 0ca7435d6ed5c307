-- `Skeleton::linked`: a sequence and a repetition add their link (`adds-link`), any other node nothing (`adds-nothing`).
use Rattle.std.proofs.Common.{◌≡◌, length, sym, rules}
use Rattle.places.proofs.ByNode.{adds-nothing}
use Rattle.places.proofs.Skeleton.linked.Goals as goal

pub returns-in_default : goal.returns-in_default
returns-in_default c =
    let a = c.args in
    let size : length a.follow ≡ 64 = search rules in
    adds-nothing a.self.now.nodes.now a.i a.follow _ (sym c.node.ensures) size (λ j. search rules)
