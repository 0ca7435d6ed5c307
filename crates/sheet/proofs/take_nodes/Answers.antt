use mathlib.Core.Path.{◌≡◌, ap, ◌∙◌}
use native.Mathlib.Omega.{arith}
use lib.ListN.{length}
use lib.Seq.{take_at}
use Rattle.std.proofs.Common.{rules}
use Rattle.sheet.specs.Bits.{each, fields}
use Rattle.sheet.proofs.Fields.{fields-of-each}
use Rattle.sheet.proofs.take_nodes.Goals as goal

pub returns : goal.returns
returns c =
    let a = c.args in
    let long : length c.loop-k.node-items ≡ a.n = search rules in
    take_at c.loop-k.node-items _ a.n long
    ∙ fields-of-each (each 8 a.sheet.now) 12 19 c.loop-k.node-items (λ i h. c.loop-k.invariant i (omega arith))
    ∙ ap (fields (each 8 a.sheet.now) 12 19) long
