-- `places::masked`. The loop keeps the places before j that pass.
use Rattle.std.proofs.Common.{◌≡◌, ◌+◌, ◌-◌, get_or, ap, ◌∙◌, bit_or, arith, rules}
use Rattle.places.specs.Matching.{masked_to}
use Rattle.places.proofs.Letters.{masked-next}
use Rattle.places.proofs.masked.Goals as goal

pub loop-j-preserved : goal.loop-j-preserved
loop-j-preserved g c = λ passes h.
    let a = c.args in
    let mask : c.unwrap_or-mask.result ≡ get_or a.masks.now c.loop-j.j 0 = search rules in
    let next : c.loop-j.j ≡ c.loop-j.j + 1 - 1 = omega arith in
    ap (bit_or c.loop-j.r) c.only_if-r.ensures
    ∙ masked-next passes a.masks.now c.loop-j.j c.loop-j.r _ _ (omega arith) (omega arith) (c.loop-j.invariant passes h) (rw mask at (h _ _ c.test.ensures)) c.single.ensures
    ∙ ap (masked_to passes a.masks.now) next

pub returns : goal.returns
returns g c = λ passes h. c.loop-j.invariant passes h ∙ ap (masked_to passes c.args.masks.now) (omega arith)
