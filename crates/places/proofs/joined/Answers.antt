-- `places::joined`: each set by itself.
use Rattle.std.proofs.Common.{get_or, bit_or, cond, rules}
use Rattle.bits.specs.Bit.{has}
use Rattle.places.proofs.ByPlace.{made-is}
use Rattle.places.proofs.joined.Goals as goal

pub returns : goal.returns
returns c =
    let a = c.args in
    made-is _ (λ j. bit_or (get_or a.follow j 0) (cond (has a.last j) a.first 0)) _ (λ i y f k. search rules) _ 64 c.from_fn.ensures.items
