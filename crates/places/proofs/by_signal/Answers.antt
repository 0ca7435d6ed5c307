-- `places::by_signal`: each set by itself.
use Rattle.std.proofs.Common.{min, rules}
use Rattle.places.specs.Matching.{naming_to}
use Rattle.places.proofs.ByPlace.{made-is}
use Rattle.places.proofs.by_signal.Goals as goal

pub returns : goal.returns
returns c =
    let a = c.args in
    made-is _ (λ i. naming_to a.masks.now i (min a.count 63)) _ (λ i y f k. search rules) _ 16 c.from_fn.ensures.items
