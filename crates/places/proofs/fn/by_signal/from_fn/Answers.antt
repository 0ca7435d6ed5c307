-- the closure in `places::by_signal`: the places whose mask names the signal.
use Rattle.std.proofs.Common.{rules}
use Rattle.bits.specs.Bit.{has}
use Rattle.places.proofs.fn.by_signal.from_fn.Goals as goal

pub returns : goal.returns
returns c = c.masked.ensures (λ m. has m c.args.i) (λ m b h. search rules)
