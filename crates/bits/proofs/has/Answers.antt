-- `bits::has`: the bit as defined; past 64 bits there is none.
use Rattle.std.proofs.Common.{refl, sym}
use Rattle.bits.specs.Bit.{bit}
use Rattle.bits.proofs.Laws.{has-beyond}
use Rattle.bits.proofs.has.Goals as goal

pub returns-then-j-lt64 : goal.returns-then-j-lt64
unfolding bit
returns-then-j-lt64 c = refl

pub returns-else-j-lt64 : goal.returns-else-j-lt64
returns-else-j-lt64 c = sym (has-beyond 64 c.args.x c.args.j c.ranges.x.fits c.if-j-lt64.false)
