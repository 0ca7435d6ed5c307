-- `bits::within`: 64 bits are below any larger bound.
use Rattle.std.proofs.Common.{sym}
use Rattle.bits.proofs.Laws.{within-beyond}
use Rattle.bits.proofs.within.Goals as goal

pub returns-else-w-lt64 : goal.returns-else-w-lt64
returns-else-w-lt64 c = sym (within-beyond 64 c.args.x c.args.w c.ranges.x.fits c.if-w-lt64.false)
