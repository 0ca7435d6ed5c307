-- `stepping::lowest`. The trailing zeros end at the lowest member.
use Rattle.stepping.proofs.Laws.{lowest-is, lowest-some}
use Rattle.stepping.proofs.lowest.Goals as goal

pub returns : goal.returns
returns c =
    let s = c.args.set in record {
      is = lowest-is s c.ranges.set.fits;
      member = lowest-some s c.ranges.set.fits;
    }
