use mathlib.Core.Path.{◌≡◌}
use lib.ListN.{get_or}
use Rattle.sheet.specs.Bits.{each}
use Rattle.std.proofs.Common.{rules}
use Rattle.sheet.proofs.Fields.{byte-bits}
use Rattle.sheet.proofs.field_at.Goals as goal

pub number_of-requires-clause-bits : goal.number_of-requires-clause-bits
number_of-requires-clause-bits c = λ i b h.
    let is : b ≡ get_or (each 8 c.args.sheet.now) i 0 = search rules in rw is (byte-bits c.args.sheet.now i)
