use Prim.Native.Nat.{◌*◌}
use mathlib.Core.Path.{◌≡◌}
use native.Mathlib.Omega.{arith}
use lib.ListN.{get_or}
use Rattle.std.proofs.Common.{rules}
use Rattle.sheet.specs.Bits.{field}
use Rattle.sheet.specs.Sheet.{sheet_bits}
use Rattle.sheet.proofs.Fields.{field_lt}
use Rattle.sheet.proofs.SheetBits.{sheet_bits-bits}
use Rattle.sheet.proofs.Packed.byte.Goals as goal

pub number_of-requires-clause-bits : goal.number_of-requires-clause-bits
number_of-requires-clause-bits c = λ i b h.
    let is : b ≡ get_or (sheet_bits c.args.self.now.s c.args.self.now.nodes.now) i 0 = search rules in rw is (sheet_bits-bits c.args.self.now.s c.args.self.now.nodes.now i)

pub overflow_cast-result : goal.overflow_cast-result
overflow_cast-result c =
    let a = c.args.self.now in
    let is : c.number_of.result ≡ field (sheet_bits a.s a.nodes.now) (8 * c.args.k) 8 = search rules in
    omega (arith, field_lt (sheet_bits a.s a.nodes.now) (sheet_bits-bits a.s a.nodes.now) (8 * c.args.k) 8)
