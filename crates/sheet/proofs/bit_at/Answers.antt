use Prim.Native.Nat.{◌/◌}
use mathlib.Core.Path.{◌≡◌, sym, ap, ◌∙◌}
use native.Mathlib.Omega.{arith}
use lib.ListN.{get_or}
use Rattle.std.proofs.Common.{rules}
use Rattle.bits.specs.Bit.{bit}
use Rattle.sheet.proofs.Fields.{each-bit}
use Rattle.sheet.proofs.bit_at.Goals as goal

pub returns : goal.returns
unfolding bit
returns c =
    let a = c.args in
    let is : c.unwrap_or-byte.result ≡ get_or a.sheet.now (a.i / 8) 0 = search rules in
    rw is (sym (each-bit 8 a.sheet.now a.i (omega arith) ∙ ap (bit (get_or a.sheet.now (a.i / 8) 0)) (omega arith)))
