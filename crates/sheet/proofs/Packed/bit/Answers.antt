use Prim.Native.Nat.{◌-◌, ◌/◌}
use mathlib.Core.Path.{◌≡◌, sym, ap, ◌∙◌}
use native.Mathlib.Omega.{arith}
use lib.ListN.{get_or}
use Rattle.std.proofs.Common.{rules}
use Rattle.bits.specs.Bit.{bit}
use Rattle.sheet.proofs.Fields.{each-bit}
use Rattle.sheet.proofs.SheetBits.{signals-bit, count-bit, node-bit}
use Rattle.sheet.proofs.Packed.bit.Goals as goal

pub returns-then-i-lt4 : goal.returns-then-i-lt4
unfolding bit
returns-then-i-lt4 c =
    let a = c.args.self.now in
    sym (signals-bit a.s a.nodes.now c.args.i c.if-i-lt4.true)

pub returns-then-i-lt12 : goal.returns-then-i-lt12
unfolding bit
returns-then-i-lt12 c =
    let a = c.args.self.now in
    sym (count-bit a.s a.nodes.now c.args.i c.if-i-lt4.false c.if-i-lt12.true)

pub returns : goal.returns
unfolding bit
returns c =
    let a = c.args.self.now in
    let is : c.unwrap_or-node.result ≡ get_or a.nodes.now ((c.args.i - 12) / 19) 0 = search rules in
    rw is
    (sym
    (node-bit a.s a.nodes.now c.args.i c.if-i-lt12.false
    ∙ each-bit 19 a.nodes.now (c.args.i - 12) (omega arith)
    ∙ ap (bit (get_or a.nodes.now ((c.args.i - 12) / 19) 0)) (omega arith)))
