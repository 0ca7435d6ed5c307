use mathlib.Core.Path.{◌≡◌, ap, ◌∙◌}
use native.Mathlib.Omega.{arith}
use lib.ListN.{length}
use borrow.Author.Tests.{lt-ltb, le-ltb}
use Rattle.std.proofs.Common.{rules}
use Rattle.sheet.specs.Bits.{fields}
use Rattle.sheet.specs.Sheet.{sheet_bits, sheet_of, writing}
use Rattle.sheet.proofs.Fields.{fields-of-each, length_fields}
use Rattle.sheet.proofs.Packed.put.Goals as goal

pub returns-then-out-length : goal.returns-then-out-length
unfolding writing
returns-then-out-length c = rw (← c.length_of-length.ensures, lt-ltb _ _ c.if-out-length.true)

pub returns : goal.returns
unfolding writing sheet_of
returns c =
    let a = c.args.self.now in
    let long : length c.loop-k.byte-items ≡ c.length_of-length.result = search rules in
    let put : c.loop-k.byte-items ≡ fields (sheet_bits a.s a.nodes.now) 0 8 c.length_of-length.result =
    fields-of-each (sheet_bits a.s a.nodes.now) 0 8 c.loop-k.byte-items (λ i h. c.loop-k.invariant i (omega arith))
    ∙ ap (fields (sheet_bits a.s a.nodes.now) 0 8) long in
    rw (← c.length_of-length.ensures, le-ltb _ _ c.if-out-length.false, put, length_fields)
