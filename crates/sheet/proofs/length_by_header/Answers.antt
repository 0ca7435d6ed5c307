-- `sheet::length_by_header`: N is the field after s; the bound of `length_of` is that of any number of 8 bits.
use mathlib.Core.Path.{ap, ◌∙◌}
use native.Mathlib.Omega.{arith}
use Rattle.sheet.specs.Sheet.{sheet_length, count_in}
use Rattle.sheet.proofs.Heading.{read-lt}
use Rattle.sheet.proofs.length_by_header.Goals as goal

pub length_of-requires : goal.length_of-requires
length_of-requires c = omega (arith, read-lt c.args.sheet.now _ _ _ c.field_at.ensures)

pub returns : goal.returns
unfolding count_in
returns c = c.length_of.ensures ∙ ap sheet_length c.field_at.ensures
