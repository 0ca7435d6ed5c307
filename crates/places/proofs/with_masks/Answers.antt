-- `places::with_masks`: an instant's masks go to the next place (`masks-instant`).
use Rattle.std.proofs.Common.{ap, arith}
use Rattle.effect.specs.Refusals.{one_if_instant}
use Rattle.places.specs.Side.{mask_in, present_in, absent_in}
use Rattle.places.proofs.Laws.{masks-instant}
use Rattle.places.proofs.with_masks.Goals as goal

pub returns-in-Instant-clause-present : goal.returns-in-Instant-clause-present
unfolding one_if_instant mask_in
returns-in-Instant-clause-present c = λ xs l h. masks-instant xs _ _ _ _ l (omega (arith, c.requires, ap one_if_instant c.in-Instant.is)) h (ap present_in c.in-Instant.is)

pub returns-in-Instant-clause-absent : goal.returns-in-Instant-clause-absent
unfolding one_if_instant mask_in
returns-in-Instant-clause-absent c = λ xs l h. masks-instant xs _ _ _ _ l (omega (arith, c.requires, ap one_if_instant c.in-Instant.is)) h (ap absent_in c.in-Instant.is)
