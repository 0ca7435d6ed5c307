-- `effect::check`. The loop keeps what the first i nodes leave (`After`); each way out is a row of the table (`check-node`, `check-rest`).
use Rattle.effect.specs.Node.{decodings}
use Rattle.effect.proofs.Laws.{After}
use Rattle.effect.proofs.check.Given as goal

abbrev pub invariant-loop-i : goal.invariant-loop-i
invariant-loop-i l = After l.s (decodings l.nodes) l.i l.seen.instants l.seen.claimed
