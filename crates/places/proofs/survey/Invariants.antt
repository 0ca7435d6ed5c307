-- `places::survey`. The loop keeps the masks of the first i nodes' instants, and these nodes in the skeleton.
use Rattle.places.specs.Walk.{table_of, Holds, Numbers}
use Rattle.places.proofs.survey.Given as goal

abbrev pub invariant-loop-i : goal.invariant-loop-i
invariant-loop-i l = Holds (table_of l.nodes) l.i l.masks × Numbers (table_of l.nodes) l.i l.skeleton
