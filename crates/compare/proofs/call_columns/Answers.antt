-- `compare::call_columns`. Each case of the work is its call on columns.
use Rattle.compare.specs.Core.{WorksIn}
use Rattle.compare.proofs.call_columns.Goals as goal

pub returns-in-Start-clause-works : goal.returns-in-Start-clause-works
unfolding WorksIn
returns-in-Start-clause-works c = rw c.in-Start.is c.start_on.ensures.starts

pub returns-in-Run-clause-works : goal.returns-in-Run-clause-works
unfolding WorksIn
returns-in-Run-clause-works c = rw c.in-Run.is c.run_on.ensures.runs
