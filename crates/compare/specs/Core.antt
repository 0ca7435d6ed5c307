-- What the functions under the calls on rows promise each other.
use Rattle.std.specs.Prelude.{ℕ, min, Result}
use Rattle.goals.specs.declared.SideRefusal.{SideRefusal}
use Rattle.goals.specs.declared.Run.{Run}
use Rattle.goals.specs.Refusals.{room_of}
use Rattle.asking.specs.declared.Asked.{Asked}
use Rattle.columns.specs.Calls as core
use Rattle.columns.specs.Calls.{Columns}
use Rattle.compare.specs.declared.Work.{Work}
use Rattle.compare.specs.declared.Work.TheVariants as work-variants

-- how many rows a call loads: start none, run those used, and no more than the room has
unfoldable pub to_load : Work → ℕ → ℕ → ℕ
to_load work-variants.Start used lent = 0
to_load (work-variants.Run budget) used lent = min (room_of lent) used

-- the calls on columns, for the rows
unfoldable pub WorksIn : Work → Asked → ℕ → Columns → Run → Result Run SideRefusal → Columns → Type 0
WorksIn work-variants.Start a lent c held answer c' = core.Starts a lent c answer c'
WorksIn (work-variants.Run budget) a lent c held answer c' = core.Runs a lent c held budget answer c'
