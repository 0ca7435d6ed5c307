-- What the public function promises, by name: its contract cites the name, and so does the line which says that any two results that meet
-- it are equal (`proofs/Unique.antt`).
use Rattle.std.specs.Prelude.{◌≡◌, Option}
use Rattle.goals.specs.declared.Row.{Row}
use Rattle.stepping.specs.declared.Source.{Source}
use Rattle.stepping.specs.declared.Cursor.{Cursor}
use Rattle.stepping.specs.Next.{next_goal}

abbrev pub NextGoalIs : Source → Cursor → Option (Row × Cursor) → Type 0
NextGoalIs from at r = r ≡ next_goal from at
