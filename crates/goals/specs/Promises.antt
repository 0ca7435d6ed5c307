-- What each public function promises, by name: its contract cites the name, and so does the line which says that any two results that
-- meet it are equal (`proofs/Unique.antt`).
use Rattle.std.specs.Prelude.{ℕ, min, ◌≡◌, Bool, List, get_or}
use Rattle.places.specs.declared.Side.{Side}
use Rattle.places.specs.Readings.{spread_to}
use Rattle.goals.specs.declared.Goal.{Goal}
use Rattle.goals.specs.declared.Row.{Row}
use Rattle.goals.specs.declared.Run.{Run}
use Rattle.goals.specs.Goals.{bad_goal, same_goal}
use Rattle.goals.specs.Refusals.{room_of, record_impossible, row_zero_impossible, row_impossible}

abbrev pub SameGoalIs : Goal → Goal → Bool → Type 0
SameGoalIs a b r = r ≡ same_goal a.place a.set b.place b.set

abbrev pub BadIs : ℕ → ℕ → Goal → Bool → Type 0
BadIs left right g r = r ≡ bad_goal left right g.place g.set

abbrev pub FollowersAtIs : List ℕ → ℕ → ℕ → Type 0
FollowersAtIs follow j r = r ≡ get_or follow j 0

abbrev pub SpreadOfIs : Side → ℕ → ℕ → Type 0
SpreadOfIs side set r = r ≡ spread_to side set 64

abbrev pub RecordImpossibleIs : ℕ → Run → Bool → Type 0
RecordImpossibleIs room held r = r ≡ record_impossible room held

abbrev pub RowZeroImpossibleIs : Row → Bool → Type 0
RowZeroImpossibleIs w r = r ≡ row_zero_impossible w

abbrev pub RowImpossibleIs : ℕ → ℕ → ℕ → ℕ → Row → Bool → Type 0
RowImpossibleIs s m k i w r = r ≡ row_impossible s m k i w

abbrev pub LesserIs : ℕ → ℕ → ℕ → Type 0
LesserIs a b r = r ≡ min a b

abbrev pub ShortestIs : ℕ → ℕ → ℕ → ℕ → ℕ → ℕ → Type 0
ShortestIs lent places sets parents letters r = r ≡ min lent (min places (min sets (min parents letters)))

abbrev pub RoomOfIs : ℕ → ℕ → Type 0
RoomOfIs lent r = r ≡ room_of lent
