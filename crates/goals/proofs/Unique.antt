-- Any two results that meet a promise are equal: each promise is an equation of the result.
use Prim.Native.Nat.{ℕ}
use mathlib.Core.Path.{◌≡◌, sym, ◌∙◌}
use mathlib.Core.Bool.{Bool}
use mathlib.Core.List.{List}
use Rattle.places.specs.declared.Side.{Side}
use Rattle.goals.specs.declared.Goal.{Goal}
use Rattle.goals.specs.declared.Row.{Row}
use Rattle.goals.specs.declared.Run.{Run}
use Rattle.goals.specs.Promises.{SameGoalIs, BadIs, FollowersAtIs, SpreadOfIs, RecordImpossibleIs, RowZeroImpossibleIs, RowImpossibleIs, LesserIs, ShortestIs, RoomOfIs}

pub same-goal-one : (a b : Goal) (r r' : Bool) → SameGoalIs a b r → SameGoalIs a b r' → r ≡ r'
same-goal-one a b r r' e f = e ∙ sym f

pub is-bad-one : (left right : ℕ) (g : Goal) (r r' : Bool) → BadIs left right g r → BadIs left right g r' → r ≡ r'
is-bad-one left right g r r' e f = e ∙ sym f

pub followers-at-one : (follow : List ℕ) (j r r' : ℕ) → FollowersAtIs follow j r → FollowersAtIs follow j r' → r ≡ r'
followers-at-one follow j r r' e f = e ∙ sym f

pub spread-of-one : (sd : Side) (S r r' : ℕ) → SpreadOfIs sd S r → SpreadOfIs sd S r' → r ≡ r'
spread-of-one sd S r r' e f = e ∙ sym f

pub record-impossible-one : (room : ℕ) (held : Run) (r r' : Bool) → RecordImpossibleIs room held r → RecordImpossibleIs room held r' → r ≡ r'
record-impossible-one room held r r' e f = e ∙ sym f

pub row-zero-impossible-one : (w : Row) (r r' : Bool) → RowZeroImpossibleIs w r → RowZeroImpossibleIs w r' → r ≡ r'
row-zero-impossible-one w r r' e f = e ∙ sym f

pub row-impossible-one : (s m k i : ℕ) (w : Row) (r r' : Bool) → RowImpossibleIs s m k i w r → RowImpossibleIs s m k i w r' → r ≡ r'
row-impossible-one s m k i w r r' e f = e ∙ sym f

pub room-of-one : (lent r r' : ℕ) → RoomOfIs lent r → RoomOfIs lent r' → r ≡ r'
room-of-one lent r r' e f = e ∙ sym f

pub lesser-one : (a b r r' : ℕ) → LesserIs a b r → LesserIs a b r' → r ≡ r'
lesser-one a b r r' e f = e ∙ sym f

pub shortest-one :
    (lent places sets parents letters r r' : ℕ) → ShortestIs lent places sets parents letters r → ShortestIs lent places sets parents letters r'
    → r ≡ r'
shortest-one lent places sets parents letters r r' e f = e ∙ sym f
