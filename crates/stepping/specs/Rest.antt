-- All the goals that are still to come at a cursor, in their order. `next_goal` answers the first of them, and where the others stand.
use Rattle.std.specs.Prelude.{ℕ, zero, suc, ◌-◌, Option, Some, None, List, [], ◌∷◌, ◌++◌}
use Rattle.goals.specs.declared.Row.{Row}
use Rattle.goals.specs.Goals.{row, each_member}
use Rattle.stepping.specs.declared.Source.{Source}
use Rattle.stepping.specs.declared.Cursor.{Cursor}
use Rattle.stepping.specs.Next.{members_at, set_at, letters_in}

-- a goal for each of these members, ascending
abbrev pub goals_with : Source → ℕ → ℕ → ℕ → List Row
goals_with src members set x = each_member members (λ j. row j set src.parent x) 64

-- the goals of the letter x
abbrev pub goals_for : Source → ℕ → List Row
goals_for src x = goals_with src (members_at src x) (set_at src x) x

-- the goals of n letters from x on, ascending
unfoldable pub letters_from : Source → ℕ → ℕ → List Row
letters_from src x zero = []
letters_from src x (suc n) = goals_for src x ++ letters_from src (suc x) n

-- the goals of a row: those of every letter
abbrev pub all_goals : Source → List Row
all_goals src = letters_from src 0 (letters_in src)

-- all that is still to come: the cursor's members of its letter, then the letters from x on
abbrev pub rest : Source → Cursor → List Row
rest src c = goals_with src c.members c.set c.letter ++ letters_from src c.x (letters_in src - c.x)

-- what an answer leaves to come, its goal among it
unfoldable pub rest_of : Source → Option (Row × Cursor) → List Row
rest_of src (Some (w, c)) = w ∷ rest src c
rest_of src None = []
