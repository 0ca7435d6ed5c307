-- Goals and rows. "A goal is a left place and a set of right places."
use Rattle.std.specs.Prelude.{ℕ, zero, suc, ◌^◌, Bool, true, false, cond, ◌&&◌, ◌||◌, List, [], ◌∷◌, ◌++◌, eqb, length}
use Rattle.std.specs.Int.Bits.{bit_and}
use Rattle.bits.specs.Bit.{has}
use Rattle.places.specs.declared.Side.{Side}
use Rattle.places.specs.Readings.{matching, followers, post}
use Rattle.goals.specs.declared.Row.{Row}

-- "left place, right set (bit j for place j), parent row, letter"
abbrev pub row : ℕ → ℕ → ℕ → ℕ → Row
row place set parent letter = record { set = set; parent = parent; letter = letter; place = place }

-- "The start goal is 0 and {0}"; "row 0 (place 0, set {0}, parent 0, letter 0)"
abbrev pub row_zero : Row
row_zero = row 0 1 0 0

-- "A goal is bad if its left place accepts and no member of the set does": the places of each side that accept, and the goal
unfoldable pub bad_goal : ℕ → ℕ → ℕ → ℕ → Bool
bad_goal left right place set = has left place && eqb (bit_and set right) 0

abbrev pub bad : Side → Side → Row → Bool
bad left right w = bad_goal left.accepts right.accepts w.place w.set

-- the row f j of each member j of the set S that is below n, ascending
unfoldable pub each_member : ℕ → (ℕ → Row) → ℕ → List Row
each_member S f zero = []
each_member S f (suc j) = each_member S f j ++ cond (has S j) (f j ∷ []) []

-- The goals that the letter x leads to from row i, which is w: "the left followers ascending that match it: the new goal is
-- that place with all right places that follow a member of the set and match".
abbrev pub goals_of : Side → Side → ℕ → Row → ℕ → List Row
goals_of left right i w x =
    each_member (bit_and (followers left w.place) (matching left x)) (λ j. row j (post right w.set x) i x) 64

-- what f gives for each letter below n: "letters ascending"
unfoldable pub each_letter : (ℕ → List Row) → ℕ → List Row
each_letter f zero = []
each_letter f (suc x) = each_letter f x ++ f x

-- all that row i leads to, in the order of entry
unfoldable pub candidates : Side → Side → ℕ → Row → List Row
candidates left right i w = each_letter (goals_of left right i w) (2 ^ left.s)

-- two goals, each a place and a set, are one
abbrev pub same_goal : ℕ → ℕ → ℕ → ℕ → Bool
same_goal place set place' set' = eqb place place' && eqb set set'

-- a row has the place and set of c
unfoldable pub known : Row → List Row → Bool
known c [] = false
known c (w ∷ ws) = same_goal w.place w.set c.place c.set || known c ws

-- the used rows while goals are entered; full: a goal found no room
pub record Entered : Type 0 where
  pub rows : List Row
  pub full : Bool

-- "If no used row has this place and set, it is added at the end with parent r and this letter. If it must be added and
-- used = room: .. rows already added stay .. and the call ends"
unfoldable pub enter : ℕ → Row → Entered → Entered
enter room c e =
    cond (e.full || known c e.rows) e
    (cond (eqb (length e.rows) room) (record { rows = e.rows; full = true }) (record { rows = e.rows ++ (c ∷ []); full = false }))

unfoldable pub enter_all : ℕ → List Row → Entered → Entered
enter_all room [] e = e
enter_all room (c ∷ cs) e = enter_all room cs (enter room c e)
