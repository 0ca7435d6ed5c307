-- The goals of a row, one after the other: "letters ascending, and for each the left followers ascending that match it: the new goal is
-- that place with all right places that follow a member of the set and match". Where they stand is a cursor by value.
use Rattle.std.specs.Prelude.{ℕ, zero, suc, ◌+◌, ◌-◌, min, cond, eqb, Option, Some, None}
use Rattle.std.specs.Int.Bits.{bit_and}
use Rattle.bits.specs.Bit.{has, single}
use Rattle.places.specs.Matching.{without, matching_by}
use Rattle.goals.specs.declared.Row.{Row}
use Rattle.goals.specs.Goals.{row}
use Rattle.stepping.specs.declared.Source.{Source}
use Rattle.stepping.specs.declared.Cursor.{Cursor}

-- the left followers that match the letter x, and the right places that follow and match
abbrev pub members_at : Source → ℕ → ℕ
members_at src x = bit_and src.follow (matching_by src.left src.s x)

abbrev pub set_at : Source → ℕ → ℕ
set_at src x = bit_and src.spread (matching_by src.right src.s x)

-- how many letters there are; a letter has 16 bits
abbrev pub letters_in : Source → ℕ
letters_in src = min src.letters 65536

-- the lowest member among n places from j on; j + n where there is none
unfoldable pub lowest_from : ℕ → ℕ → ℕ → ℕ
lowest_from set j zero = j
lowest_from set j (suc n) = cond (has set j) j (lowest_from set (suc j) n)

abbrev pub lowest_member : ℕ → ℕ
lowest_member set = lowest_from set 0 64

-- the cursor at the letter x; where no follower matches it, the right side is not looked at
unfoldable pub at_letter : Source → ℕ → Cursor
at_letter src x =
    let members = members_at src x in
    record { x = x + 1; letter = x; set = cond (eqb members 0) 0 (set_at src x); members = members }

-- at most n letters are passed, up to one that has a goal
unfoldable pub at_goal : Source → ℕ → Cursor → Cursor
at_goal src zero c = c
at_goal src (suc n) c = cond (eqb c.members 0) (at_goal src n (at_letter src c.x)) c

-- the goal of the cursor's lowest member, and the cursor without it; none where the cursor has no member
unfoldable pub taken : Source → Cursor → Option (Row × Cursor)
taken src c =
    let j = lowest_member c.members in
    let goal = row j c.set src.parent c.letter in
    let next : Cursor = record { x = c.x; letter = c.letter; set = c.set; members = without c.members (single 64 j) } in
    cond (eqb c.members 0) None (Some (goal, next))

-- what `next_goal` answers
abbrev pub next_goal : Source → Cursor → Option (Row × Cursor)
next_goal src c = taken src (at_goal src (letters_in src - c.x) c)
