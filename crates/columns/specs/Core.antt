-- What the functions under the calls promise each other.
use Rattle.std.specs.Prelude.{ℕ, zero, suc, ◌≤◌, ◌<◌, ◌^◌, ◌≡◌, Bool, true, false, Result, Ok, Err, List, [], ◌∷◌, ◌++◌, eqb, length, get_or}
use Rattle.goals.specs.declared.Row.{Row}
use Rattle.places.specs.Matching.{naming_of, matching_by}
use Rattle.columns.specs.declared.NoRoom.{NoRoom}
use Rattle.columns.specs.declared.Letters.{Letters}
use Rattle.columns.specs.declared.Sides.{Sides}
use Rattle.goals.specs.Goals.{Entered}
use Rattle.places.specs.declared.Side.{Side}
use Rattle.places.specs.Readings.{matching, followers, spread_to}
use Rattle.stepping.specs.declared.Source.{Source}
use Rattle.goals.specs.declared.Run.{Run}
use Rattle.goals.specs.Run.{State}
use Rattle.goals.specs.Refusals.{record_of}
use Rattle.goals.specs.declared.SideRefusal.{SideRefusal}
use Rattle.asking.specs.declared.Asked.{Asked}
use Rattle.asking.specs.Asked.{unless_refused, run_refusal_on}
use Rattle.columns.specs.Calls.{Columns, put}

-- the columns have room for so many rows, of which so many are used
pub record Fits (c : Columns) (n room : ℕ) : Type 0 where
  pub used : n ≤ room
  pub small : room ≤ 65535
  pub places : room ≤ length c.places
  pub sets : room ≤ length c.sets
  pub parents : room ≤ length c.parents
  pub letters : room ≤ length c.letters

-- the used rows before any goal is entered
abbrev pub entering : List Row → Entered
entering rows = record { rows = rows; full = false }

-- how many rows are used once goals were entered, and whether one found no room
abbrev pub used_of : Result ℕ NoRoom → ℕ
used_of (Ok used) = used
used_of (Err e) = e.used

abbrev pub full_of : Result ℕ NoRoom → Bool
full_of (Ok used) = false
full_of (Err e) = true

-- columns and answer are what the definition's entered rows say
pub record Enters (before after : Columns) (e : Entered) (r : Result ℕ NoRoom) : Type 0 where
  pub columns : after ≡ put e.rows before
  pub used : used_of r ≡ length e.rows
  pub full : full_of r ≡ e.full

-- the letters of a call on two sides
abbrev pub letters_of : Side → Side → Letters
letters_of left right = record { s = left.s; left = naming_of left; right = naming_of right }

abbrev pub sides_of : Side → Side → Sides
sides_of left right = record { left = left; right = right; letters = letters_of left right }

-- what the goals of row i are made of, whose place and set these are
abbrev pub source_of : Side → Side → Letters → ℕ → ℕ → ℕ → Source
source_of left right ls place set i =
    record {
      s = ls.s;
      letters = 2 ^ ls.s;
      left = ls.left;
      right = ls.right;
      follow = followers left place;
      spread = spread_to right set 64;
      parent = i;
    }

-- a run that can take a step: some row is not settled, and the letters are worked out for the two sides
pub record Ready (c : Columns) (room : ℕ) (left right : Side) (ls : Letters) (r : Run) : Type 0 where
  pub fits : Fits c r.used room
  pub left_over : r.settled < r.used
  pub few : ls.s ≤ 16
  pub signals : ls.s ≡ left.s
  pub on_left : (x : ℕ) → x < 2 ^ left.s → matching_by ls.left ls.s x ≡ matching left x
  pub on_right : (x : ℕ) → x < 2 ^ left.s → matching_by ls.right ls.s x ≡ matching right x

-- columns and record are what the definition's state says
pub record Steps (before after : Columns) (st : State) (r : Run) : Type 0 where
  pub columns : after ≡ put st.rows before
  pub now : r ≡ record_of st

-- a side by value whose letters can be worked out signal by signal
abbrev pub Matchable : Side → Type 0
Matchable sd = (x : ℕ) → x < 2 ^ sd.s → matching_by (naming_of sd) sd.s x ≡ matching sd x

-- a run that can be gone on with, decided or not
pub record Runnable (c : Columns) (room : ℕ) (left right : Side) (r : Run) : Type 0 where
  pub fits : Fits c r.used room
  pub unsettled : (r.outcome ≡ 1 → ⊥) → r.settled < r.used
  pub few : left.s ≤ 16
  pub signals : right.s ≡ left.s
  pub on_left : Matchable left
  pub on_right : Matchable right

-- every row but row 0 has its parent below it, and so leads to row 0
abbrev pub Rooted : List ℕ → ℕ → Type 0
Rooted parents n = (i : ℕ) → 0 < i → i < n → get_or parents i 0 < i

-- the letters on the way from row 0 to row i
unfoldable pub climb : List ℕ → List ℕ → ℕ → ℕ → List ℕ
climb parents letters zero i = []
climb parents letters (suc f) i =
    elim (eqb i 0) [ true ↦ [] | false ↦ climb parents letters f (get_or parents i 0) ++ (get_or letters i 0 ∷ []) ]

-- what run and trace ask first, of n rows lent, the used rows and the record
abbrev pub MayRun : Asked → ℕ → List Row → Run → Result Unit SideRefusal → Type 0
MayRun a n rows r answer = answer ≡ unless_refused (run_refusal_on a n rows r) tt
