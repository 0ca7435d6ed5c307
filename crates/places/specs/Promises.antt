-- What each public function promises, by name: its contract cites the name, and so does the line which says that any two results that
-- meet it are equal (`proofs/Unique.antt`).
use Rattle.std.specs.Prelude.{ℕ, ◌≡◌, List, Result}
use Rattle.effect.specs.declared.Refusal.{Refusal}
use Rattle.places.specs.declared.Side.{Side}
use Rattle.places.specs.declared.Naming.{Naming}
use Rattle.places.specs.Side.{no_side, prepared, prepare_of}
use Rattle.places.specs.Matching.{naming_of, matching_by}

abbrev pub NoSideIs : Side → Type 0
NoSideIs r = r ≡ no_side

abbrev pub PrepareIs : ℕ → List ℕ → Result Side Refusal → Type 0
PrepareIs s nodes r = prepared r ≡ prepare_of s nodes

abbrev pub NamingOfIs : Side → Naming → Type 0
NamingOfIs side r = r ≡ naming_of side

abbrev pub MatchingIs : Naming → ℕ → ℕ → ℕ → Type 0
MatchingIs naming s x r = r ≡ matching_by naming s x
