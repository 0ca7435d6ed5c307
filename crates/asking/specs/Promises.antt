-- What each public function promises, by name: its contract cites the name, and so does the line which says that any two results that
-- meet it are equal (`proofs/Unique.antt`).
use Rattle.std.specs.Prelude.{ℕ, ◌≡◌, Bool, Result}
use Rattle.places.specs.declared.Side.{Side}
use Rattle.goals.specs.declared.SideRefusal.{SideRefusal}
use Rattle.goals.specs.Refusals.{Given, against}
use Rattle.asking.specs.declared.Asked.{Asked}
use Rattle.asking.specs.Asked.{named, asked_of, side_impossible, why_not}

abbrev pub BothIs : ℕ → SideRefusal → Type 0
BothIs number r = r ≡ named (against 3 number)

abbrev pub AskIs : Given → Asked → Type 0
AskIs g r = r ≡ asked_of g

abbrev pub SideImpossibleIs : Side → Bool → Type 0
SideImpossibleIs side r = r ≡ side_impossible side

abbrev pub WhyNotIs : Asked → Result (Unit {0}) SideRefusal → Type 0
WhyNotIs asked r = r ≡ why_not asked
