-- What each public function promises, by name: its contract cites the name, and so does the line which says that any two results that
-- meet it are equal (`proofs/Unique.antt`).
use Rattle.std.specs.Prelude.{ℕ, ◌≡◌, Bool}
use Rattle.bits.specs.Bit.{has, single, within}

abbrev pub HasIs : ℕ → ℕ → Bool → Type 0
HasIs x j r = r ≡ has x j

abbrev pub SingleIs : ℕ → ℕ → Type 0
SingleIs j r = r ≡ single 64 j

abbrev pub WithinIs : ℕ → ℕ → Bool → Type 0
WithinIs x w r = r ≡ within w x
