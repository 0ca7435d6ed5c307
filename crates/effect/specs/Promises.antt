-- What each public function promises, by name: its contract cites the name, and so does the line which says that any two results that
-- meet it are equal (`proofs/Unique.antt`).
use Rattle.std.specs.Prelude.{ℕ, ◌≡◌, List, Option, Result}
use Rattle.effect.specs.declared.Node.{Node}
use Rattle.effect.specs.declared.Refusal.{Refusal}
use Rattle.effect.specs.Node.{decode_of, number_of}
use Rattle.effect.specs.Refusals.{refusal_number, checked, check_of}

abbrev pub RefusalNumberIs : Refusal → ℕ → Type 0
RefusalNumberIs r n = n ≡ refusal_number r

abbrev pub DecodeIs : ℕ → Option Node → Type 0
DecodeIs x r = r ≡ decode_of x

abbrev pub NumberIs : Node → Option ℕ → Type 0
NumberIs n r = r ≡ number_of n

abbrev pub CheckIs : ℕ → List ℕ → Result ℕ Refusal → Type 0
CheckIs s nodes r = checked r ≡ check_of s nodes
