-- Fields of bits, one after another: "packed bit after bit, most significant first".
use Rattle.std.specs.Prelude.{ℕ, zero, suc, ◌+◌, ◌*◌, List, [], ◌∷◌, ◌++◌, get_or}
use Rattle.bits.specs.Bit.{bit}

-- the w bits of v, most significant first
unfoldable pub digits : ℕ → ℕ → List ℕ
digits zero v = []
digits (suc w) v = bit v w ∷ digits w v

-- the bits of each of the numbers, w of them a number
unfoldable pub each : ℕ → List ℕ → List ℕ
each w [] = []
each w (v ∷ vs) = digits w v ++ each w vs

-- the number that the w bits from bit o on write, most significant first
unfoldable pub field : List ℕ → ℕ → ℕ → ℕ
field bs o zero = 0
field bs o (suc w) = field bs o w * 2 + get_or bs (o + w) 0

-- the n numbers of w bits each from bit o on
unfoldable pub fields : List ℕ → ℕ → ℕ → ℕ → List ℕ
fields bs o w zero = []
fields bs o w (suc n) = fields bs o w n ++ (field bs (o + w * n) w ∷ [])
