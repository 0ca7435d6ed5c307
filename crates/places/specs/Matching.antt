-- The places that match a letter, as a run works them out: once a call and for each signal, the places that name it
-- present and those that name it absent; then for each letter what is left when, for each signal, the one or the other
-- is taken away. A place that names a signal present which no letter has matches none, and is left out at once.
use Rattle.std.specs.Prelude.{ℕ, zero, suc, ◌^◌, ◌≤◌, ◌<◌, min, ◌≡◌, Bool, cond, List, get_or}
use Rattle.std.specs.Int.Bits.{bit_and, bit_or, bit_xor}
use Rattle.bits.specs.Bit.{has, within}
use Rattle.places.specs.declared.Side.{Side}
use Rattle.places.specs.declared.Naming.{Naming}
use Rattle.places.specs.Side.{list_of}
use Rattle.places.specs.Readings.{matching}

-- the places among 1 to k whose mask passes a test
unfoldable pub masked_to : (ℕ → Bool) → List ℕ → ℕ → ℕ
masked_to test masks zero = 0
masked_to test masks (suc k) = bit_or (masked_to test masks k) (cond (test (get_or masks (suc k) 0)) (2 ^ suc k) 0)

-- the places among 1 to k whose mask names the signal i
abbrev pub naming_to : List ℕ → ℕ → ℕ → ℕ
naming_to masks i = masked_to (λ m. has m i) masks

-- the places among 1 to k whose present mask names no signal of number s or above; the others match no letter
abbrev pub alive_to : List ℕ → ℕ → ℕ → ℕ
alive_to present s = masked_to (λ m. within s m) present

-- for each of 16 signals, the places that name it
abbrev pub by_signal : List ℕ → ℕ → List ℕ
by_signal masks count = list_of 16 (λ i. naming_to masks i count)

-- of the places 1 to count, of which there are 63 at most
unfoldable pub naming_of : Side → Naming
naming_of sd =
    let count = min sd.count 63 in
    record {
      alive = alive_to sd.present sd.s count;
      present = by_signal sd.present count;
      absent = by_signal sd.absent count;
    }

-- the set x without the members of y
abbrev pub without : ℕ → ℕ → ℕ
without x y = bit_xor x (bit_and x y)

-- what is left of `all` once the first i signals are looked at: a signal in the letter x takes away the places that name
-- it absent, any other those that name it present
unfoldable pub left_to : Naming → ℕ → ℕ → ℕ → ℕ
left_to naming x all zero = all
left_to naming x all (suc i) = without (left_to naming x all i) (cond (has x i) (get_or naming.absent i 0) (get_or naming.present i 0))

unfoldable pub matching_by : Naming → ℕ → ℕ → ℕ
matching_by naming s x = left_to naming x naming.alive s

-- of any side of at most 16 signals and 63 instants these are the places that match the letter, whatever its masks name
abbrev pub Matched : Type 0
Matched = (sd : Side) → sd.s ≤ 16 → sd.count ≤ 63 → (x : ℕ) → x < 2 ^ sd.s → matching_by (naming_of sd) sd.s x ≡ matching sd x
