-- What a call leaves: its result at the front of what was lent where it accepts, all as it was where it refuses.
use Prim.Native.Nat.{ℕ}
use mathlib.Core.Path.{◌≡◌, ap}
use mathlib.Core.List.{List, []}
use borrow.Author.Tests.{ne_eqb}
use Rattle.effect.specs.Refusals.{front}
use Rattle.sheet.specs.Sheet.{Left, exit, left}

-- what an accepted call leaves
abbrev pub done : List ℕ → List ℕ → Left
done values lent = exit (record { number = 0; values = values }) lent

-- no refusal: the values, and the result at the front of what was lent
pub left-done : (r : ℕ) (values result lent : List ℕ) → r ≡ 0 → left r values result lent ≡ done values (front result lent)
left-done r values result lent z = ap (λ (n : ℕ). left n values result lent) z

pub left-refused : (r : ℕ) (values result lent : List ℕ) → (r ≡ 0 → ⊥) → left r values result lent ≡ exit (record { number = r; values = [] }) lent
left-refused r values result lent h = rw (ne_eqb r 0 h)
