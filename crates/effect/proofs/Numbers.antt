-- A refusal's number tells it from the others, and from 0, which is none.
use Prim.Native.Nat.{ℕ, ◌≤◌}
use mathlib.Core.Path.{◌≡◌, refl, sym, ap, ◌∙◌}
use mathlib.Core.List.{[], ◌∷◌}
use native.Mathlib.Omega.{arith}
use lib.ListN.{get_or}
use Rattle.effect.specs.declared.Refusal.{Refusal}
use Rattle.effect.specs.declared.Refusal.TheVariants.{SheetTooShort, SignalsAboveEight, NodeCount, SheetLength, FillingBit, TableTooShort, NoSuchNode, SignalBeyond, ChildNotBelow, ChildTaken, NobodysChild, TooManyInstants, OutputTooShort, SignalsDiffer, NoRows, RunImpossible, NotRefuted, BufferTooShort, SideImpossible}
use Rattle.effect.specs.Refusals.{refusal_number}

-- the refusal of a number; that of 0 and of 19 and above is never asked, but for 24
abbrev numbered : ℕ → Refusal
numbered n =
    get_or
    (SheetTooShort ∷ SheetTooShort ∷ SignalsAboveEight ∷ NodeCount ∷ SheetLength ∷ FillingBit ∷ TableTooShort ∷ NoSuchNode ∷ SignalBeyond ∷ ChildNotBelow
    ∷ ChildTaken ∷ NobodysChild ∷ TooManyInstants ∷ OutputTooShort ∷ SignalsDiffer ∷ NoRows ∷ RunImpossible ∷ NotRefuted ∷ BufferTooShort ∷ [])
    n SideImpossible

numbered-number : (r : Refusal) → numbered (refusal_number r) ≡ r
numbered-number SheetTooShort = refl
numbered-number SignalsAboveEight = refl
numbered-number NodeCount = refl
numbered-number SheetLength = refl
numbered-number FillingBit = refl
numbered-number TableTooShort = refl
numbered-number NoSuchNode = refl
numbered-number SignalBeyond = refl
numbered-number ChildNotBelow = refl
numbered-number ChildTaken = refl
numbered-number NobodysChild = refl
numbered-number TooManyInstants = refl
numbered-number OutputTooShort = refl
numbered-number SignalsDiffer = refl
numbered-number NoRows = refl
numbered-number RunImpossible = refl
numbered-number NotRefuted = refl
numbered-number BufferTooShort = refl
numbered-number SideImpossible = refl

pub number-inj : (r r' : Refusal) → refusal_number r ≡ refusal_number r' → r ≡ r'
number-inj r r' e = sym (numbered-number r) ∙ ap numbered e ∙ numbered-number r'

pub number-positive : (r : Refusal) → 1 ≤ refusal_number r
number-positive SheetTooShort = omega arith
number-positive SignalsAboveEight = omega arith
number-positive NodeCount = omega arith
number-positive SheetLength = omega arith
number-positive FillingBit = omega arith
number-positive TableTooShort = omega arith
number-positive NoSuchNode = omega arith
number-positive SignalBeyond = omega arith
number-positive ChildNotBelow = omega arith
number-positive ChildTaken = omega arith
number-positive NobodysChild = omega arith
number-positive TooManyInstants = omega arith
number-positive OutputTooShort = omega arith
number-positive SignalsDiffer = omega arith
number-positive NoRows = omega arith
number-positive RunImpossible = omega arith
number-positive NotRefuted = omega arith
number-positive BufferTooShort = omega arith
number-positive SideImpossible = omega arith
