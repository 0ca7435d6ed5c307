-- The room bound: different goals of a run are at most 1 + m × 2^k.
-- By the pigeonhole over the injection of a goal into a number below 1 + m × 2^k.
use Prim.Native.Nat.{ℕ, zero, suc, ◌+◌, ◌*◌, ◌^◌, ◌/◌, ◌%◌, ◌≤◌, ◌<◌}
use mathlib.Core.Path.{◌≡◌, refl, sym, ap, ◌∙◌, subst}
use mathlib.Core.Bool.{true, false≢true}
use mathlib.Core.Logic.{◌≢◌, ⊎_elim}
use mathlib.Core.List.{List, map}
use native.Mathlib.Nat.{pow-suc, div-lt_iff_lt-mul, zero-lt-suc}
use native.Mathlib.Omega.{arith}
use lib.Dec.{eqb}
use lib.ListN.{length, get_or}
use lib.Arith.{digits_div, digits_mod, digits_lt}
use borrow.Author.Tests.{eqb-true, ne_eqb}
use Rattle.std.specs.List.{IsDistinct, list_any, range_with_len}
use Rattle.std.proofs.lemmas.Bool.{or_cases}
use Rattle.std.proofs.lemmas.List.FromFn.{get_or-map-range_with_len, length-map-range_with_len}
use Rattle.std.proofs.lemmas.Map.Keys.{IsDistinct-from_apart}
use Rattle.std.proofs.lemmas.Map.Steps.{length-le_from_distinct_below}

-- ---- the pigeonhole: f takes c numbers to c different numbers below n
all-below : (n a c : ℕ) (f : ℕ → ℕ) → ((i : ℕ) → a ≤ i → i < a + c → f i < n) → (q : ℕ) → list_any (eqb q) (map f (range_with_len a c)) ≡ true → q < n
all-below n a zero f below q m = absurd (false≢true m)
all-below n a (suc c) f below q m =
    ⊎_elim (λ e. rw (eqb-true q (f a) e) (below a (omega arith) (omega arith)))
    (λ e. all-below n (a + 1) c f (λ i h l. below i (omega arith) (omega arith)) q e)
    (or_cases _ _ m)

pigeonhole : (n c : ℕ) (f : ℕ → ℕ) → ((i : ℕ) → i < c → f i < n) → ((i j : ℕ) → i < c → j < c → f i ≡ f j → i ≡ j) → c ≤ n
pigeonhole n c f below once = omega (arith, long, length-le_from_distinct_below xs n distinct (all-below n 0 c f (λ i h l. below i (omega arith))))
  where
    xs : List ℕ
    xs = map f (range_with_len 0 c)

    long : length xs ≡ c
    long = length-map-range_with_len f 0 c

    at : (i d : ℕ) → i < c → get_or xs i d ≡ f i
    at i d h = get_or-map-range_with_len f 0 c i i d h (omega arith)

    distinct : IsDistinct eqb xs
    distinct =
        IsDistinct-from_apart eqb xs
        (λ i j d l h. ne_eqb _ _ (λ e. let z : i ≡ j = once i j (omega (arith, long)) (omega (arith, long)) (sym (at i d (omega (arith, long))) ∙ e ∙ at j d (omega (arith, long))) in omega arith))

-- ---- a goal as a number
-- the goal of a row after the first: a left place from 1 to m, and right places from 1 to k only
abbrev pub Late : ℕ → ℕ → ℕ → ℕ → Type 0
Late m k p S = (0 < p) × (p ≤ m) × (S < 2 ^ suc k) × (S % 2 ≡ 0)

-- The start is 0. A late goal is one of the m × 2^k numbers after it: its place less 1 is the high digits, and the low k bits are
-- the set without bit 0, which no late goal has.
abbrev code : ℕ → ℕ → ℕ → ℕ
code k zero S = 0
code k (suc p) S = suc (p * 2 ^ k + S / 2)

half_lt : (k S : ℕ) → S < 2 ^ suc k → S / 2 < 2 ^ k
half_lt k S h = (div-lt_iff_lt-mul (zero-lt-suc 1)).1 (subst (λ (z : ℕ). S < z) (pow-suc 2 k) h)

code-pos : (m k p S : ℕ) → Late m k p S → code k p S ≢ 0
code-pos m k zero S (a, b, c, d) e = omega arith
code-pos m k (suc p) S h e = omega arith

code_lt : (m k p S : ℕ) → Late m k p S → code k p S < suc (m * 2 ^ k)
code_lt m k zero S (a, b, c, d) = absurd (omega arith)
code_lt m k (suc p) S (a, b, c, d) = let h : p * 2 ^ k + S / 2 < m * 2 ^ k = digits_lt b (half_lt k S c) in omega arith

code-once : (m k p S p' S' : ℕ) → Late m k p S → Late m k p' S' → code k p S ≡ code k p' S' → (p ≡ p') × (S ≡ S')
code-once m k zero S p' S' (a, b, c, d) h e = absurd (omega arith)
code-once m k (suc p) S zero S' h (a, b, c, d) e = absurd (omega arith)
code-once m k (suc p) S (suc p') S' (a, b, c, d) (a', b', c', d') e =
    let digits : p * 2 ^ k + S / 2 ≡ p' * 2 ^ k + S' / 2 = omega arith in
    let high : p ≡ p' = sym (digits_div p (half_lt k S c)) ∙ ap (λ (y : ℕ). y / 2 ^ k) digits ∙ digits_div p' (half_lt k S' c') in
    let low : S / 2 ≡ S' / 2 = sym (digits_mod p (half_lt k S c)) ∙ ap (λ (y : ℕ). y % 2 ^ k) digits ∙ digits_mod p' (half_lt k S' c') in
    (ap suc high, omega arith)

-- ---- c different goals, of which the first has place 0 and each other is late
pub goals-bound : (m k c : ℕ) (p S : ℕ → ℕ) → p 0 ≡ 0 → ((i : ℕ) → 0 < i → i < c → Late m k (p i) (S i))
    → ((i j : ℕ) → i < c → j < c → p i ≡ p j → S i ≡ S j → i ≡ j) → c ≤ 1 + m * 2 ^ k
goals-bound m k c p S start late differ = let h : c ≤ suc (m * 2 ^ k) = pigeonhole (suc (m * 2 ^ k)) c number below once in omega arith
  where
    number : ℕ → ℕ
    number i = code k (p i) (S i)

    first : number 0 ≡ 0
    first = ap (λ (y : ℕ). code k y (S 0)) start

    below : (i : ℕ) → i < c → number i < suc (m * 2 ^ k)
    below zero h = omega (arith, first)
    below (suc i) h = code_lt m k (p (suc i)) (S (suc i)) (late (suc i) (omega arith) h)

    later : (i : ℕ) → suc i < c → number (suc i) ≢ 0
    later i h = code-pos m k (p (suc i)) (S (suc i)) (late (suc i) (omega arith) h)

    once : (i j : ℕ) → i < c → j < c → number i ≡ number j → i ≡ j
    once zero zero h l e = refl
    once zero (suc j) h l e = absurd (later j l (sym e ∙ first))
    once (suc i) zero h l e = absurd (later i h (e ∙ first))
    once (suc i) (suc j) h l e =
        let same = code-once m k (p (suc i)) (S (suc i)) (p (suc j)) (S (suc j)) (late (suc i) (omega arith) h) (late (suc j) (omega arith) l) e in
        differ (suc i) (suc j) h l same.0 same.1
