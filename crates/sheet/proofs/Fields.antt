-- The laws of bits and fields, over any width w: the digits of numbers laid one after another, the numbers read from
-- them, and that each undoes the other. All of them speak of one bit at a place w * q + r with r < w, so no law but
-- `each-bit` divides; a field's digits come one at a time, by bit 0 of v being v % 2 and bit j + 1 being bit j of v / 2.
use Prim.Native.Nat.{ℕ, zero, suc, ◌+◌, ◌-◌, ◌*◌, ◌/◌, ◌%◌, ◌^◌, ◌<◌, ◌≤◌}
use mathlib.Core.Path.{◌≡◌, refl, sym, ap, ◌∙◌}
use mathlib.Core.Bool.{not, ◌||◌}
use mathlib.Core.Logic.{⊎_elim}
use mathlib.Core.List.{List, [], ◌∷◌, ◌++◌}
use native.Mathlib.Nat.{pow-suc, mul-suc, mul-zero, eq-or-lt_of_le, le_of_suc-le-suc, mod-lt, div-add-mod, div-lt_iff_lt-mul, mul_comm}
use native.Mathlib.Omega.{arith}
use lib.Dec.{eqb}
use lib.ListN.{length, get_or, replicate, length-append, get_or-append, get_or-eq_default}
use lib.Seq.{get_or_at, ext_get_or}
use borrow.Author.Tests.{ne_eqb}
use Rattle.std.proofs.lemmas.Bool.{cases_lt}
use Rattle.std.proofs.lemmas.List.{get_or-append_right}
use Rattle.bits.specs.Bit.{bit}
use Rattle.bits.proofs.Laws.{bit-low, bit-suc, bit-lt, bit-zero}
use Rattle.effect.specs.Refusals.{some_below}
use Rattle.sheet.specs.Bits.{digits, each, field, fields}

-- zeros at the end add nothing, since 0 is what stands past the end
pub getD-zeros : (xs : List ℕ) (n i : ℕ) → get_or (xs ++ replicate n 0) i 0 ≡ get_or xs i 0
getD-zeros xs n i = ⊎_elim (λ h. get_or-append xs (replicate n 0) 0 i h) past (cases_lt i (length xs))
  where
    zeros : (n i : ℕ) → ◌≡◌ {A = ℕ} (get_or (replicate n 0) i 0) 0
    zeros zero i = refl
    zeros (suc n) zero = refl
    zeros (suc n) (suc i) = zeros n i

    past : length xs ≤ i → get_or (xs ++ replicate n 0) i 0 ≡ get_or xs i 0
    past h = get_or-append_right xs (replicate n 0) (length xs) i 0 refl h ∙ zeros n (i - length xs) ∙ sym (get_or-eq_default xs 0 h)

-- THE BITS OF NUMBERS

pub length_digits : (w v : ℕ) → length (digits w v) ≡ w
unfolding digits
length_digits zero v = refl
length_digits (suc w) v = ap suc (length_digits w v)

pub getD-digits : (w v k : ℕ) → k < w → get_or (digits w v) k 0 ≡ bit v (w - (k + 1))
unfolding digits
getD-digits zero v zero h = absurd (omega arith)
getD-digits zero v (suc k) h = absurd (omega arith)
getD-digits (suc w) v zero h = ap (bit v) (omega arith)
getD-digits (suc w) v (suc k) h = getD-digits w v k (omega arith) ∙ ap (bit v) (omega arith)

pub length-each : (w : ℕ) (vs : List ℕ) → length (each w vs) ≡ w * length vs
unfolding each
length-each w [] = sym (mul-zero w)
length-each w (v ∷ vs) = length-append (digits w v) (each w vs) ∙ omega (arith, length_digits w v, length-each w vs, mul-suc w (length vs))

-- bit r of number q
pub each_at : (w : ℕ) (vs : List ℕ) (q r : ℕ) → r < w → get_or (each w vs) (w * q + r) 0 ≡ bit (get_or vs q 0) (w - (r + 1))
unfolding each
each_at w [] zero r h = sym (bit-zero (w - (r + 1)))
each_at w [] (suc q) r h = sym (bit-zero (w - (r + 1)))
each_at w (v ∷ vs) zero r h =
    ap (λ (k : ℕ). get_or (digits w v ++ each w vs) k 0) (let z : w * 0 + r ≡ r = omega (arith, mul-zero w) in z)
    ∙ get_or-append (digits w v) (each w vs) 0 r (omega (arith, length_digits w v))
    ∙ getD-digits w v r h
each_at w (v ∷ vs) (suc q) r h =
    get_or-append_right (digits w v) (each w vs) w (w * suc q + r) 0 (length_digits w v) (omega (arith, mul-suc w q))
    ∙ ap (λ (k : ℕ). get_or (each w vs) k 0) (let z : w * suc q + r - w ≡ w * q + r = omega (arith, mul-suc w q) in z)
    ∙ each_at w vs q r h

pub each-bit : (w : ℕ) (vs : List ℕ) (i : ℕ) → 0 < w → get_or (each w vs) i 0 ≡ bit (get_or vs (i / w) 0) (w - (i % w + 1))
each-bit w vs i h = ap (λ (k : ℕ). get_or (each w vs) k 0) (sym (div-add-mod i w)) ∙ each_at w vs (i / w) (i % w) (mod-lt i h)

-- FIELDS

-- every entry is a bit
abbrev pub AreBits : List ℕ → Type 0
AreBits bs = (i : ℕ) → get_or bs i 0 < 2

pub each_bits : (w : ℕ) (vs : List ℕ) → 0 < w → AreBits (each w vs)
each_bits w vs h i = rw (each-bit w vs i h) (bit-lt (get_or vs (i / w) 0) (w - (i % w + 1)))

pub byte-bits : (bytes : List ℕ) → AreBits (each 8 bytes)
byte-bits bytes = each_bits 8 bytes (omega arith)

-- of a number's digits the last is the remainder by 2, and the others are those of the half
digit-last : (w k v : ℕ) → k ≡ w → bit v (suc w - (k + 1)) ≡ v % 2
digit-last w k v e = ap (bit v) (let z : suc w - (k + 1) ≡ 0 = omega arith in z) ∙ bit-low v

digit-half : (w k v : ℕ) → k < w → bit v (suc w - (k + 1)) ≡ bit (v / 2) (w - (k + 1))
digit-half w k v h = ap (bit v) (let z : suc w - (k + 1) ≡ suc (w - (k + 1)) = omega arith in z) ∙ bit-suc v (w - (k + 1))

module _ (bs : List ℕ) (are : AreBits bs) (o : ℕ) where
  pub field_lt : (w : ℕ) → field bs o w < 2 ^ w
  unfolding field
  field_lt zero = omega arith
  field_lt (suc w) = omega (arith, field_lt w, are (o + w), pow-suc 2 w)

  -- a field's digits are the bits that it was read from
  pub digit-of-field : (w k : ℕ) → k < w → bit (field bs o w) (w - (k + 1)) ≡ get_or bs (o + k) 0
  unfolding field
  digit-of-field zero k h = absurd (omega arith)
  digit-of-field (suc w) k h =
      let v = field bs o w * 2 + get_or bs (o + w) 0 in
      ⊎_elim
      (λ e. digit-last w k v e ∙ (let z : v % 2 ≡ get_or bs (o + w) 0 = omega (arith, are (o + w)) in z) ∙ ap (λ (j : ℕ). get_or bs (o + j) 0) (sym e))
      (λ l. digit-half w k v l ∙ ap (λ (x : ℕ). bit x (w - (k + 1))) (let z : v / 2 ≡ field bs o w = omega (arith, are (o + w)) in z) ∙ digit-of-field w k l)
      (eq-or-lt_of_le (le_of_suc-le-suc h))

  -- a field is 0 exactly when none of its bits is set
  pub field-some : (w : ℕ) → some_below w (λ k. eqb (get_or bs (o + k) 0) 1) ≡ not (eqb (field bs o w) 0)
  unfolding field some_below
  field-some zero = refl
  field-some (suc w) = rw (field-some w) (go (get_or bs (o + w) 0) (are (o + w)) (field bs o w))
    where
      go : (b : ℕ) → b < 2 → (v : ℕ) → (not (eqb v 0) || eqb b 1) ≡ not (eqb (v * 2 + b) 0)
      go zero h zero = refl
      go zero h (suc v) = rw (ne_eqb (suc v) 0 (λ e. omega arith), ne_eqb (suc v * 2 + 0) 0 (λ e. omega arith))
      go (suc zero) h zero = refl
      go (suc zero) h (suc v) = rw (ne_eqb (suc v) 0 (λ e. omega arith), ne_eqb (suc v * 2 + 1) 0 (λ e. omega arith))
      go (suc (suc b)) h v = absurd (omega arith)

-- bits that are the digits of v read back as v
pub field-of-digits : (bs : List ℕ) (o w v : ℕ) → v < 2 ^ w → ((k : ℕ) → k < w → get_or bs (o + k) 0 ≡ bit v (w - (k + 1))) → field bs o w ≡ v
unfolding field
field-of-digits bs o zero v h d = omega arith
field-of-digits bs o (suc w) v h d =
    let high = field-of-digits bs o w (v / 2) (omega (arith, pow-suc 2 w)) (λ k l. d k (omega arith) ∙ digit-half w k v l) in
    let low = d w (omega arith) ∙ digit-last w w v refl in
    omega arith

-- ROWS OF FIELDS

module _ (bs : List ℕ) (o w : ℕ) where
  pub length_fields : (n : ℕ) → length (fields bs o w n) ≡ n
  unfolding fields
  length_fields zero = refl
  length_fields (suc n) = length-append (fields bs o w n) _ ∙ omega (arith, length_fields n)

  pub getD-fields : (n k : ℕ) → k < n → get_or (fields bs o w n) k 0 ≡ field bs (o + w * k) w
  unfolding fields
  getD-fields zero k h = absurd (omega arith)
  getD-fields (suc n) k h =
      ⊎_elim
      (λ e. get_or_at (fields bs o w n) _ [] 0 k (length_fields n ∙ sym e) ∙ ap (λ (j : ℕ). field bs (o + w * j) w) (sym e))
      (λ l. get_or-append (fields bs o w n) _ 0 k (omega (arith, length_fields n)) ∙ getD-fields n k l)
      (eq-or-lt_of_le (le_of_suc-le-suc h))

-- numbers that are each a field are the row of fields, which is what a loop over them does
pub fields-of-each :
    (bs : List ℕ) (o w : ℕ) (vs : List ℕ)
    → ((k : ℕ) → k < length vs → get_or vs k 0 ≡ field bs (o + w * k) w)
    → vs ≡ fields bs o w (length vs)
fields-of-each bs o w vs is =
    ext_get_or 0 vs (fields bs o w (length vs)) (sym (length_fields bs o w (length vs)))
    (λ k h. is k h ∙ sym (getD-fields bs o w (length vs) k h))

-- numbers whose digits are the bits are the fields
pub fields-of-digits :
    (bs : List ℕ) (o w : ℕ) (vs : List ℕ)
    → ((k : ℕ) → get_or vs k 0 < 2 ^ w)
    → ((k j : ℕ) → k < length vs → j < w → get_or bs (o + w * k + j) 0 ≡ bit (get_or vs k 0) (w - (j + 1)))
    → fields bs o w (length vs) ≡ vs
fields-of-digits bs o w vs small d =
    ext_get_or 0 (fields bs o w (length vs)) vs (length_fields bs o w (length vs))
    (λ k h. let l : k < length vs = omega (arith, length_fields bs o w (length vs)) in getD-fields bs o w (length vs) k l ∙ field-of-digits bs (o + w * k) w (get_or vs k 0) (small k) (λ j m. d k j l m))

-- "packed bit after bit": the numbers read from bits, and the bits of numbers, are each other's inverse
pub packed : (w : ℕ) (bs : List ℕ) (n : ℕ) → 0 < w → AreBits bs → length bs ≡ w * n → each w (fields bs 0 w n) ≡ bs
packed w bs n pos are e =
    ext_get_or 0 (each w (fields bs 0 w n)) bs (size ∙ sym e) (λ i h. same i (omega (arith, size)))
  where
    size : length (each w (fields bs 0 w n)) ≡ w * n
    size = length-each w (fields bs 0 w n) ∙ ap (λ (k : ℕ). w * k) (length_fields bs 0 w n)

    same : (i : ℕ) → i < w * n → get_or (each w (fields bs 0 w n)) i 0 ≡ get_or bs i 0
    same i h =
        each-bit w (fields bs 0 w n) i pos
        ∙ ap (λ (v : ℕ). bit v (w - (i % w + 1))) (getD-fields bs 0 w n (i / w) ((div-lt_iff_lt-mul pos).1 (rw (mul_comm n w) h)))
        ∙ digit-of-field bs are (0 + w * (i / w)) w (i % w) (mod-lt i pos)
        ∙ ap (λ (k : ℕ). get_or bs k 0) (let z : 0 + w * (i / w) + i % w ≡ i = omega (arith, div-add-mod i w) in z)

pub unpacked : (w : ℕ) (vs : List ℕ) → ((k : ℕ) → get_or vs k 0 < 2 ^ w) → fields (each w vs) 0 w (length vs) ≡ vs
unpacked w vs small =
    fields-of-digits (each w vs) 0 w vs small
    (λ k j l m. ap (λ (i : ℕ). get_or (each w vs) i 0) (let z : 0 + w * k + j ≡ w * k + j = omega arith in z) ∙ each_at w vs k j m)
