-- The goals of a row one after the other: a letter without goals is passed, and the lowest member comes first.
use Prim.Native.Nat.{ℕ, zero, suc, ◌+◌, ◌-◌, ◌^◌, ◌≤◌, ◌<◌}
use mathlib.Core.Path.{◌≡◌, refl, sym, ap, ap₂, subst, ◌∙◌}
use mathlib.Core.Bool.{Bool, true, false, cond}
use mathlib.Core.Logic.{⊎_elim}
use mathlib.Core.List.{List, [], ◌∷◌, ◌++◌, append-nil, append_assoc}
use native.Mathlib.Nat.{eq-or-lt_of_le, le_of_suc-le-suc}
use native.Mathlib.Omega.{arith}
use lib.Bits.{bit_and, bit_xor}
use lib.Dec.{eqb}
use borrow.Author.Tests.{eq-eqb, ne_eqb, eqb-true, eqb-false, lt-ltb}
use Rattle.bits.specs.Bit.{bit, Mem, has, single}
use Rattle.bits.proofs.Laws.{bit-zero, mem-dec, mem-pow, mem-without, mem-zero}
use Rattle.goals.specs.declared.Row.{Row}
use Rattle.goals.specs.Goals.{row, each_member, each_letter}
use Rattle.stepping.specs.declared.Source.{Source}
use Rattle.stepping.specs.declared.Cursor.{Cursor}
use Rattle.stepping.specs.Next.{members_at, set_at, letters_in, lowest_from, lowest_member, at_letter, at_goal, taken}
use Rattle.stepping.specs.Rest.{goals_with, goals_for, letters_from, all_goals, rest, rest_of}
use Rattle.std.proofs.Common.{Option, Some, None, w64}
use Rattle.std.proofs.Math.Nat.{eq-zero-or-pos}
use Rattle.std.proofs.lemmas.Nat.{trailing_le}
use Rattle.std.proofs.lemmas.Nat.Bits.{bit_at-trailing_zeros}
use Rattle.std.specs.Int.Count.{count_trailing_zeros, trailing_of_zero}

-- ---- the letters
members-none : (f : ℕ → Row) (n : ℕ) → each_member 0 f n ≡ []
unfolding each_member
members-none f zero = refl
members-none f (suc n) =
    ap₂ (λ (l : List Row) (b : Bool). l ++ cond b (f n ∷ []) []) (members-none f n) (ne_eqb (bit 0 n) 1 (λ e. omega (arith, e, bit-zero n)))

letters-next : (src : Source) (x n : ℕ) → x < n → letters_from src x (n - x) ≡ goals_for src x ++ letters_from src (suc x) (n - suc x)
unfolding letters_from
letters-next src x n l = ap (letters_from src x) (let z : n - x ≡ suc (n - suc x) = omega arith in z)

letters-end : (src : Source) (x n : ℕ) → n ≤ x → letters_from src x (n - x) ≡ []
unfolding letters_from
letters-end src x n l = ap (letters_from src x) (let z : n - x ≡ 0 = omega arith in z)

goals-none : (src : Source) (m s x : ℕ) → m ≡ 0 → goals_with src m s x ≡ []
goals-none src m s x e = ap (λ (k : ℕ). goals_with src k s x) e ∙ members-none (λ j. row j s src.parent x) 64

-- the cursor at a letter
pub letter-is : (src : Source) (x : ℕ) → (at_letter src x).x ≡ x + 1
unfolding at_letter
letter-is src x = refl

module _ (src : Source) (c : Cursor) (z : c.members ≡ 0) (l : c.x < letters_in src) where
  abbrev there : Cursor
  there = at_letter src c.x

  letter-goals : goals_with src there.members there.set there.letter ≡ goals_for src c.x
  unfolding at_letter
  letter-goals = by (eqb (members_at src c.x) 0) refl
    where
      by : (b : Bool) → eqb (members_at src c.x) 0 ≡ b
          → goals_with src (members_at src c.x) (cond (eqb (members_at src c.x) 0) 0 (set_at src c.x)) c.x ≡ goals_for src c.x
      by true q = goals-none src _ _ c.x (eqb-true _ _ q) ∙ sym (goals-none src _ (set_at src c.x) c.x (eqb-true _ _ q))
      by false q = ap (λ (b : Bool). goals_with src (members_at src c.x) (cond b 0 (set_at src c.x)) c.x) q

  letter-next : there.x ≡ suc c.x
  letter-next = omega (arith, letter-is src c.x)

  rest-letter : rest src there ≡ rest src c
  rest-letter =
      ap₂ ◌++◌ letter-goals (ap (λ (x : ℕ). letters_from src x (letters_in src - x)) letter-next)
      ∙ sym (ap (λ (l : List Row). l ++ letters_from src c.x (letters_in src - c.x)) (goals-none src c.members c.set c.letter z) ∙ letters-next src c.x (letters_in src) l)

-- past the last letter nothing is to come
rest_end : (src : Source) (c : Cursor) → letters_in src ≤ c.x → c.members ≡ 0 → rest src c ≡ []
rest_end src c l z = ap₂ ◌++◌ (goals-none src c.members c.set c.letter z) (letters-end src c.x (letters_in src) l)

-- letters that are passed have no goal, and past the last of them nothing is to come
goal-rest : (src : Source) (n : ℕ) (c : Cursor) → n ≡ letters_in src - c.x → rest src (at_goal src n c) ≡ rest src c
unfolding at_goal
goal-rest src zero c e = refl
goal-rest src (suc n) c e = by (eqb c.members 0) refl (goal-rest src n (at_letter src c.x))
  where
    by : (b : Bool) → eqb c.members 0 ≡ b
        → (n ≡ letters_in src - (at_letter src c.x).x → rest src (at_goal src n (at_letter src c.x)) ≡ rest src (at_letter src c.x))
        → rest src (cond b (at_goal src n (at_letter src c.x)) c) ≡ rest src c
    by true q more =
        let z = eqb-true _ _ q in
        let l : c.x < letters_in src = omega (arith, e) in
        more (let x = letter-next src c z l in omega (arith, e, x)) ∙ rest-letter src c z l
    by false q more = refl

goal-none : (src : Source) (n : ℕ) (c : Cursor) → n ≡ letters_in src - c.x → (at_goal src n c).members ≡ 0 → rest src (at_goal src n c) ≡ []
unfolding at_goal
goal-none src zero c e z = rest_end src c (omega (arith, e)) z
goal-none src (suc n) c e z = by (eqb c.members 0) refl (goal-none src n (at_letter src c.x)) z
  where
    by : (b : Bool) → eqb c.members 0 ≡ b
        → (n ≡ letters_in src - (at_letter src c.x).x → (at_goal src n (at_letter src c.x)).members ≡ 0 → rest src (at_goal src n (at_letter src c.x)) ≡ [])
        → (cond b (at_goal src n (at_letter src c.x)) c).members ≡ 0 → rest src (cond b (at_goal src n (at_letter src c.x)) c) ≡ []
    by true q more z = more (let x = letter-next src c (eqb-true _ _ q) (omega (arith, e)) in omega (arith, e, x)) z
    by false q more z = absurd (eqb-false _ _ q z)

module _ (src : Source) (c h : Cursor) (e : h ≡ at_goal src (letters_in src - c.x) c) where
  pub rest-same : rest src h ≡ rest src c
  rest-same = ap (rest src) e ∙ goal-rest src (letters_in src - c.x) c refl

  pub rest_none : h.members ≡ 0 → rest src c ≡ []
  rest_none z = sym rest-same ∙ ap (rest src) e ∙ goal-none src (letters_in src - c.x) c refl (ap (λ (r : Cursor). r.members) (sym e) ∙ z)

-- ---- the lowest member
module _ (S r : ℕ) (here : r < 64 → Mem S r) (below : (i : ℕ) → i < r → Mem S i → ⊥) where
  -- a place below which there is no member, and which is one or the end
  lowest-at : (n j : ℕ) → j + n ≡ 64 → j ≤ r → r ≤ 64 → lowest_from S j n ≡ r
  unfolding lowest_from
  lowest-at zero j e l m = omega arith
  lowest-at (suc n) j e l m = by (has S j) refl (lowest-at n (suc j) (omega (arith, e)))
    where
      by : (b : Bool) → has S j ≡ b → (suc j ≤ r → r ≤ 64 → lowest_from S (suc j) n ≡ r) → cond b j (lowest_from S (suc j) n) ≡ r
      by true q more = ⊎_elim (λ (z : j ≡ r). z) (λ (g : j < r). absurd (below j g (eqb-true _ _ q))) (eq-or-lt_of_le l)
      by false q more = ⊎_elim
          (λ (z : j ≡ r). absurd (eqb-false _ _ q (subst (Mem S) (sym z) (here (omega (arith, e, z))))))
          (λ (g : j < r). more g m) (eq-or-lt_of_le l)

module _ (S : ℕ) (fits : S < 2 ^ 64) where
  pub lowest-some : (S ≡ 0 → ⊥) → (count_trailing_zeros 64 S < 64) × Mem S (count_trailing_zeros 64 S) × ((j : ℕ) → j < count_trailing_zeros 64 S → Mem S j → ⊥)
  unfolding bit
  lowest-some n =
      let t = bit_at-trailing_zeros w64 S (omega (arith, n)) fits in
      (t.0, t.1, λ j l m. let z = t.2 j l in omega (arith, m, z))

  pub lowest-is : count_trailing_zeros 64 S ≡ lowest_member S
  lowest-is = ⊎_elim
      (λ (z : S ≡ 0).
      let e : count_trailing_zeros 64 S ≡ 64 = ap (count_trailing_zeros 64) z ∙ trailing_of_zero 64 in
      is (λ l. absurd (omega (arith, e, l))) (λ i l m. mem-zero i (subst (λ (x : ℕ). Mem x i) z m)))
      (λ (g : 0 < S). let t = lowest-some (λ z. omega (arith, g, z)) in is (λ l. t.1) t.2)
      (eq-zero-or-pos S)
    where
      is : (count_trailing_zeros 64 S < 64 → Mem S (count_trailing_zeros 64 S)) → ((i : ℕ) → i < count_trailing_zeros 64 S → Mem S i → ⊥) → count_trailing_zeros 64 S ≡ lowest_member S
      is here below = sym (lowest-at S (count_trailing_zeros 64 S) here below 64 0 refl (omega arith) (trailing_le 64 S))

-- ---- the lowest member comes first, and the others after it
module _ (S j : ℕ) (f : ℕ → Row) (here : Mem S j) (below : (k : ℕ) → k < j → Mem S k → ⊥) where
  abbrev others : ℕ
  others = bit_xor S (bit_and S (2 ^ j))

  has_same : (k : ℕ) → (k ≡ j → ⊥) → has others k ≡ has S k
  has_same k n = ⊎_elim
      (λ (m : Mem S k). eq-eqb _ _ ((mem-without S (2 ^ j) k).1 (m, (λ p. n ((mem-pow j k).0 p)))) ∙ sym (eq-eqb _ _ m))
      (λ (z : bit S k ≡ 0). ne_eqb (bit others k) 1 (λ m. let g = ((mem-without S (2 ^ j) k).0 m).0 in omega (arith, g, z)) ∙ sym (ne_eqb (bit S k) 1 (λ m. omega (arith, m, z))))
      (mem-dec S k)

  has-gone : has others j ≡ false
  has-gone = ne_eqb (bit others j) 1 (λ m. ((mem-without S (2 ^ j) j).0 m).1 ((mem-pow j j).1 refl))

  has-low : (k : ℕ) → k < j → has S k ≡ false
  has-low k l = ne_eqb (bit S k) 1 (below k l)

  low : (n : ℕ) → n ≤ j → each_member S f n ≡ []
  unfolding each_member
  low zero l = refl
  low (suc n) l = ap₂ (λ (xs : List Row) (b : Bool). xs ++ cond b (f n ∷ []) []) (low n (omega arith)) (has-low n (omega arith))

  low-others : (n : ℕ) → n ≤ j → each_member others f n ≡ []
  unfolding each_member
  low-others zero l = refl
  low-others (suc n) l = ap₂ (λ (xs : List Row) (b : Bool). xs ++ cond b (f n ∷ []) []) (low-others n (omega arith)) (has_same n (λ e. omega (arith, e)) ∙ has-low n (omega arith))

  high : (n : ℕ) → j < n → each_member S f n ≡ f j ∷ each_member others f n
  unfolding each_member
  high zero l = absurd (omega arith)
  high (suc n) l = ⊎_elim
      (λ (e : j ≡ n). subst (λ (k : ℕ). each_member S f k ++ cond (has S k) (f k ∷ []) [] ≡ f j ∷ (each_member others f k ++ cond (has others k) (f k ∷ []) [])) e at-it)
      (λ (g : j < n). ap₂ (λ (xs : List Row) (b : Bool). xs ++ cond b (f n ∷ []) []) (high n g) (sym (has_same n (λ (e : n ≡ j). omega (arith, e, g)))))
      (eq-or-lt_of_le (le_of_suc-le-suc l))
    where
      at-it : each_member S f j ++ cond (has S j) (f j ∷ []) [] ≡ f j ∷ (each_member others f j ++ cond (has others j) (f j ∷ []) [])
      at-it =
          ap₂ (λ (xs : List Row) (b : Bool). xs ++ cond b (f j ∷ []) []) (low j (omega arith)) (eq-eqb _ _ here)
          ∙ sym (ap (◌∷◌ (f j)) (ap₂ (λ (xs : List Row) (b : Bool). xs ++ cond b (f j ∷ []) []) (low-others j (omega arith)) has-gone))

  pub lowest-first : j < 64 → each_member S f 64 ≡ f j ∷ each_member others f 64
  lowest-first l = high 64 l

-- ---- the next goal, and what is to come after it
module _ (src : Source) (c : Cursor) where
  pub taken_none : c.members ≡ 0 → None ≡ taken src c
  unfolding taken
  taken_none z = rw (eq-eqb _ _ z)

  pub rest-goal : (j s : ℕ) → j < 64 → Mem c.members j → ((k : ℕ) → k < j → Mem c.members k → ⊥) → s ≡ single 64 j
      → rest_of src (Some (row j c.set src.parent c.letter, record { x = c.x; letter = c.letter; set = c.set; members = bit_xor c.members (bit_and c.members s) })) ≡ rest src c
  unfolding rest_of
  rest-goal j s l here below e =
      let f : ℕ → Row = λ i. row i c.set src.parent c.letter in
      let is : s ≡ 2 ^ j = e ∙ ap (λ (b : Bool). cond b (2 ^ j) 0) (lt-ltb j 64 l) in
      ap (λ (k : ℕ). f j ∷ (each_member (bit_xor c.members (bit_and c.members k)) f 64 ++ letters_from src c.x (letters_in src - c.x))) is
      ∙ sym (ap (λ (xs : List Row). xs ++ letters_from src c.x (letters_in src - c.x)) (lowest-first c.members j f here below l))

-- the loop that passes letters
pub goal-here : (src : Source) (n : ℕ) (c : Cursor) → (c.members ≡ 0 → ⊥) → at_goal src n c ≡ c
unfolding at_goal
goal-here src zero c h = refl
goal-here src (suc n) c h = rw (ne_eqb c.members 0 h)

pub goal-next : (src : Source) (n : ℕ) (c : Cursor) → c.members ≡ 0 → c.x < n → at_goal src (n - c.x) c ≡ at_goal src (n - (at_letter src c.x).x) (at_letter src c.x)
unfolding at_goal
goal-next src n c z l =
    ap (λ (k : ℕ). at_goal src k c) (let q : n - c.x ≡ suc (n - (c.x + 1)) = omega arith in q)
    ∙ ap (λ (b : Bool). cond b (at_goal src (n - (c.x + 1)) (at_letter src c.x)) c) (eq-eqb _ _ z)
    ∙ ap (λ (k : ℕ). at_goal src (n - k) (at_letter src c.x)) (sym (letter-is src c.x))

pub goal-end : (src : Source) (n : ℕ) (c : Cursor) → n ≤ c.x → at_goal src (n - c.x) c ≡ c
unfolding at_goal
goal-end src n c l = ap (λ (k : ℕ). at_goal src k c) (let q : n - c.x ≡ 0 = omega arith in q)

-- ---- all the goals, from the first letter on
pub rest-start : (src : Source) (s x : ℕ) → rest src (record { x = 0; letter = x; set = s; members = 0 }) ≡ all_goals src
rest-start src s x = ap₂ ◌++◌ (goals-none src 0 s x refl) (ap (letters_from src 0) (let z : letters_in src - 0 ≡ letters_in src = omega arith in z))

letters-last : (src : Source) (x n : ℕ) → letters_from src x (suc n) ≡ letters_from src x n ++ goals_for src (n + x)
unfolding letters_from
letters-last src x zero = append-nil (goals_for src x) ∙ ap (goals_for src) (let z : x ≡ 0 + x = omega arith in z)
letters-last src x (suc n) =
    ap (λ (l : List Row). goals_for src x ++ l) (letters-last src (suc x) n)
    ∙ sym (append_assoc (goals_for src x) (letters_from src (suc x) n) (goals_for src (n + suc x)))
    ∙ ap (λ (y : ℕ). (goals_for src x ++ letters_from src (suc x) n) ++ goals_for src y) (let z : n + suc x ≡ suc n + x = omega arith in z)

pub letters-each : (src : Source) (n : ℕ) → letters_from src 0 n ≡ each_letter (goals_for src) n
unfolding each_letter
letters-each src zero = none
  where
    none : letters_from src 0 zero ≡ []
    none = letters-end src 0 0 (omega arith)
letters-each src (suc n) = letters-last src 0 n ∙ ap₂ ◌++◌ (letters-each src n) (ap (goals_for src) (let z : n + 0 ≡ n = omega arith in z))

-- ---- what an answer of `next_goal` says of what is to come
pub goal-comes : (src : Source) (cur : Cursor) (n : Option (Row × Cursor)) (w : Row) (c : Cursor) → n ≡ Some (w, c) → rest_of src n ≡ rest src cur → rest src cur ≡ w ∷ rest src c
unfolding rest_of
goal-comes src cur n w c e h = sym h ∙ ap (rest_of src) e

pub none-comes : (src : Source) (cur : Cursor) (n : Option (Row × Cursor)) → n ≡ None → rest_of src n ≡ rest src cur → rest src cur ≡ []
unfolding rest_of
none-comes src cur n e h = sym h ∙ ap (rest_of src) e
