-- Texts put at the front of the output one after another, and the digits of a number.
use Rattle.std.proofs.Common.{ℕ, zero, suc, ◌+◌, ◌*◌, ◌/◌, ◌%◌, ◌^◌, ◌≤◌, ◌<◌, ◌≡◌, refl, sym, ap, ◌∙◌, Bool, true, false, cond, not, List, [], ◌∷◌, ◌++◌, append_assoc, append-nil, arith, eqb, ltb, length, take, drop, replicate, length-append, take_at, length-take-le, lt-ltb, le-ltb, ltb-true, ltb-false, eqb-true}
use borrow.Author.Tests.{not-false}
use Rattle.std.specs.Fmt.{decimal as std-decimal}
use Rattle.std.proofs.lemmas.Fmt.{AppendsLastDigit, decimal_from_appends, decimal_digit, decimal_step, length-decimal-le, length-decimal-le_succ}
use Rattle.effect.specs.Refusals.{front, some_below}
use Rattle.effect.proofs.Laws.{below_none}
use Rattle.effect.proofs.Front.{front-front, front-taken}
use Rattle.program.specs.Lines.{ascii, digit, decimal_in, decimal, letter, letters, outcome_line, counts_line, side_text}
use Rattle.verdict.specs.declared.Lines.{Lines}
use Rattle.verdict.specs.Core.{of_text, with_text}

-- a text, and behind it another
pub both_texts :
    (t u : List ℕ) (before out after : Lines) → before.len ≤ length before.bytes → out ≡ with_text t before → after ≡ with_text u out
    → after ≡ with_text (t ++ u) before
both_texts t u before out after h p q = q ∙ ap (with_text u) p ∙ (λ i. record { bytes = bytes i; len = len i })
  where
    first : List ℕ
    first = take before.len before.bytes ++ t

    stands : (v : List ℕ) → length (take before.len before.bytes ++ v) ≡ before.len + length v
    stands v = length-append (take before.len before.bytes) v ∙ ap (λ (k : ℕ). k + length v) (length-take-le before.len before.bytes h)

    len : before.len + length t + length u ≡ before.len + length (t ++ u)
    len = omega (arith, length-append t u)

    bytes : front (take (before.len + length t) (front first before.bytes) ++ u) (front first before.bytes)
        ≡ front (take before.len before.bytes ++ (t ++ u)) before.bytes
    bytes =
        ap (λ (x : List ℕ). front (x ++ u) (front first before.bytes)) (take_at first (drop (length first) before.bytes) _ (stands t))
        ∙ ap (λ (x : List ℕ). front x (front first before.bytes)) (append_assoc (take before.len before.bytes) t u)
        ∙ front-front first (take before.len before.bytes ++ (t ++ u)) before.bytes (omega (arith, stands t, stands (t ++ u), length-append t u))

-- nothing put
pub no_text : (out : Lines) → out.len ≤ length out.bytes → out ≡ with_text [] out
no_text out h = λ i. record { bytes = bytes i; len = len i }
  where
    len : out.len ≡ out.len + 0
    len = omega arith

    bytes : out.bytes ≡ front (take out.len out.bytes ++ []) out.bytes
    bytes = sym (ap (λ (x : List ℕ). front x out.bytes) (append-nil (take out.len out.bytes)) ∙ front-taken out.len out.bytes h)

-- a text put in an output where nothing stands
pub whole_text : (t : List ℕ) (before out : Lines) → before ≡ of_text [] → out ≡ with_text t before → out ≡ of_text t
whole_text t before out p q = q ∙ ap (with_text t) p ∙ at_front (replicate 4096 0)
  where
    at_front : (zeros : List ℕ)
        → with_text t (record { bytes = front [] zeros; len = 0 }) ≡ record { bytes = front t zeros; len = length t }
    at_front zeros = λ i. record { bytes = front t zeros; len = (let z : 0 + length t ≡ length t = omega arith in z) i }

-- where nothing stands, nothing is past the end
pub nothing_put : (out : Lines) → out ≡ of_text [] → out.len ≡ 0
nothing_put out e = ap (λ (x : Lines). x.len) e

pub nothing : (out : Lines) → out ≡ of_text [] → out.len ≤ length out.bytes
nothing out e = omega (arith, nothing_put out e)

-- a text told by another name
pub same_text : (t u : List ℕ) (before out : Lines) → t ≡ u → out ≡ with_text t before → out ≡ with_text u before
same_text t u before out e p = p ∙ ap (λ (x : List ℕ). with_text x before) e

-- how much stands behind it
pub stands_to : (t : List ℕ) (before out : Lines) → out ≡ with_text t before → out.len ≡ before.len + length t
stands_to t before out p = ap (λ (x : Lines). x.len) p

-- the digits of n, by whether it has one
decimal-by : (f n : ℕ) (b : Bool) → ltb n 10 ≡ b
    → decimal_in (suc f) n ≡ elim b [ true ↦ digit n ∷ [] | false ↦ decimal_in f (n / 10) ++ (digit (n % 10) ∷ []) ]
unfolding decimal_in
decimal-by f n b e = ap (λ (c : Bool). elim c [ true ↦ digit n ∷ [] | false ↦ decimal_in f (n / 10) ++ (digit (n % 10) ∷ []) ]) e

-- a digit below 10 is that far behind the first
abbrev misplaced : ℕ → Bool
misplaced d = not (eqb (digit d) (48 + d))

digits-placed : some_below 10 misplaced ≡ false
unfolding some_below digit ascii
digits-placed = refl

digit-placed : (d : ℕ) → d < 10 → digit d ≡ 48 + d
digit-placed d h = eqb-true _ _ (not-false _ ((below_none misplaced 10).0 digits-placed d h))

-- these are the digits that the library writes
appends : AppendsLastDigit decimal_in
appends = record {
  one = λ f n h. decimal-by f n true (lt-ltb n 10 h) ∙ ap (λ (x : ℕ). x ∷ []) (digit-placed n h);
  more = λ f n h.
      decimal-by f n false (le-ltb n 10 h)
      ∙ ap (λ (x : ℕ). decimal_in f (n / 10) ++ (x ∷ [])) (digit-placed (n % 10) (omega arith));
}

short : (n : ℕ) → 10 ≤ n → n < 2 ^ 64 → length (std-decimal n) ≤ n
short n h small =
    omega (arith, ap length (decimal_step n h small) ∙ length-append (std-decimal (n / 10)) ((48 + n % 10) ∷ []), length-decimal-le_succ (n / 10) (omega (arith, small)))

alone : (f n : ℕ) → n < 10 → decimal_in f n ≡ (48 + n) ∷ []
unfolding decimal_in
alone zero n h = ap (λ (x : ℕ). x ∷ []) (digit-placed n h)
alone (suc f) n h = appends.one f n h

pub decimal-written : (n : ℕ) → n < 2 ^ 64 → std-decimal n ≡ decimal n
decimal-written n small = by (ltb n 10) refl
  where
    by : (b : Bool) → ltb n 10 ≡ b → std-decimal n ≡ decimal n
    by true e = decimal_digit n (ltb-true n 10 e) ∙ sym (alone n n (ltb-true n 10 e))
    by false e = sym (decimal_from_appends decimal_in appends n n small (short n (ltb-false n 10 e) small))

-- a number below 10,000 has no more than four
pub four-digits : (n : ℕ) → n < 10000 → length (decimal n) ≤ 4
four-digits n h =
    let small : n < 2 ^ 64 = omega arith in
    omega (arith, ap length (decimal-written n small), length-decimal-le 4 n (omega arith) (omega arith) small)

-- a letter is three bytes, and so is each of a trace
pub length-letters : (word : List ℕ) → length (letters word) ≡ 3 * length word
unfolding letters letter ascii
length-letters [] = refl
length-letters (x ∷ word) = length-append (letter x) (letters word) ∙ omega (arith, length-letters word)

-- a side's name has five bytes at most
pub length-side : (n : ℕ) → length (side_text n) ≤ 5
unfolding side_text ascii
length-side n = by (eqb n 1) (eqb n 2)
  where
    by : (a b : Bool) → length (cond a (ascii "left") (cond b (ascii "right") (ascii "both"))) ≤ 5
    by true b = omega arith
    by false true = omega arith
    by false false = omega arith

-- line 1 has nine bytes at most
pub length-outcome : (o : ℕ) → length (outcome_line o) ≤ 9
unfolding outcome_line ascii
length-outcome o = by (eqb o 1) (eqb o 2)
  where
    by : (a b : Bool) → length (cond a (ascii "included\n") (cond b (ascii "refuted\n") (ascii "no room\n"))) ≤ 9
    by true b = omega arith
    by false true = omega arith
    by false false = omega arith

-- and line 2 has 26, with counts that fit the room
length-counts : (a b : ℕ) → a ≤ 1024 → b ≤ 1024 → length (counts_line a b) ≤ 26
unfolding counts_line ascii
length-counts a b h k =
    let one = ascii "settled " ++ decimal a in
    let two = one ++ ascii " of " in
    let three = two ++ decimal b in
    omega (
      arith,
      length-append (ascii "settled ") (decimal a),
      length-append one (ascii " of "),
      length-append two (decimal b),
      length-append three (ascii " rows\n"),
      four-digits a (omega arith),
      four-digits b (omega arith),
    )

pub counts_to : (a b : ℕ) (before out : Lines) → out ≡ with_text (counts_line a b) before → a ≤ 1024 → b ≤ 1024 → out.len ≤ before.len + 26
counts_to a b before out p h k = omega (arith, stands_to _ before out p, length-counts a b h k)

-- what a text's length and a number's digits are
pub ruleset texts = (nothing_put, stands_to, decimal-written, four-digits, length-letters, length-side)
