-- Lines 2 and 3 are read back: a count is what its digits say in tens, a letter what its two digits say.
use Rattle.std.proofs.Common.{ℕ, zero, suc, ◌+◌, ◌-◌, ◌*◌, ◌/◌, ◌%◌, ◌≤◌, ◌<◌, ◌≡◌, refl, sym, ap, ap₂, ◌∙◌, Bool, true, false, cond, not, List, [], ◌∷◌, ◌++◌, append_assoc, le_trans, arith, eqb, ltb, pow_mono, get_or, drop, eqb-true, ltb-true, ltb-false}
use borrow.Author.Tests.{not-false}
use Rattle.effect.specs.declared.Node.{Node}
use Rattle.effect.specs.Meaning.{Trace, of_empty, of_instant, of_seq, of_first, of_second, of_none, of_more}
use Rattle.effect.specs.Refusals.{some_below}
use Rattle.effect.proofs.Laws.{below_none}
use Rattle.demands.specs.Demands.{Letters}
use Rattle.program.specs.Lines.{ascii, digit, decimal_in, decimal, letter, letters, counts_line, trace_line}
use Rattle.program.specs.Program.{sides_in}
use Rattle.program.specs.Meaning.{CountsTold, LettersTold, TraceTold}
use Rattle.program.proofs.Running.{few, both}
use Rattle.program.proofs.Accepted.{input-accepted}

-- ---- a digit
-- its value
abbrev value_of : ℕ → ℕ
value_of c = cond (ltb c 97) (c - 48) (c - 87)

abbrev misread : ℕ → Bool
misread d = not (eqb (value_of (digit d)) d)

digits-read : some_below 16 misread ≡ false
unfolding some_below digit ascii
digits-read = refl

digit-read : (d : ℕ) → d < 16 → value_of (digit d) ≡ d
digit-read d h = eqb-true _ _ (not-false _ ((below_none misread 16).0 digits-read d h))

-- it is no space
no-spaces : some_below 10 (λ d. eqb (digit d) 32) ≡ false
unfolding some_below digit ascii
no-spaces = refl

no-space : (d : ℕ) → d < 10 → eqb (digit d) 32 ≡ false
no-space d h = (below_none (λ d. eqb (digit d) 32) 10).0 no-spaces d h

-- ---- a number: its digits up to a space, and what is behind the space
abbrev read_number : ℕ → List ℕ → ℕ × List ℕ
read_number n [] = (n, [])
read_number n (c ∷ l) = elim (eqb c 32) [ true ↦ (n, l) | false ↦ read_number (n * 10 + value_of c) l ]

digit-step : (d n : ℕ) (l : List ℕ) → d < 10 → read_number n (digit d ∷ l) ≡ read_number (n * 10 + d) l
digit-step d n l h =
    ap (λ (b : Bool). elim b [ true ↦ (n, l) | false ↦ read_number (n * 10 + value_of (digit d)) l ]) (no-space d h)
    ∙ ap (λ (k : ℕ). read_number (n * 10 + k) l) (digit-read d (omega arith))

decimal-read : (f n : ℕ) (l : List ℕ) → n ≤ f → read_number 0 (decimal_in f n ++ l) ≡ read_number n l
unfolding decimal_in
decimal-read zero n l h = digit-step n 0 l (omega arith) ∙ ap (λ (k : ℕ). read_number k l) (omega arith)
decimal-read (suc f) n l h = by (ltb n 10) refl (λ t m. decimal-read f (n / 10) t m)
  where
    by : (b : Bool) → ltb n 10 ≡ b → ((t : List ℕ) → n / 10 ≤ f → read_number 0 (decimal_in f (n / 10) ++ t) ≡ read_number (n / 10) t)
        → read_number 0 (elim b [ true ↦ digit n ∷ [] | false ↦ decimal_in f (n / 10) ++ (digit (n % 10) ∷ []) ] ++ l) ≡ read_number n l
    by true e next = digit-step n 0 l (let s = ltb-true n 10 e in omega arith) ∙ ap (λ (k : ℕ). read_number k l) (omega arith)
    by false e next =
        let s : 10 ≤ n = ltb-false n 10 e in
        ap (read_number 0) (append_assoc (decimal_in f (n / 10)) (digit (n % 10) ∷ []) l)
        ∙ next (digit (n % 10) ∷ l) (omega arith)
        ∙ digit-step (n % 10) (n / 10) l (omega arith)
        ∙ ap (λ (k : ℕ). read_number k l) (omega arith)

-- ---- line 2: `settled A of B rows`
abbrev read_counts : List ℕ → ℕ × (ℕ × List ℕ)
read_counts line =
    let p = read_number 0 (drop 8 line) in
    let q = read_number 0 (drop 3 p.1) in
    (p.0, (q.0, drop 5 q.1))

counts-read : (a b : ℕ) (behind : List ℕ) → read_counts (counts_line a b ++ behind) ≡ (a, (b, behind))
unfolding counts_line ascii
counts-read a b behind =
    let used : List ℕ = decimal b ++ (ascii " rows\n" ++ behind) in
    let flat : drop 8 (counts_line a b ++ behind) ≡ decimal a ++ (ascii " of " ++ used) =
    append_assoc (decimal a ++ ascii " of " ++ decimal b) (ascii " rows\n") behind
    ∙ append_assoc (decimal a ++ ascii " of ") (decimal b) (ascii " rows\n" ++ behind)
    ∙ append_assoc (decimal a) (ascii " of ") used in
    let first : read_number 0 (drop 8 (counts_line a b ++ behind)) ≡ (a, drop 1 (ascii " of " ++ used)) = ap (read_number 0) flat ∙ decimal-read a a (ascii " of " ++ used) (omega arith) in
    let second : read_number 0 used ≡ (b, drop 1 (ascii " rows\n" ++ behind)) = decimal-read b b (ascii " rows\n" ++ behind) (omega arith) in
    ap (λ (p : ℕ × List ℕ). (p.0, ((read_number 0 (drop 3 p.1)).0, drop 5 (read_number 0 (drop 3 p.1)).1))) first
    ∙ ap (λ (q : ℕ × List ℕ). (a, (q.0, drop 5 q.1))) second

pub counts-told : CountsTold
counts-told a b c d behind behind' e =
    let same = sym (counts-read a b behind) ∙ ap read_counts e ∙ counts-read c d behind' in
    (ap (λ (x : ℕ × (ℕ × List ℕ)). x.0) same, ap (λ (x : ℕ × (ℕ × List ℕ)). x.1.0) same, ap (λ (x : ℕ × (ℕ × List ℕ)). x.1.1) same)

-- ---- line 3: a space and two digits for each letter, the high one first
abbrev read_letter : List ℕ → ℕ
read_letter line = value_of (get_or line 1 0) * 16 + value_of (get_or line 2 0)

letter-read : (x : ℕ) (behind : List ℕ) → x < 256 → read_letter (letter x ++ behind) ≡ x
unfolding letter ascii
letter-read x behind h =
    ap₂ (λ (high low : ℕ). high * 16 + low) (digit-read (x / 16) (omega arith)) (digit-read (x % 16) (omega arith)) ∙ omega arith

-- as the line ends, they end
word-told : (v w : List ℕ) → Letters 8 v → Letters 8 w → letters v ++ ascii "\n" ≡ letters w ++ ascii "\n" → v ≡ w
unfolding letters letter ascii
word-told [] [] h k e = refl
word-told [] (y ∷ w) h k e = absurd (omega (arith, ap (λ (l : List ℕ). get_or l 0 0) e))
word-told (x ∷ v) [] h k e = absurd (omega (arith, ap (λ (l : List ℕ). get_or l 0 0) e))
word-told (x ∷ v) (y ∷ w) h k e =
    ap₂ (λ (z : ℕ) (u : List ℕ). z ∷ u)
    (sym (letter-read x (letters v ++ ascii "\n") h.0) ∙ ap read_letter e ∙ letter-read y (letters w ++ ascii "\n") k.0)
    (word-told v w h.1 k.1 (ap (drop 3) e))

pub letters-told : LettersTold
unfolding trace_line ascii
letters-told v w h k e = word-told v w h k (ap (drop 5) e)

-- ---- the letters of a trace are below 2^s, and s is 8 at most
letters-join : (s : ℕ) (v w : List ℕ) → Letters s v → Letters s w → Letters s (v ++ w)
letters-join s [] w h k = k
letters-join s (x ∷ v) w (l, h) k = (l, letters-join s v w h k)

letters-of : (s : ℕ) (t : List Node) (i : ℕ) (w : List ℕ) → Trace s t i w → Letters s w
letters-of s t i _ (of_empty e) = tt
letters-of s t i _ (of_instant e m) = (m.letter, tt)
letters-of s t i _ (of_seq {u = u} {v = v} e a b) = letters-join s u v (letters-of s t _ u a) (letters-of s t _ v b)
letters-of s t i w (of_first e a) = letters-of s t _ w a
letters-of s t i w (of_second e a) = letters-of s t _ w a
letters-of s t i _ (of_none e) = tt
letters-of s t i _ (of_more {u = u} {v = v} e a b) = letters-join s u v (letters-of s t _ u a) (letters-of s t _ v b)

letters-wide : (s : ℕ) → s ≤ 8 → (w : List ℕ) → Letters s w → Letters 8 w
letters-wide s h [] l = tt
letters-wide s h (x ∷ w) (l, k) = (le_trans l (pow_mono h), letters-wide s h w k)

pub trace-told : TraceTold
trace-told input v w fine l r e =
    let g = sides_in input in
    let eight : g.ls ≤ 8 = (both g 1024 few (input-accepted input fine)).left.signals in
    letters-told v w (letters-wide g.ls eight v (letters-of _ _ _ v l)) (letters-wide g.ls eight w (letters-of _ _ _ w r)) e
