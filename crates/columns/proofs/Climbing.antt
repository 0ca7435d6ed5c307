-- The way from row 0 to a row: its letters row after row, and how they come to the front of what was lent.
use Prim.Native.Nat.{ℕ, zero, suc, ◌-◌, ◌≤◌, ◌<◌}
use mathlib.Core.Path.{◌≡◌, refl, sym, ap, ap₂, ◌∙◌}
use mathlib.Core.Bool.{Bool, true, false, true≢false}
use mathlib.Core.List.{List, [], ◌∷◌, ◌++◌}
use native.Mathlib.Omega.{arith}
use lib.Dec.{eqb}
use lib.ListN.{length, get_or, drop, set, length-append, length-set}
use lib.Seq.{drop-cons, get_or-set_same, drop-set-lt, append_snoc}
use borrow.Author.Tests.{ne_eqb}
use Rattle.effect.specs.Refusals.{front}
use Rattle.goals.specs.declared.Row.{Row}
use Rattle.goals.specs.Goals.{row_zero}
use Rattle.goals.specs.Run.{word_in, trace_of}
use Rattle.columns.specs.Calls.{Columns, row_at, rows_in}
use Rattle.columns.specs.Core.{Rooted, climb}
use Rattle.columns.proofs.Stepping.{rows_at}

-- ---- the way in the columns
-- row 0 has no letter before it
pub climb-none : (p l : List ℕ) (f : ℕ) → climb p l f 0 ≡ []
unfolding climb
climb-none p l zero = refl
climb-none p l (suc f) = refl

-- and so the way ends where the row is row 0
pub climb-end : (p l : List ℕ) (i : ℕ) → i ≡ 0 → climb p l i i ≡ []
climb-end p l i e = ap (λ (k : ℕ). climb p l k k) e ∙ climb-none p l 0

-- a round climbs from a row that is not row 0 to its parent, with the row's letter at the end
climb-step : (p l : List ℕ) (f i : ℕ) → (i ≡ 0 → ⊥) → climb p l (suc f) i ≡ climb p l f (get_or p i 0) ++ (get_or l i 0 ∷ [])
unfolding climb
climb-step p l f i h = by (eqb i 0) (ne_eqb i 0 h)
  where
    by : (t : Bool) → t ≡ false → elim t as (λ _. List ℕ) [ true ↦ [] | false ↦ climb p l f (get_or p i 0) ++ (get_or l i 0 ∷ []) ] ≡ climb p l f (get_or p i 0) ++ (get_or l i 0 ∷ [])
    by true e = absurd (true≢false e)
    by false e = refl

-- the parent of a used row that is not row 0 is below it
pub parent-below : (p : List ℕ) (n i : ℕ) → Rooted p n → i < n → (i ≡ 0 → ⊥) → get_or p i 0 < i
parent-below p n zero r h z = absurd (z refl)
parent-below p n (suc i) r h z = r (suc i) (omega arith) h

-- two numbers of rounds that are both enough give one way
climb-fuel : (p l : List ℕ) (n : ℕ) → Rooted p n → (f g i : ℕ) → i < n → i ≤ f → i ≤ g → climb p l f i ≡ climb p l g i
climb-fuel p l n r zero g zero h a b = climb-none p l zero ∙ sym (climb-none p l g)
climb-fuel p l n r zero g (suc i) h a b = absurd (omega arith)
climb-fuel p l n r (suc f) g zero h a b = climb-none p l (suc f) ∙ sym (climb-none p l g)
climb-fuel p l n r (suc f) zero (suc i) h a b = absurd (omega arith)
climb-fuel p l n r (suc f) (suc g) (suc i) h a b =
    let below = parent-below p n (suc i) r h (λ e. omega (arith, e)) in
    climb-step p l f (suc i) (λ e. omega (arith, e))
    ∙ ap (λ (w : List ℕ). w ++ (get_or l (suc i) 0 ∷ [])) (climb-fuel p l n r f g (get_or p (suc i) 0) (omega (arith, below)) (omega (arith, below)) (omega (arith, below)))
    ∙ sym (climb-step p l g (suc i) (λ e. omega (arith, e)))

-- more rounds than the row's number change nothing
pub climb-enough : (p l : List ℕ) (n f i : ℕ) → Rooted p n → i < n → i ≤ f → climb p l f i ≡ climb p l i i
climb-enough p l n f i r h a = climb-fuel p l n r f i i h a (omega arith)

-- the way to a row that is not row 0 is the way to its parent and then its letter
pub climb-next : (p l : List ℕ) (n i : ℕ) → Rooted p n → i < n → (i ≡ 0 → ⊥) → climb p l i i ≡ climb p l (get_or p i 0) (get_or p i 0) ++ (get_or l i 0 ∷ [])
climb-next p l n zero r h z = absurd (z refl)
climb-next p l n (suc i) r h z =
    let below = parent-below p n (suc i) r h z in
    climb-step p l i (suc i) z
    ∙ ap (λ (w : List ℕ). w ++ (get_or l (suc i) 0 ∷ [])) (climb-enough p l n i (get_or p (suc i) 0) r (omega (arith, below)) (omega (arith, below)))

-- ---- how long it is
-- a list with an entry more is one longer
length-snoc : (w : List ℕ) (x : ℕ) → length (w ++ (x ∷ [])) ≡ suc (length w)
length-snoc w x = omega (arith, length-append w (x ∷ []))

-- the way is as long whatever the letters are
pub climb-length : (p l l' : List ℕ) (f i : ℕ) → length (climb p l f i) ≡ length (climb p l' f i)
unfolding climb
climb-length p l l' zero i = refl
climb-length p l l' (suc f) zero = refl
climb-length p l l' (suc f) (suc i) =
    ap length (climb-step p l f (suc i) (λ e. omega (arith, e)))
    ∙ length-snoc (climb p l f (get_or p (suc i) 0)) (get_or l (suc i) 0)
    ∙ ap suc (climb-length p l l' f (get_or p (suc i) 0))
    ∙ sym (ap length (climb-step p l' f (suc i) (λ e. omega (arith, e))) ∙ length-snoc (climb p l' f (get_or p (suc i) 0)) (get_or l' (suc i) 0))

-- the way has no more letters than there are rounds
pub climb-short : (p l : List ℕ) (f i : ℕ) → length (climb p l f i) ≤ f
unfolding climb
climb-short p l zero i = omega arith
climb-short p l (suc f) zero = omega arith
climb-short p l (suc f) (suc i) =
    rw (climb-step p l f (suc i) (λ e. omega (arith, e)), length-snoc (climb p l f (get_or p (suc i) 0)) (get_or l (suc i) 0)) (omega (arith, climb-short p l f (get_or p (suc i) 0)))

-- the way to a row that is not row 0 is one letter longer than the way to its parent
pub climb-longer : (p l : List ℕ) (n i : ℕ) → Rooted p n → i < n → (i ≡ 0 → ⊥) → length (climb p l i i) ≡ suc (length (climb p l (get_or p i 0) (get_or p i 0)))
climb-longer p l n i r h z = ap length (climb-next p l n i r h z) ∙ length-snoc (climb p l (get_or p i 0) (get_or p i 0)) (get_or l i 0)

-- ---- at the front of what was lent
-- an entry stored just behind a result makes the front of the result one longer
pub front-last : (w out : List ℕ) (x : ℕ) → length w < length out → front w (set out (length w) x) ≡ front (w ++ (x ∷ [])) out
front-last w out x h =
    ap (λ (l : List ℕ). w ++ l)
    (drop-cons (set out (length w) x) (length w) 0 (rw (length-set out (length w) x) h)
    ∙ ap₂ (λ (y : ℕ) (l : List ℕ). y ∷ l) (get_or-set_same out (length w) x 0 h) (drop-set-lt (suc (length w)) out (length w) x (omega arith)))
    ∙ sym (append_snoc w x (drop (suc (length w)) out))
    ∙ ap (λ (n : ℕ). (w ++ (x ∷ [])) ++ drop n out) (sym (length-snoc w x))

-- a row's letter stored at the end of the way to its parent makes the front of the way to the row
pub front-climb : (p l out : List ℕ) (n i k : ℕ) → Rooted p n → i < n → (i ≡ 0 → ⊥) → k ≡ length (climb p l i i) → k ≤ length out
    → front (climb p l (get_or p i 0) (get_or p i 0)) (set out (k - 1) (get_or l i 0)) ≡ front (climb p l i i) out
front-climb p l out n i k r h z e a =
    let w = climb p l (get_or p i 0) (get_or p i 0) in
    let longer : length (climb p l i i) ≡ suc (length w) = climb-longer p l n i r h z in
    ap (λ (m : ℕ). front w (set out m (get_or l i 0))) (let same : k - 1 ≡ length w = omega (arith, longer) in same)
    ∙ front-last w out (get_or l i 0) (omega (arith, longer))
    ∙ ap (λ (u : List ℕ). front u out) (sym (climb-next p l n i r h z))

-- ---- the way in the rows
-- the rows' word to a row that is not row 0 is the word to its parent and then its letter
word-step : (rows : List Row) (f i : ℕ) (v : Row) → get_or rows i row_zero ≡ v → (i ≡ 0 → ⊥) → word_in rows (suc f) i ≡ word_in rows f v.parent ++ (v.letter ∷ [])
unfolding word_in
word-step rows f i v q h =
    by (eqb i 0) (ne_eqb i 0 h) ∙ ap (λ (w : Row). word_in rows f w.parent ++ (w.letter ∷ [])) q
  where
    by : (t : Bool) → t ≡ false
        → elim t as (λ _. List ℕ) [ true ↦ [] | false ↦ word_in rows f (get_or rows i row_zero).parent ++ ((get_or rows i row_zero).letter ∷ []) ]
        ≡ word_in rows f (get_or rows i row_zero).parent ++ ((get_or rows i row_zero).letter ∷ [])
    by true e = absurd (true≢false e)
    by false e = refl

-- the rows' word is the way in the columns, round by round
word-climb : (c : Columns) (n : ℕ) → Rooted c.parents n → (f i : ℕ) → i < n → word_in (rows_in c n) f i ≡ climb c.parents c.letters f i
unfolding word_in climb
word-climb c n r zero i h = refl
word-climb c n r (suc f) zero h = refl
word-climb c n r (suc f) (suc i) h =
    word-step (rows_in c n) f (suc i) (row_at c (suc i)) (rows_at c n (suc i) h) (λ e. omega (arith, e))
    ∙ ap (λ (w : List ℕ). w ++ (get_or c.letters (suc i) 0 ∷ [])) (word-climb c n r f (get_or c.parents (suc i) 0) (omega (arith, parent-below c.parents n (suc i) r h (λ e. omega (arith, e)))))
    ∙ sym (climb-step c.parents c.letters f (suc i) (λ e. omega (arith, e)))

-- the trace of a row is the way to it in the columns
pub climb-word : (c : Columns) (n i : ℕ) → Rooted c.parents n → i < n → trace_of (rows_in c n) i ≡ climb c.parents c.letters i i
climb-word c n i r h = word-climb c n r i i h
