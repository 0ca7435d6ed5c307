-- Refusal 16: how the code decides it row by row, and what holds of a record and rows that pass.
use Prim.Native.Nat.{ℕ, zero, suc, ◌+◌, ◌^◌, ◌≤◌, ◌<◌}
use mathlib.Core.Path.{◌≡◌, refl, sym, ap, ap₂, subst, ◌∙◌}
use mathlib.Core.Bool.{Bool, true, false, not, ◌&&◌, ◌||◌, true≢false}
use native.Mathlib.Numerals.{add-one}
use native.Mathlib.Omega.{arith}
use lib.Dec.{eqb, ltb, leb}
use lib.ListN.{get_or}
use lib.Pow.{pow_pos}
use borrow.Author.Tests.{ltb-true, ltb-false, leb-false, eqb-true, eqb-false, eq-eqb, ne_eqb, not-false}
use Rattle.bits.specs.Bit.{has, within}
use Rattle.effect.specs.Refusals.{some_below}
use Rattle.effect.proofs.Laws.{and-all, or-none, below_none, below-same, some_below_lem}
use Rattle.goals.specs.declared.Row.{Row}
use Rattle.goals.specs.declared.Run.{Run}
use Rattle.goals.specs.Goals.{row_zero}
use Rattle.columns.specs.Calls.{Columns, row_at, rows_in}
use Rattle.goals.specs.Refusals.{record_impossible, row_zero_impossible, row_impossible, impossible}
use Rattle.columns.specs.Core.{Rooted}
use Rattle.columns.proofs.Stepping.{rows_at}

-- what a possible record has
pub record Counts (room : ℕ) (r : Run) : Type 0 where
  pub some : 0 < r.used
  pub within : r.used ≤ room
  pub settled : r.settled ≤ r.used
  pub unsettled : (r.outcome ≡ 1 → ⊥) → r.settled < r.used

and_none : (a b : Bool) → a ≡ true → (a && b) ≡ false → b ≡ false
and_none true b e h = h
and_none false b e h = absurd (true≢false (sym e))

-- none of six tests passes
six-none : (a b c d e f : Bool) → (a || (b || (c || (d || (e || f))))) ≡ false → (a ≡ false) × (b ≡ false) × (c ≡ false) × (d ≡ false) × (e ≡ false) × (f ≡ false)
six-none a b c d e f h =
    let p = (or-none a (b || (c || (d || (e || f))))).0 h in
    let q = (or-none b (c || (d || (e || f)))).0 p.1 in
    let u = (or-none c (d || (e || f))).0 q.1 in
    let v = (or-none d (e || f)).0 u.1 in
    let w = (or-none e f).0 v.1 in
    (p.0, q.0, u.0, v.0, w.0, w.1)

pub record-counts : (room : ℕ) (r : Run) → record_impossible room r ≡ false → Counts room r
unfolding record_impossible
record-counts room r h =
    let t = six-none
    (eqb r.used 0)
    (ltb room r.used)
    (ltb r.used r.settled)
    (ltb 3 r.outcome)
    (eqb r.settled r.used && not (eqb r.outcome 1))
    (ltb r.settled r.used && eqb r.outcome 1)
    h in
    let most : r.settled ≤ r.used = ltb-false _ _ t.2 in
    record {
      some = positive r.used (eqb-false _ _ t.0);
      within = ltb-false _ _ t.1;
      settled = most;
      unsettled = λ k. below r.settled r.used most
          (λ q. k (eqb-true _ _ (not-false (eqb r.outcome 1) (and_none (eqb r.settled r.used) (not (eqb r.outcome 1)) (eq-eqb _ _ q) t.4))));
    }
  where
    positive : (n : ℕ) → (n ≡ 0 → ⊥) → 0 < n
    positive n h = omega arith

    below : (i n : ℕ) → i ≤ n → (i ≡ n → ⊥) → i < n
    below i n h k = omega arith

-- row i of the columns, as the loop over the rows looks at it
module _ (s m k : ℕ) (c : Columns) where
  abbrev in_columns : ℕ → Bool
  in_columns i = not (eqb i 0) && row_impossible s m k i (row_at c i)

  looked : (i : ℕ) → 1 ≤ i → (w : Row) (b : Bool) → w ≡ row_at c i → b ≡ row_impossible s m k i w → in_columns i ≡ b
  looked i h w b e q = ap (λ (t : Bool). not t && row_impossible s m k i (row_at c i)) (ne_eqb i 0 (λ z. omega (arith, z, h))) ∙ ap (row_impossible s m k i) (sym e) ∙ sym q

  pub row-found : (n i : ℕ) → 1 ≤ i → i < n → (w : Row) (b : Bool) → w ≡ row_at c i → b ≡ row_impossible s m k i w → b ≡ true → true ≡ some_below n in_columns
  row-found n i h l w b e q z = sym (some_below_lem in_columns n i l (looked i h w b e q ∙ z))

  pub row-passed : (i : ℕ) → 1 ≤ i → some_below i in_columns ≡ false → (w : Row) (b : Bool) → w ≡ row_at c i → b ≡ row_impossible s m k i w → b ≡ false → some_below (i + 1) in_columns ≡ false
  unfolding some_below
  row-passed i h none w b e q z = rw add-one ((or-none (some_below i in_columns) (in_columns i)).1 (none, looked i h w b e q ∙ z))

module _ (s m k room : ℕ) (c : Columns) (r : Run) where
  abbrev in_rows : ℕ → Bool
  in_rows i = not (eqb i 0) && row_impossible s m k i (get_or (rows_in c r.used) i row_zero)

  rows_same : some_below r.used in_rows ≡ some_below r.used (in_columns s m k c)
  rows_same = below-same in_rows (in_columns s m k c) r.used (λ i l. ap (λ (w : Row). not (eqb i 0) && row_impossible s m k i w) (rows_at c r.used i l))

  zero-at : record_impossible room r ≡ false → get_or (rows_in c r.used) 0 row_zero ≡ row_at c 0
  zero-at h = rows_at c r.used 0 (record-counts room r h).some

  pub impossible-record : record_impossible room r ≡ true → true ≡ impossible s m k room (rows_in c r.used) r
  unfolding impossible
  impossible-record h = sym (ap (λ (b : Bool). b || (row_zero_impossible (get_or (rows_in c r.used) 0 row_zero) || some_below r.used in_rows)) h)

  past-record : record_impossible room r ≡ false → impossible s m k room (rows_in c r.used) r ≡ (row_zero_impossible (row_at c 0) || some_below r.used (in_columns s m k c))
  unfolding impossible
  past-record h =
      ap (λ (b : Bool). b || (row_zero_impossible (get_or (rows_in c r.used) 0 row_zero) || some_below r.used in_rows)) h
      ∙ ap₂ (λ (w : Row) (b : Bool). row_zero_impossible w || b) (zero-at h) rows_same

  pub impossible-zero : record_impossible room r ≡ false → row_zero_impossible (row_at c 0) ≡ true → true ≡ impossible s m k room (rows_in c r.used) r
  impossible-zero h z = sym (past-record h ∙ ap (λ (b : Bool). b || some_below r.used (in_columns s m k c)) z)

  pub impossible-rest : record_impossible room r ≡ false → row_zero_impossible (row_at c 0) ≡ false → some_below r.used (in_columns s m k c) ≡ impossible s m k room (rows_in c r.used) r
  impossible-rest h z = sym (past-record h ∙ ap (λ (b : Bool). b || some_below r.used (in_columns s m k c)) z)

-- what holds of a record and rows that pass
pub record Possible (s room : ℕ) (c : Columns) (r : Run) : Type 0 where
  pub counts : Counts room r
  pub rooted : Rooted c.parents r.used
  pub bytes : (i : ℕ) → i < r.used → get_or c.letters i 0 < 2 ^ s

module _ (s m k room : ℕ) (c : Columns) (r : Run) (h : impossible s m k room (rows_in c r.used) r ≡ false) where
  record-passed : record_impossible room r ≡ false
  unfolding impossible
  record-passed = ((or-none (record_impossible room r) (row_zero_impossible (get_or (rows_in c r.used) 0 row_zero) || some_below r.used (in_rows s m k room c r))).0 h).0

  both-passed : (row_zero_impossible (row_at c 0) ≡ false) × (some_below r.used (in_columns s m k c) ≡ false)
  both-passed = (or-none (row_zero_impossible (row_at c 0)) (some_below r.used (in_columns s m k c))).0 (sym (past-record s m k room c r record-passed) ∙ h)

  zero-letter : get_or c.letters 0 0 ≡ 0
  unfolding row_zero_impossible
  zero-letter =
      let w = row_at c 0 in
      let a = (and-all (eqb w.place 0) (eqb w.set 1 && (eqb w.parent 0 && eqb w.letter 0))
      ).0 (not-false (eqb w.place 0 && (eqb w.set 1 && (eqb w.parent 0 && eqb w.letter 0))) both-passed.0) in
      let b = (and-all (eqb w.set 1) (eqb w.parent 0 && eqb w.letter 0)).0 a.1 in
      eqb-true _ _ ((and-all (eqb w.parent 0) (eqb w.letter 0)).0 b.1).1

  other_row : (i : ℕ) → 1 ≤ i → i < r.used → (get_or c.parents i 0 < i) × (get_or c.letters i 0 < 2 ^ s)
  unfolding row_impossible
  other_row i a l =
      let w = row_at c i in
      let passed : row_impossible s m k i w ≡ false =
      sym (looked s m k c i a w (row_impossible s m k i w) refl refl) ∙ (below_none (in_columns s m k c) r.used).0 both-passed.1 i l in
      let rest = (or-none (eqb w.place 0 || ltb m w.place)
      ((has w.set 0 || not (within (k + 1) w.set)) || (leb i w.parent || not (within s w.letter)))).0 passed in
      let last = (or-none (has w.set 0 || not (within (k + 1) w.set)) (leb i w.parent || not (within s w.letter))).0 rest.1 in
      let two = (or-none (leb i w.parent) (not (within s w.letter))).0 last.1 in
      (leb-false _ _ two.0, ltb-true _ _ (not-false (within s w.letter) two.1))

  pub possible : Possible s room c r
  possible = record {
    counts = record-counts room r record-passed;
    rooted = λ i a l. (other_row i a l).0;
    bytes = λ i l. byte i l;
  }
    where
      byte : (i : ℕ) → i < r.used → get_or c.letters i 0 < 2 ^ s
      byte zero l = subst (λ (x : ℕ). x < 2 ^ s) (sym zero-letter) (pow_pos s)
      byte (suc i) l = (other_row (suc i) (omega arith) l).1
