-- Refusal 16 as properties of a record and its rows: none of six tests passes exactly when each of them fails, and a test that
-- fails is taken to the property that it decides.
use Prim.Native.Nat.{ℕ, suc, ◌+◌, ◌%◌, ◌^◌, ◌≤◌, ◌<◌}
use mathlib.Core.Path.{◌≡◌, refl, sym, ap, ◌∙◌}
use mathlib.Core.Logic.{◌↔◌, ◌≢◌}
use mathlib.Core.Bool.{Bool, true, false, not, ◌&&◌, ◌||◌, true≢false, false≢true, or_assoc}
use mathlib.Core.List.{List}
use native.Mathlib.Numerals.{add-one}
use native.Mathlib.Omega.{arith}
use lib.Dec.{eqb, ltb, leb}
use lib.ListN.{get_or}
use borrow.Author.Tests.{eq-eqb, ne_eqb, eqb-true, eqb-false, ltb-true, ltb-false, leb-false, lt-ltb, le-ltb, lt-leb, not-true}
use Rattle.bits.specs.Bit.{bit, has, within}
use Rattle.bits.proofs.Laws.{bit-low, bit-lt}
use Rattle.effect.specs.Refusals.{some_below}
use Rattle.effect.proofs.Laws.{and-all, or-none, not_none, below_none}
use Rattle.goals.specs.declared.Row.{Row}
use Rattle.goals.specs.declared.Run.{Run}
use Rattle.goals.specs.Goals.{row, row_zero}
use Rattle.goals.specs.Refusals.{record_impossible, row_zero_impossible, row_impossible, impossible}

-- s signals, m instants on the left and k on the right, the room, the used rows and the record: no part of 16 applies
pub record Possible (s m k room : ℕ) (rows : List Row) (r : Run) : Type 0 where
  pub some : 0 < r.used
  pub within : r.used ≤ room
  pub settled : r.settled ≤ r.used
  pub outcome : r.outcome ≤ 3
  pub all : r.settled ≡ r.used → r.outcome ≡ 1
  pub unsettled : r.settled < r.used → r.outcome ≢ 1
  pub first : get_or rows 0 row_zero ≡ row_zero
  pub places : (i : ℕ) → 0 < i → i < r.used → (0 < (get_or rows i row_zero).place) × ((get_or rows i row_zero).place ≤ m)
  pub sets : (i : ℕ) → 0 < i → i < r.used → ((get_or rows i row_zero).set < 2 ^ suc k) × ((get_or rows i row_zero).set % 2 ≡ 0)
  pub parents : (i : ℕ) → 0 < i → i < r.used → (get_or rows i row_zero).parent < i
  pub letters : (i : ℕ) → 0 < i → i < r.used → (get_or rows i row_zero).letter < 2 ^ s

-- ---- what it says that a test fails
and_none : (a b : Bool) → ((a && b) ≡ false) ↔ (a ≡ true → b ≡ false)
and_none true b = ((λ h e. h), (λ h. h refl))
and_none false b = ((λ h e. absurd (false≢true e)), (λ h. refl))

-- none of six tests passes, as the record asks them; a row's six stand in other brackets
six-none : (a b c d e f : Bool)
    → ((a || (b || (c || (d || (e || f))))) ≡ false)
    ↔ ((a ≡ false) × (b ≡ false) × (c ≡ false) × (d ≡ false) × (e ≡ false) × (f ≡ false))
six-none false false false false e f = ((λ h. let z = (or-none e f).0 h in (refl, refl, refl, refl, z.0, z.1)), (λ h. (or-none e f).1 (h.4, h.5)))
six-none false false false true e f = ((λ h. absurd (true≢false h)), (λ h. h.3))
six-none false false true d e f = ((λ h. absurd (true≢false h)), (λ h. h.2))
six-none false true c d e f = ((λ h. absurd (true≢false h)), (λ h. h.1))
six-none true b c d e f = ((λ h. absurd (true≢false h)), (λ h. h.0))

brackets : (a b c d e f : Bool) → ((a || b) || ((c || d) || (e || f))) ≡ (a || (b || (c || (d || (e || f)))))
brackets a b c d e f = simp or_assoc

-- a number that is not 0
some-iff : (n : ℕ) → (eqb n 0 ≡ false) ↔ (0 < n)
some-iff n = ((λ h. positive (eqb-false n 0 h)), (λ h. ne_eqb n 0 (λ e. omega arith)))
  where
    positive : (n ≡ 0 → ⊥) → 0 < n
    positive h = omega arith

-- place 0 is no member
even-iff : (x : ℕ) → (has x 0 ≡ false) ↔ (x % 2 ≡ 0)
even-iff x = ((λ h. even (eqb-false (bit x 0) 1 h)), (λ h. ne_eqb (bit x 0) 1 (λ e. omega (arith, bit-low x))))
  where
    even : (bit x 0 ≡ 1 → ⊥) → x % 2 ≡ 0
    even h = omega (arith, bit-low x, bit-lt x 0)

within-iff : (w x : ℕ) → (not (within w x) ≡ false) ↔ (x < 2 ^ w)
within-iff w x = ((λ h. ltb-true x (2 ^ w) ((not_none (within w x)).0 h)), (λ h. (not_none (within w x)).1 (lt-ltb x (2 ^ w) h)))

-- ---- the three parts
record-iff : (room : ℕ) (r : Run) → (record_impossible room r ≡ false)
    ↔ ((0 < r.used)
    × (r.used ≤ room)
    × (r.settled ≤ r.used)
    × (r.outcome ≤ 3)
    × (r.settled ≡ r.used → r.outcome ≡ 1)
    × (r.settled < r.used → r.outcome ≢ 1))
unfolding record_impossible
record-iff room r =
    let tests = six-none
    (eqb r.used 0)
    (ltb room r.used)
    (ltb r.used r.settled)
    (ltb 3 r.outcome)
    (eqb r.settled r.used && not (eqb r.outcome 1))
    (ltb r.settled r.used && eqb r.outcome 1) in (
      (λ h.
          let t = tests.0 h in (
            (some-iff r.used).0 t.0,
            ltb-false _ _ t.1,
            ltb-false _ _ t.2,
            ltb-false _ _ t.3,
            (λ e. eqb-true _ _ ((not_none (eqb r.outcome 1)).0 ((and_none (eqb r.settled r.used) (not (eqb r.outcome 1))).0 t.4 (eq-eqb _ _ e)))),
            (λ l. eqb-false _ _ ((and_none (ltb r.settled r.used) (eqb r.outcome 1)).0 t.5 (lt-ltb _ _ l))),
          )),
      (λ p.
          tests.1 (
            (some-iff r.used).1 p.0,
            le-ltb _ _ p.1,
            le-ltb _ _ p.2,
            le-ltb _ _ p.3,
            (and_none (eqb r.settled r.used) (not (eqb r.outcome 1))).1 (λ e. (not_none (eqb r.outcome 1)).1 (eq-eqb _ _ (p.4 (eqb-true _ _ e)))),
            (and_none (ltb r.settled r.used) (eqb r.outcome 1)).1 (λ l. ne_eqb _ _ (p.5 (ltb-true _ _ l))),
          )),
    )

zero-iff : (w : Row) → (row_zero_impossible w ≡ false) ↔ (w ≡ row_zero)
unfolding row_zero_impossible
zero-iff w = (to, from)
  where
    to : not (eqb w.place 0 && (eqb w.set 1 && (eqb w.parent 0 && eqb w.letter 0))) ≡ false → w ≡ row_zero
    to h =
        let p = (and-all (eqb w.place 0) (eqb w.set 1 && (eqb w.parent 0 && eqb w.letter 0))).0
        ((not_none (eqb w.place 0 && (eqb w.set 1 && (eqb w.parent 0 && eqb w.letter 0)))).0 h) in
        let q = (and-all (eqb w.set 1) (eqb w.parent 0 && eqb w.letter 0)).0 p.1 in
        let u = (and-all (eqb w.parent 0) (eqb w.letter 0)).0 q.1 in
        λ i. row (eqb-true w.place 0 p.0 i) (eqb-true w.set 1 q.0 i) (eqb-true w.parent 0 u.0 i) (eqb-true w.letter 0 u.1 i)

    from : w ≡ row_zero → not (eqb w.place 0 && (eqb w.set 1 && (eqb w.parent 0 && eqb w.letter 0))) ≡ false
    from e = rw e

-- what row i other than the first has
abbrev Fits : ℕ → ℕ → ℕ → ℕ → Row → Type 0
Fits s m k i w = (0 < w.place) × (w.place ≤ m) × (w.set % 2 ≡ 0) × (w.set < 2 ^ suc k) × (w.parent < i) × (w.letter < 2 ^ s)

row-iff : (s m k i : ℕ) (w : Row) → (row_impossible s m k i w ≡ false) ↔ Fits s m k i w
unfolding row_impossible
row-iff s m k i w =
    let tests = six-none (eqb w.place 0) (ltb m w.place) (has w.set 0) (not (within (k + 1) w.set)) (leb i w.parent) (not (within s w.letter)) in
    let same = brackets (eqb w.place 0) (ltb m w.place) (has w.set 0) (not (within (k + 1) w.set)) (leb i w.parent) (not (within s w.letter)) in (
      (λ h.
          let t = tests.0 (sym same ∙ h) in (
            (some-iff w.place).0 t.0,
            ltb-false _ _ t.1,
            (even-iff w.set).0 t.2,
            rw add-one at ((within-iff (k + 1) w.set).0 t.3),
            leb-false _ _ t.4,
            (within-iff s w.letter).0 t.5,
          )),
      (λ p.
          same ∙ tests.1 (
            (some-iff w.place).1 p.0,
            le-ltb _ _ p.1,
            (even-iff w.set).1 p.2,
            (within-iff (k + 1) w.set).1 (rw add-one p.3),
            lt-leb _ _ p.4,
            (within-iff s w.letter).1 p.5,
          )),
    )

-- the rows but the first
abbrev row_test : ℕ → ℕ → ℕ → List Row → ℕ → Bool
row_test s m k rows i = not (eqb i 0) && row_impossible s m k i (get_or rows i row_zero)

rows-iff : (s m k n : ℕ) (rows : List Row) → (some_below n (row_test s m k rows) ≡ false)
    ↔ ((i : ℕ) → 0 < i → i < n → Fits s m k i (get_or rows i row_zero))
rows-iff s m k n rows = (
  (λ h i a l.
      (row-iff s m k i (get_or rows i row_zero)).0
      ((and_none (not (eqb i 0)) (row_impossible s m k i (get_or rows i row_zero))).0
      ((below_none (row_test s m k rows) n).0 h i l)
      (ap not (ne_eqb i 0 (λ e. omega arith))))),
  (λ h.
      (below_none (row_test s m k rows) n).1 (λ i l.
      (and_none (not (eqb i 0)) (row_impossible s m k i (get_or rows i row_zero))).1 (λ e.
      (row-iff s m k i (get_or rows i row_zero)).1 (h i ((some-iff i).0 (not-true (eqb i 0) e)) l)))),
)

pub possible-iff : (s m k room : ℕ) (rows : List Row) (r : Run) → (impossible s m k room rows r ≡ false) ↔ Possible s m k room rows r
unfolding impossible
possible-iff s m k room rows r = (to, from)
  where
    rows-test : Bool
    rows-test = row_zero_impossible (get_or rows 0 row_zero) || some_below r.used (row_test s m k rows)

    to : (record_impossible room r || rows-test) ≡ false → Possible s m k room rows r
    to h =
        let p = (or-none (record_impossible room r) rows-test).0 h in
        let q = (or-none (row_zero_impossible (get_or rows 0 row_zero)) (some_below r.used (row_test s m k rows))).0 p.1 in
        let counts = (record-iff room r).0 p.0 in
        let other = (rows-iff s m k r.used rows).0 q.1 in
        record {
          some = counts.0;
          within = counts.1;
          settled = counts.2;
          outcome = counts.3;
          all = counts.4;
          unsettled = counts.5;
          first = (zero-iff (get_or rows 0 row_zero)).0 q.0;
          places = λ i a l. ((other i a l).0, (other i a l).1);
          sets = λ i a l. ((other i a l).3, (other i a l).2);
          parents = λ i a l. (other i a l).4;
          letters = λ i a l. (other i a l).5;
        }

    from : Possible s m k room rows r → (record_impossible room r || rows-test) ≡ false
    from p =
        (or-none (record_impossible room r) rows-test).1 (
          (record-iff room r).1 (p.some, p.within, p.settled, p.outcome, p.all, p.unsettled),
          (or-none (row_zero_impossible (get_or rows 0 row_zero)) (some_below r.used (row_test s m k rows))).1 (
            (zero-iff (get_or rows 0 row_zero)).1 p.first,
            (rows-iff s m k r.used rows).1 (λ i a l.
                ((p.places i a l).0, (p.places i a l).1, (p.sets i a l).1, (p.sets i a l).0, p.parents i a l, p.letters i a l)),
          ),
        )
