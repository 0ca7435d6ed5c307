-- One step: the row's goals as the letters leave them are its candidates, and what is entered is settled.
use Prim.Native.Nat.{ℕ, zero, suc, ◌+◌, ◌^◌, ◌≤◌, ◌<◌, min}
use mathlib.Core.Path.{◌≡◌, refl, sym, ap, ap₂, subst, ◌∙◌}
use mathlib.Core.Bool.{Bool, true, false, cond}
use mathlib.Core.List.{List, [], ◌∷◌, ◌++◌}
use mathlib.Core.Logic.{⊎_elim}
use native.Mathlib.Nat.{eq-or-lt_of_le, le_of_suc-le-suc}
use native.Mathlib.Numerals.{add-one}
use native.Mathlib.Omega.{arith}
use lib.Bits.{bit_and}
use lib.Dec.{eqb}
use lib.ListN.{length, get_or, get_or-append}
use lib.Seq.{get_or-append_seam}
use lib.Pow.{pow_mono}
use Rattle.places.specs.declared.Side.{Side}
use Rattle.places.specs.Readings.{followers, spread_to}
use Rattle.goals.specs.declared.Row.{Row}
use Rattle.goals.specs.declared.Run.{Run}
use Rattle.stepping.specs.declared.Source.{Source}
use Rattle.stepping.specs.Next.{letters_in}
use Rattle.stepping.specs.Rest.{goals_for, all_goals}
use Rattle.stepping.proofs.Laws.{letters-each}
use Rattle.std.specs.Prelude.{Result}
use Rattle.columns.specs.declared.NoRoom.{NoRoom}
use Rattle.columns.specs.declared.Letters.{Letters}
use Rattle.goals.specs.Goals.{row, row_zero, bad_goal, each_member, goals_of, each_letter, candidates, Entered, enter_all}
use Rattle.goals.specs.Run.{State, state, settle, step}
use Rattle.columns.specs.Calls.{Columns, row_at, rows_in, state_of}
use Rattle.goals.specs.Refusals.{record_of}
use Rattle.columns.specs.Core.{Fits, entering, used_of, full_of, Enters, source_of, Ready, Steps}
use Rattle.columns.proofs.Laws.{length-rows_in, put_same, all-grows}

-- row i of the first n
pub rows_at : (c : Columns) (n i : ℕ) → i < n → get_or (rows_in c n) i row_zero ≡ row_at c i
unfolding rows_in
rows_at c zero i h = absurd (omega arith)
rows_at c (suc n) i h = ⊎_elim
    (λ (e : i ≡ n). rw e (subst (λ (k : ℕ). get_or (rows_in c n ++ (row_at c n ∷ [])) k row_zero ≡ row_at c n) (length-rows_in c n) (get_or-append_seam (rows_in c n) (row_at c n) [] row_zero)))
    (λ l. get_or-append (rows_in c n) (row_at c n ∷ []) row_zero i (rw (length-rows_in c n) l) ∙ rows_at c n i l)
    (eq-or-lt_of_le (le_of_suc-le-suc h))

letters-same : (f g : ℕ → List Row) (n : ℕ) → ((x : ℕ) → x < n → f x ≡ g x) → each_letter f n ≡ each_letter g n
unfolding each_letter
letters-same f g zero h = refl
letters-same f g (suc n) h = ap₂ ◌++◌ (letters-same f g n (λ x l. h x (omega arith))) (h n (omega arith))

-- up to 16 signals every letter is among the first 65,536
all-letters : (s : ℕ) → s ≤ 16 → min (2 ^ s) 65536 ≡ 2 ^ s
all-letters s h = let l : 2 ^ s ≤ 2 ^ 16 = pow_mono {i = s} {j = 16} h in omega (arith, l)

-- what the goals of a row are made of, as it was worked out
pub source_is : (left right : Side) (ls : Letters) (place set i n a s : ℕ) → n ≡ 2 ^ ls.s → a ≡ followers left place → s ≡ spread_to right set 64
    → record { s = ls.s; letters = n; left = ls.left; right = ls.right; follow = a; spread = s; parent = i } ≡ source_of left right ls place set i
source_is left right ls place set i n a s e p q =
    λ k. record { s = ls.s; letters = e k; left = ls.left; right = ls.right; follow = p k; spread = q k; parent = i }

-- a record from its three numbers
run-eq : (r : Run) (st : State) → r.settled ≡ st.settled → r.used ≡ length st.rows → r.outcome ≡ st.outcome → r ≡ record_of st
run-eq r st a b d = λ i. record { settled = a i; used = b i; outcome = d i }

module _ (c : Columns) (room : ℕ) (left right : Side) (ls : Letters) (r : Run) (rd : Ready c room left right ls r) where
  abbrev w : Row
  w = row_at c r.settled

  row_is : get_or (rows_in c r.used) r.settled row_zero ≡ w
  row_is = rows_at c r.used r.settled rd.left_over

  -- the step with its row and its test in hand
  step_is : (b : Bool) → b ≡ bad_goal left.accepts right.accepts w.place w.set
      → cond b (state (rows_in c r.used) r.settled 2) (settle r.settled (enter_all room (candidates left right r.settled w) (entering (rows_in c r.used))))
      ≡ step left right room (state_of c r)
  unfolding step
  step_is b e =
      ap (λ (t : Bool). cond t (state (rows_in c r.used) r.settled 2) (settle r.settled (enter_all room (candidates left right r.settled w) (entering (rows_in c r.used))))) e
      ∙ ap (λ (v : Row). cond (bad_goal left.accepts right.accepts v.place v.set) (state (rows_in c r.used) r.settled 2) (settle r.settled (enter_all room (candidates left right r.settled v) (entering (rows_in c r.used))))) (sym row_is)

  pub step-bad : (b : Bool) → b ≡ bad_goal left.accepts right.accepts w.place w.set → b ≡ true
      → Steps c c (step left right room (state_of c r)) (record { settled = r.settled; used = r.used; outcome = 2 })
  step-bad b e h =
      subst (λ (st : State). Steps c c st (record { settled = r.settled; used = r.used; outcome = 2 }))
      (step_is true (sym h ∙ e))
      (record { columns = put_same c r.used room rd.fits; now = run-eq _ (state (rows_in c r.used) r.settled 2) refl (sym (length-rows_in c r.used)) refl })

  -- the goals that come one after the other are the candidates
  abbrev src : Source
  src = source_of left right ls w.place w.set r.settled

  candidates-by : all_goals src ≡ candidates left right r.settled w
  unfolding candidates
  candidates-by =
      letters-each src (letters_in src)
      ∙ ap (each_letter (goals_for src)) (all-letters ls.s rd.few ∙ ap (λ (n : ℕ). 2 ^ n) rd.signals)
      ∙ letters-same (goals_for src) (goals_of left right r.settled w) (2 ^ left.s)
      (λ x l. ap₂ (λ (m v : ℕ). each_member m (λ j. row j v r.settled x) 64)
      (ap (bit_and src.follow) (rd.on_left x l))
      (ap (bit_and src.spread) (rd.on_right x l)))

  pub step-next : (c' : Columns) (b : Bool) (from : Source) (e : Result ℕ NoRoom) (v : Run)
      → b ≡ bad_goal left.accepts right.accepts w.place w.set → b ≡ false → from ≡ src
      → Enters c c' (enter_all room (all_goals from) (entering (rows_in c r.used))) e
      → (v.used ≡ used_of e) × (v.settled ≡ cond (full_of e) r.settled (r.settled + 1)) × (v.outcome ≡ cond (full_of e) 3 (cond (eqb (r.settled + 1) (used_of e)) 1 0))
      → Steps c c' (step left right room (state_of c r)) v
  unfolding settle
  step-next c' b from e v p h q g k =
      subst (λ (st : State). Steps c c' st v) (ap (λ (l : List Row). settle r.settled (enter_all room l (entering (rows_in c r.used)))) (ap all_goals q ∙ candidates-by) ∙ step_is false (sym h ∙ p)) settled_is
    where
      all : Entered
      all = enter_all room (all_goals from) (entering (rows_in c r.used))

      by : (f : Bool) → all.full ≡ f
          → Steps c c' (cond f (state all.rows r.settled 3) (state all.rows (suc r.settled) (cond (eqb (suc r.settled) (length all.rows)) 1 0))) v
      by true q = record {
        columns = g.columns;
        now = run-eq v (state all.rows r.settled 3) (k.1 ∙ ap (λ (t : Bool). cond t r.settled (r.settled + 1)) (g.full ∙ q)) (k.0 ∙ g.used)
            (k.2 ∙ ap (λ (t : Bool). cond t 3 (cond (eqb (r.settled + 1) (used_of e)) 1 0)) (g.full ∙ q));
      }
      by false q = record {
        columns = g.columns;
        now = run-eq v (state all.rows (suc r.settled) (cond (eqb (suc r.settled) (length all.rows)) 1 0)) (k.1 ∙ ap (λ (t : Bool). cond t r.settled (r.settled + 1)) (g.full ∙ q) ∙ add-one r.settled) (k.0 ∙ g.used)
            (k.2 ∙ ap (λ (t : Bool). cond t 3 (cond (eqb (r.settled + 1) (used_of e)) 1 0)) (g.full ∙ q)
            ∙ ap₂ (λ (m n : ℕ). cond (eqb m n) 1 0) (add-one r.settled) g.used);
      }

      settled_is : Steps c c' (settle r.settled all) v
      settled_is = by all.full refl

-- no more rows are used than there is room
pub enters-most : (c c' : Columns) (n room : ℕ) (xs : List Row) (e : Result ℕ NoRoom) → Fits c n room → Enters c c' (enter_all room xs (entering (rows_in c n))) e → used_of e ≤ room
enters-most c c' n room xs e f g = rw g.used ((all-grows room xs (entering (rows_in c n))).within (rw (length-rows_in c n) f.used))
