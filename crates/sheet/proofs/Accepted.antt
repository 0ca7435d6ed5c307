-- When the reader and the writer accept, row by row: a refusal is 0 exactly when none of its rows applies. And what
-- an accepted table tells of its numbers: each has 19 bits, since a larger one is refused as 7.
use Prim.Native.Nat.{ℕ, ◌^◌, ◌≤◌, ◌<◌}
use mathlib.Core.Path.{◌≡◌, refl, sym, ◌∙◌}
use mathlib.Core.Bool.{false}
use mathlib.Core.Logic.{◌↔◌, ⊎_elim}
use mathlib.Core.List.{List, [], ◌∷◌}
use native.Mathlib.Omega.{arith}
use lib.ListN.{length, get_or, length-map, get_or-eq_default}
use borrow.Author.Tests.{ltb-false, le-ltb, eqb-false, eqb-true, eq-eqb, ne_eqb}
use Rattle.std.proofs.lemmas.Bool.{cases_lt}
use Rattle.std.specs.Prelude.{None}
use Rattle.effect.specs.Node.{decode_of, decodings}
use Rattle.effect.specs.Refusals.{lowest, node_refusal, refusal_at, table_refusal, side_refusal}
use Rattle.effect.proofs.Laws.{entry-decoded, lowest-none, rule-none, none-nodes, or-none, not_none}
use Rattle.effect.proofs.Inverse.{decoded-lt}
use Rattle.sheet.specs.Sheet.{sheet_length, signals_in, count_in, nodes_in, filling_set, header_refusal, read_refusal, write_refusal}

-- none of 1 to 6 applies
pub record FineHeader (sheet : List ℕ) (lent : ℕ) : Type 0 where
  pub long : 2 ≤ length sheet
  pub signals : signals_in sheet ≤ 8
  pub some : count_in sheet ≡ 0 → ⊥
  pub size : length sheet ≡ sheet_length (count_in sheet)
  pub filled : filling_set sheet ≡ false
  pub room : count_in sheet ≤ lent

-- none of 2, 3 and 7 to 12 applies
pub record Fine (s : ℕ) (ns : List ℕ) : Type 0 where
  pub signals : s ≤ 8
  pub some : length ns ≡ 0 → ⊥
  pub few : length ns ≤ 255
  pub table : table_refusal s (decodings ns) ≡ 0

-- no refusal exactly when no row has one
abbrev AllNone : List ℕ → Type 0
AllNone [] = Unit {0}
AllNone (r ∷ rs) = (r ≡ 0) × AllNone rs

rows_none : (rs : List ℕ) → lowest rs ≡ 0 → AllNone rs
rows_none [] h = tt
rows_none (r ∷ rs) h = let p = (lowest-none r rs).0 h in (p.0, rows_none rs p.1)

none_rows : (rs : List ℕ) → AllNone rs → lowest rs ≡ 0
unfolding lowest
none_rows [] h = refl
none_rows (r ∷ rs) h = (lowest-none r rs).1 (h.0, none_rows rs h.1)

pub header-none : (sheet : List ℕ) (lent : ℕ) → (header_refusal sheet lent ≡ 0) ↔ FineHeader sheet lent
unfolding header_refusal
header-none sheet lent = (
  (λ h.
      let z = rows_none _ h in
      record {
        long = ltb-false _ _ ((rule-none 0 _).0 z.0);
        signals = ltb-false _ _ ((rule-none 1 _).0 z.1.0);
        some = eqb-false _ _ ((rule-none 2 _).0 z.1.1.0);
        size = eqb-true _ _ ((not_none _).0 ((rule-none 3 _).0 z.1.1.1.0));
        filled = (rule-none 4 _).0 z.1.1.1.1.0;
        room = ltb-false _ _ ((rule-none 5 _).0 z.1.1.1.1.1.0);
      }),
  (λ h.
      none_rows _ (
        (rule-none 0 _).1 (le-ltb _ _ h.long),
        (
          (rule-none 1 _).1 (le-ltb _ _ h.signals),
          (
            (rule-none 2 _).1 (ne_eqb _ _ h.some),
            (
              (rule-none 3 _).1 ((not_none _).1 (eq-eqb _ _ h.size)),
              (
                (rule-none 4 _).1 h.filled,
                (
                  (rule-none 5 _).1 (le-ltb _ _ h.room),
                  tt,
                ),
              ),
            ),
          ),
        ),
      )),
)

pub side-none : (s : ℕ) (ns : List ℕ) → (side_refusal s (decodings ns) ≡ 0) ↔ Fine s ns
unfolding side_refusal
side-none s ns =
    let size : length (decodings ns) ≡ length ns = length-map ns decode_of in (
      (λ h.
          let z = rows_none _ h in
          let n = (or-none _ _).0 ((rule-none 2 _).0 z.1.0) in
          let few : length (decodings ns) ≤ 255 = ltb-false _ _ n.1 in
          record {
            signals = ltb-false _ _ ((rule-none 1 _).0 z.0);
            some = λ e. eqb-false _ _ n.0 (size ∙ e);
            few = omega arith;
            table = z.1.1.0;
          }),
      (λ h.
          none_rows _ (
            (rule-none 1 _).1 (le-ltb _ _ h.signals),
            (
              (rule-none 2 _).1 ((or-none _ _).1 (ne_eqb _ _ (λ e. h.some (sym size ∙ e)), le-ltb _ _ (let l : length (decodings ns) ≤ 255 = omega (arith, h.few) in l))),
              (
                h.table,
                tt,
              ),
            ),
          )),
    )

pub read_none : (sheet : List ℕ) (lent : ℕ) → (read_refusal sheet lent ≡ 0) ↔ (FineHeader sheet lent × (table_refusal (signals_in sheet) (decodings (nodes_in sheet)) ≡ 0))
unfolding read_refusal
read_none sheet lent = (
  (λ h. let z = rows_none _ h in ((header-none sheet lent).0 z.0, z.1.0)),
  (λ h. none_rows _ ((header-none sheet lent).1 h.0, (h.1, tt))),
)

pub write-none : (s : ℕ) (ns : List ℕ) (room : ℕ) → (write_refusal s ns room ≡ 0) ↔ (Fine s ns × (sheet_length (length ns) ≤ room))
unfolding write_refusal
write-none s ns room = (
  (λ h. let z = rows_none _ h in ((side-none s ns).0 z.0, ltb-false _ _ ((rule-none 12 _).0 z.1.0))),
  (λ h. none_rows _ ((side-none s ns).1 h.0, ((rule-none 12 _).1 (le-ltb _ _ h.1), tt))),
)

-- each number of an accepted table stands for a node
pub numbers-small : (s : ℕ) (ns : List ℕ) → table_refusal s (decodings ns) ≡ 0 → (k : ℕ) → get_or ns k 0 < 2 ^ 19
unfolding table_refusal refusal_at node_refusal
numbers-small s ns h k = ⊎_elim (λ l. decoded-lt (get_or ns k 0) (decoded l)) (λ l. rw (get_or-eq_default ns 0 l) (omega arith)) (cases_lt k (length ns))
  where
    decoded : k < length ns → decode_of (get_or ns k 0) ≡ None → ⊥
    decoded l e =
        let fine : refusal_at s (decodings ns) k ≡ 0 = none-nodes _ _ ((lowest-none _ _).0 h).0 k (rw (length-map ns decode_of) l) in
        let z : ◌≡◌ {A = ℕ} 7 0 = rw (entry-decoded ns k, e) at fine in
        omega arith
