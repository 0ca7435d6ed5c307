-- What `read` and `write` leave, from what the header and `effect::check` answered: each return of the code is one of
-- these laws. The number of a refusal is not 0; that of an acceptance is.
use Prim.Native.Nat.{ℕ, ◌≤◌}
use mathlib.Core.Path.{◌≡◌, sym, ap, ap₂, ◌∙◌}
use mathlib.Core.Bool.{cond}
use mathlib.Core.List.{List, [], ◌∷◌, ◌++◌}
use native.Mathlib.Omega.{arith}
use lib.Dec.{eqb, ltb}
use lib.ListN.{length, get_or, drop, length-map}
use Rattle.std.specs.Prelude.{Ok, Err}
use Rattle.effect.specs.declared.Refusal.{Refusal}
use Rattle.effect.specs.Node.{decode_of, decodings}
use Rattle.effect.specs.Refusals.{refusal_number, rule, side_refusal, Answer, answered, checked, check_of, front}
use Rattle.effect.proofs.Laws.{lowest-skip, lowest-head, lowest-one, side-table}
use Rattle.effect.proofs.Numbers.{number-positive}
use Rattle.sheet.specs.declared.Header.{Header}
use Rattle.sheet.specs.Bits.{each, fields}
use Rattle.sheet.specs.Sheet.{sheet_length, sheet_of, signals_in, count_in, nodes_in, header_refusal, read_refusal, write_refusal, Left, exit, left, reading, read_of, writing, write_of}
use Rattle.sheet.proofs.Fields.{length_fields}
use Rattle.sheet.proofs.Front.{done, left-done, left-refused}
use Rattle.sheet.proofs.Heading.{count-lt, length-nodes}
use Rattle.sheet.proofs.Accepted.{Fine, header-none, side-none}

not_zero : (r : Refusal) → refusal_number r ≡ 0 → ⊥
not_zero r z = omega (arith, number-positive r)

-- the check's answer
module _ (s : ℕ) (ns : List ℕ) where
  check-refused : (r : Refusal) → checked (Err r) ≡ check_of s ns → side_refusal s (decodings ns) ≡ refusal_number r
  unfolding checked check_of
  check-refused r e = sym (ap (λ (t : Answer). t.number) e)

  pub check-side : (m : ℕ) → checked (Ok m) ≡ check_of s ns → Fine s ns
  unfolding checked check_of
  check-side m e = (side-none s ns).0 (sym (ap (λ (t : Answer). t.number) e))

-- the header's answer
abbrev pub headed : List ℕ → List ℕ → Answer
headed sheet lent = answered (header_refusal sheet (length lent)) (signals_in sheet ∷ count_in sheet ∷ [])

module _ (sheet lent : List ℕ) where
  -- past 1 to 6, the header has what stands in the sheet
  module _ (h : Header) (e : reading (Ok h) ≡ headed sheet lent) where
    header-zero : header_refusal sheet (length lent) ≡ 0
    unfolding reading
    header-zero = sym (ap (λ (t : Answer). t.number) e)

    header-values : ◌≡◌ {A = List ℕ} (h.s ∷ h.nodes ∷ []) (signals_in sheet ∷ count_in sheet ∷ [])
    unfolding reading
    header-values = ap (λ (t : Answer). t.values) e ∙ ap (λ (n : ℕ). cond (eqb n 0) (signals_in sheet ∷ count_in sheet ∷ []) []) header-zero

    pub header-signals : h.s ≡ signals_in sheet
    header-signals = ap (λ (l : List ℕ). get_or l 0 0) header-values

    pub header-count : h.nodes ≡ count_in sheet
    header-count = ap (λ (l : List ℕ). get_or l 1 0) header-values

    pub header-few : h.nodes ≤ 255
    header-few = omega (arith, header-count, count-lt sheet)

    pub header-room : h.nodes ≤ length lent
    header-room = omega (arith, header-count, ((header-none sheet (length lent)).0 header-zero).room)

  -- 1 to 6
  pub read-header : (r : Refusal) → reading (Err r) ≡ headed sheet lent → exit (reading (Err r)) lent ≡ read_of sheet lent
  unfolding reading read_of read_refusal
  read-header r e =
      let n : refusal_number r ≡ header_refusal sheet (length lent) = ap (λ (t : Answer). t.number) e in
      sym
      (ap (λ (k : ℕ). left k (signals_in sheet ∷ count_in sheet ∷ []) (nodes_in sheet) lent) (lowest-head _ _ (λ z. not_zero r (n ∙ z)) ∙ sym n)
      ∙ left-refused _ _ (nodes_in sheet) lent (not_zero r))

  -- past the header the check decides
  pub read-side : header_refusal sheet (length lent) ≡ 0 → read_refusal sheet (length lent) ≡ side_refusal (signals_in sheet) (decodings (nodes_in sheet))
  unfolding read_refusal
  read-side z =
      let h = (header-none sheet (length lent)).0 z in
      let n : length (decodings (nodes_in sheet)) ≡ count_in sheet = length-map (nodes_in sheet) decode_of ∙ length-nodes sheet in
      lowest-skip _ _ z ∙ lowest-one _
      ∙ sym (side-table (signals_in sheet) (decodings (nodes_in sheet)) h.signals (λ e. h.some (sym n ∙ e)) (omega (arith, n, count-lt sheet)))

  -- the check was of s and of the nodes of the sheet, taken aside
  module _ (h : Header) (e : reading (Ok h) ≡ headed sheet lent) (aside : List ℕ) (is : aside ≡ fields (each 8 sheet) 12 19 h.nodes) where
    aside-nodes : aside ≡ nodes_in sheet
    unfolding nodes_in count_in
    aside-nodes = is ∙ ap (fields (each 8 sheet) 12 19) (header-count h e)

    aside-length : length aside ≡ h.nodes
    aside-length = ap (λ (l : List ℕ). length l) is ∙ length_fields (each 8 sheet) 12 19 h.nodes

    check-was : check_of h.s aside ≡ check_of (signals_in sheet) (nodes_in sheet)
    check-was = ap₂ check_of (header-signals h e) aside-nodes

    -- 7 to 12
    pub read-refused : (r : Refusal) → checked (Err r) ≡ check_of h.s aside → exit (reading (Err r)) lent ≡ read_of sheet lent
    unfolding reading read_of
    read-refused r f =
        sym
        (ap (λ (k : ℕ). left k (signals_in sheet ∷ count_in sheet ∷ []) (nodes_in sheet) lent) (read-side (header-zero h e) ∙ check-refused _ _ r (f ∙ check-was))
        ∙ left-refused _ _ (nodes_in sheet) lent (not_zero r))

    pub read-accepted : (m : ℕ) → checked (Ok m) ≡ check_of h.s aside → exit (reading (Ok h)) (aside ++ drop h.nodes lent) ≡ read_of sheet lent
    unfolding reading read_of
    read-accepted m f =
        ap₂ (λ (k : ℕ) (l : List ℕ). done l (aside ++ drop k lent)) (sym aside-length) (header-values h e)
        ∙ ap (λ (l : List ℕ). done (signals_in sheet ∷ count_in sheet ∷ []) (front l lent)) aside-nodes
        ∙ sym (left-done _ _ (nodes_in sheet) lent (read-side (header-zero h e) ∙ (side-none _ _).1 (check-side _ _ m (f ∙ check-was))))

module _ (s : ℕ) (ns out : List ℕ) where
  -- 2, 3 and 7 to 12
  pub write-refused : (r : Refusal) → checked (Err r) ≡ check_of s ns → exit (writing (Err r)) out ≡ write_of s ns out
  unfolding writing write_of write_refusal
  write-refused r e =
      let q = check-refused s ns r e in
      sym
      (ap (λ (k : ℕ). left k (sheet_length (length ns) ∷ []) (sheet_of s ns) out) (lowest-head _ _ (λ z. not_zero r (sym q ∙ z)) ∙ q)
      ∙ left-refused _ _ (sheet_of s ns) out (not_zero r))

  -- 13, or the sheet
  pub write_checked : (m : ℕ) → checked (Ok m) ≡ check_of s ns
      → (l : Left) → l ≡ left (rule 13 (ltb (length out) (sheet_length (length ns)))) (sheet_length (length ns) ∷ []) (sheet_of s ns) out → l ≡ write_of s ns out
  unfolding write_of write_refusal
  write_checked m e l p =
      p
      ∙ ap (λ (k : ℕ). left k (sheet_length (length ns) ∷ []) (sheet_of s ns) out)
      (sym (lowest-skip _ _ ((side-none s ns).1 (check-side s ns m e)) ∙ lowest-one _))
