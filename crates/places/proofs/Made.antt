-- The side of an accepted table is what the survey, the ends of the root and the follow sets make of it.
use Prim.Native.Nat.{ℕ, ◌-◌, ◌≤◌, ◌<◌}
use mathlib.Core.Path.{◌≡◌, sym, ap, subst, ◌∙◌}
use mathlib.Core.Bool.{Bool, cond}
use mathlib.Core.List.{List}
use native.Mathlib.Decide.{ℕ_discrete}
use native.Mathlib.Omega.{arith}
use lib.Bits.{bit_or}
use lib.Dec.{eqb}
use lib.ListN.{length, get_or, set, take, length-map, length-set}
use lib.Seq.{ext_get_or, get_or-take, get_or-set_same, get_or-set_other, length-take-le}
use borrow.Author.Tests.{ne_eqb, eq-eqb}
use Rattle.effect.specs.declared.Node.{Node}
use Rattle.effect.specs.declared.Node.TheVariants.{Nil}
use Rattle.effect.specs.Node.{decode_of, decodings, node_of}
use Rattle.effect.specs.Meaning.{root}
use Rattle.effect.specs.declared.Refusal.{Refusal}
use Rattle.std.specs.Prelude.{Ok, Err}
use Rattle.effect.specs.Refusals.{refusal_number, instants, side_refusal, Answer, checked, check_of}
use Rattle.effect.specs.WellFormed.{WellFormed}
use Rattle.effect.proofs.Accepted.{accepted-iff}
use Rattle.effect.proofs.Numbers.{number-positive}
use Rattle.places.specs.declared.Side.{Side}
use Rattle.places.specs.declared.Masks.{Masks}
use Rattle.places.specs.declared.Ends.{Ends}
use Rattle.places.specs.Places.{place, numbered, first_of, links_to, after, accepting}
use Rattle.places.specs.Side.{list_of, side_of, no_side, prepared, prepare_of}
use Rattle.places.specs.Walk.{table_of, Walkable, ends_of, linked_to, Holds, Numbers, Surveyable}
use Rattle.places.proofs.Rows.{numbered-length, numbered-at, numbered_below, numbered-instant}
use Rattle.places.proofs.ByPlace.{list_of-length, list_of-at, list-is}
use Rattle.places.proofs.Laws.{count-instants}

table-length : (ns : List ℕ) → length (table_of ns) ≡ length ns
table-length ns = length-map (decodings ns) node_of ∙ length-map ns decode_of

module _ (s : ℕ) (ns : List ℕ) (w : WellFormed s (decodings ns)) where
  abbrev t : List Node
  t = table_of ns

  few : instants t (length ns) ≤ 63
  few = rw (← table-length ns) w.formed.few

  pub surveyable : Surveyable ns 255
  surveyable = record {
    fits = rw length-map at w.size;
    few = few;
  }

  pub some : 1 ≤ length ns
  some = rw length-map at w.some

  pub walkable : Walkable (numbered t)
  unfolding place
  walkable = record {
    lower = numbered_below t w.formed.below;
    small = λ i j n e. let (l, o, q) = numbered-instant t i j n e in
        omega (arith, few, table-length ns, count-instants t i (length t) l);
  }

  -- the numbered table, as the survey leaves it
  pub skeleton-is : (sk : List Node) → length ns ≤ length sk → Numbers t (length ns) sk → take (length ns) sk ≡ numbered t
  skeleton-is sk l h = ext_get_or Nil _ _ same_length (λ i g. let q : i < length ns = rw size at g in get_or-take (length ns) sk i Nil q ∙ h i q ∙ sym (numbered-at t i))
    where
      size : length (take (length ns) sk) ≡ length ns
      size = length-take-le (length ns) sk l

      same_length : length (take (length ns) sk) ≡ length (numbered t)
      same_length = size ∙ sym (numbered-length t ∙ table-length ns)

  module _ (m : Masks) (x : Ends) (follow : List ℕ) (o : ℕ) (hm : Holds t (length ns) m) (hx : x ≡ ends_of (numbered t) (length ns - 1))
      (hf : follow ≡ linked_to (numbered t) (length (numbered t))) (ho : o ≡ cond x.empty 1 0) where
    all-nodes : length ns ≡ length (numbered t)
    all-nodes = sym (numbered-length t ∙ table-length ns)

    ends-root : x ≡ ends_of (numbered t) (root (numbered t))
    ends-root = hx ∙ ap (λ (n : ℕ). ends_of (numbered t) (n - 1)) all-nodes

    size : length follow ≡ 64
    size = ap length hf ∙ list_of-length 64 _

    follow-made : set follow 0 x.first ≡ list_of 64 (after (numbered t))
    unfolding after
    follow-made = list-is _ 64 _ (length-set follow 0 x.first ∙ size) (λ j l. go j l (ℕ_discrete j 0))
      where
        go : (j : ℕ) → j < 64 → Dec (j ≡ 0) → get_or (set follow 0 x.first) j 0 ≡ cond (eqb j 0) (first_of (numbered t) (root (numbered t))) (links_to (numbered t) j (length (numbered t)))
        go j l (yes e) = rw e (get_or-set_same follow 0 x.first 0 (omega (arith, size)) ∙ ap (λ (y : Ends). y.first) ends-root)
        go j l (no e) = rw (ne_eqb j 0 e)
            (get_or-set_other follow 0 j x.first 0 e ∙ ap (λ (xs : List ℕ). get_or xs j 0) hf ∙ list_of-at 64 (λ j. links_to (numbered t) j (length (numbered t))) j l)

    accepts-made : bit_or x.last o ≡ accepting (numbered t)
    unfolding accepting
    accepts-made = ap (bit_or x.last) ho ∙ ap (λ (y : Ends). bit_or y.last (cond y.empty 1 0)) ends-root

    pub side-made : record { s = s; count = m.count; present = m.present; absent = m.absent; accepts = bit_or x.last o; follow = set follow 0 x.first } ≡ side_of s t
    unfolding side_of
    side-made =
        let h : Holds t (length t) m = subst (λ (n : ℕ). Holds t n m) (sym (table-length ns)) hm in
        λ i. record { s = s; count = h.count i; present = h.present i; absent = h.absent i; accepts = accepts-made i; follow = follow-made i }

-- ---- what `prepare` answers, from the answer of the check
module _ (s : ℕ) (ns : List ℕ) where
  pub accepted-none : (m : ℕ) → checked (Ok m) ≡ check_of s ns → 0 ≡ side_refusal s (decodings ns)
  unfolding checked check_of
  accepted-none m e = ap (λ (a : Answer). a.number) e

  pub accepted-formed : (m : ℕ) → checked (Ok m) ≡ check_of s ns → WellFormed s (decodings ns)
  accepted-formed m e = (accepted-iff s (decodings ns)).0 (sym (accepted-none m e))

  pub prepare-refused : (r : Refusal) → checked (Err r) ≡ check_of s ns → prepared (Err r) ≡ prepare_of s ns
  unfolding prepared prepare_of checked check_of
  prepare-refused r e =
      let f : refusal_number r ≡ side_refusal s (decodings ns) = ap (λ (a : Answer). a.number) e in
      let g : no_side ≡ cond (eqb (side_refusal s (decodings ns)) 0) (side_of s (table_of ns)) no_side
      = sym (ap (λ (b : Bool). cond b (side_of s (table_of ns)) no_side) (ne_eqb _ _ (λ z. omega (arith, f, z, number-positive r)))) in
      λ i. record { number = f i; side = g i }

  pub prepare-accepted : (m : ℕ) (sd : Side) → checked (Ok m) ≡ check_of s ns → sd ≡ side_of s (table_of ns) → prepared (Ok sd) ≡ prepare_of s ns
  unfolding prepared prepare_of
  prepare-accepted m sd e h =
      let f = accepted-none m e in
      let g : sd ≡ cond (eqb (side_refusal s (decodings ns)) 0) (side_of s (table_of ns)) no_side
      = h ∙ sym (ap (λ (b : Bool). cond b (side_of s (table_of ns)) no_side) (eq-eqb _ _ (sym f))) in
      λ i. record { number = f i; side = g i }
