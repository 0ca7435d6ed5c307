-- The ends of a node from its children's: each arm of the code is a row of the three tables. And the follow sets, node by
-- node.
use Prim.Native.Nat.{ℕ, suc, ◌^◌, ◌<◌}
use mathlib.Core.Path.{◌≡◌, sym, ap, ap₂, ◌∙◌}
use mathlib.Core.Bool.{Bool, cond}
use mathlib.Core.List.{List}
use lib.Bits.{bit_or, or_zero_r}
use lib.ListN.{length, get_or}
use borrow.Author.Tests.{lt-ltb}
use Rattle.bits.specs.Bit.{has, single}
use Rattle.effect.specs.declared.Node.{Node}
use Rattle.effect.specs.declared.Node.TheVariants.{Instant}
use Rattle.effect.specs.Meaning.{at}
use Rattle.effect.specs.WellFormed.{Child}
use Rattle.places.specs.declared.Ends.{Ends}
use Rattle.places.specs.Places.{empty_row, first_row, last_row, has_empty, first_of, last_of, link_row, links_to}
use Rattle.places.specs.Walk.{ends_by, Walkable, ends_of, grown, link_at, linked_to}
use Rattle.places.proofs.Rows.{empty-is, first-is, last-is}
use Rattle.places.proofs.ByPlace.{list_of-length, list_of-at, list-is}

-- ---- the ends of a node
module _ {u : List Node} (w : Walkable u) (i : ℕ) {n : Node} (e : n ≡ at u i) where
  pub ends-row : ends_by (empty_row (has_empty u) n) (first_row (has_empty u) (first_of u) n) (last_row (has_empty u) (last_of u) n) ≡ ends_of u i
  ends-row =
      let p = empty-is u w.lower i ∙ ap (empty_row (has_empty u)) (sym e) in
      let q = first-is u w.lower i ∙ ap (first_row (has_empty u) (first_of u)) (sym e) in
      let r = last-is u w.lower i ∙ ap (last_row (has_empty u) (last_of u)) (sym e) in
      λ k. ends_by (sym p k) (sym q k) (sym r k)

  -- a child is a lower node, and so the recursion ends
  pub child-lower : {t c : ℕ} → i ≡ t → Child n c → c < t
  child-lower {c = c} q h = rw (← q) (w.lower i c (rw (sym e) h))

-- an instant's place is below 64, a single bit
pub single-place : {u : List Node} (w : Walkable u) (i : ℕ) {k m p : ℕ} → Instant k m ≡ at u i → p ≡ single 64 k → p ≡ 2 ^ k
single-place w i {k} {m} e h = h ∙ ap (λ (b : Bool). cond b (2 ^ k) 0) (lt-ltb k 64 (w.small i k m (sym e)))

-- ---- what a node adds
module _ (u : List Node) (i : ℕ) (follow : List ℕ) where
  module _ (n : Node) (e : at u i ≡ n) where
    link-is : (j : ℕ) → link_at u i j ≡ link_row (first_of u) (last_of u) j n
    link-is j = ap (link_row (first_of u) (last_of u) j) e

    pub adds-nothing : length follow ≡ 64 → ((j : ℕ) → link_row (first_of u) (last_of u) j n ≡ 0) → follow ≡ grown follow (link_at u i)
    adds-nothing size z = list-is follow 64 _ size (λ j l. sym (ap (bit_or (get_or follow j 0)) (link-is j ∙ z j) ∙ or_zero_r (get_or follow j 0)))

    pub adds-link : (a b : ℕ) (x y : Ends) (r : List ℕ) → x ≡ ends_of u a → y ≡ ends_of u b → r ≡ grown follow (λ j. cond (has x.last j) y.first 0)
        → ((j : ℕ) → link_row (first_of u) (last_of u) j n ≡ cond (has (last_of u a) j) (first_of u b) 0) → r ≡ grown follow (link_at u i)
    adds-link a b x y r ex ey h z =
        h ∙ ap₂ (λ (x y : Ends). grown follow (λ j. cond (has x.last j) y.first 0)) ex ey
        ∙ (λ k. grown follow (λ j. sym (link-is j ∙ z j) k))

  pub links-next : (r : List ℕ) → follow ≡ linked_to u i → r ≡ grown follow (link_at u i) → r ≡ linked_to u (suc i)
  unfolding links_to
  links-next r e h =
      h ∙ ap (λ (xs : List ℕ). grown xs (link_at u i)) e
      ∙ list-is (grown (linked_to u i) (link_at u i)) 64 _ (list_of-length 64 _)
      (λ j l. list_of-at 64 _ j l ∙ ap (λ (z : ℕ). bit_or z (link_at u i j)) (list_of-at 64 (λ j. links_to u j i) j l))
