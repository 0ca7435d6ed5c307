-- The refusals of a comparison in their order, and what a call leaves in each case.
use Prim.Native.Nat.{ℕ, suc}
use mathlib.Core.Path.{◌≡◌, refl, sym, ap, ◌∙◌}
use mathlib.Core.Bool.{Bool, true, false, cond}
use mathlib.Core.List.{List, [], ◌∷◌, ◌++◌}
use native.Mathlib.Omega.{arith}
use lib.Dec.{eqb}
use borrow.Author.Tests.{eq-eqb, ne_eqb, eqb-true, eqb-false}
use Rattle.std.proofs.Common.{Result, Ok, Err}
use Rattle.effect.specs.declared.Refusal.{Refusal}
use Rattle.effect.specs.Refusals.{rule, refusal_number, number_in}
use Rattle.effect.proofs.Numbers.{number-positive}
use Rattle.goals.specs.declared.Which.{Which}
use Rattle.goals.specs.declared.Which.TheVariants.{Left, Right, Both}
use Rattle.goals.specs.declared.SideRefusal.{SideRefusal}
use Rattle.goals.specs.Refusals.{Against, against, against_of, side_number, first, exit, leaves}
use Rattle.asking.specs.Asked.{which_of, named, unless_refused, naming}

-- ---- the first of the rows
pub first-here : (side n : ℕ) (rs : List Against) → (n ≡ 0 → ⊥) → first (against side n ∷ rs) ≡ against side n
unfolding first
first-here side n rs h = rw (ne_eqb n 0 h)

pub first-skip : (side n : ℕ) (rs : List Against) → n ≡ 0 → first (against side n ∷ rs) ≡ first rs
unfolding first
first-skip side n rs e = rw (eq-eqb n 0 e)

-- a single row
pub first-rule : (side k : ℕ) (b : Bool) → first (against side (rule (suc k) b) ∷ []) ≡ cond b (against side (suc k)) (against 0 0)
unfolding first
first-rule side k true = rw (ne_eqb (suc k) 0 (λ e. omega (arith, e)))
first-rule side k false = refl

-- none is a refusal
pub first-none : (r : Against) (rs : List Against) → (first (r ∷ rs)).number ≡ 0 → (r.number ≡ 0) × ((first rs).number ≡ 0)
unfolding first
first-none r rs h = by (eqb r.number 0) refl h
  where
    by : (b : Bool) → eqb r.number 0 ≡ b → (cond b (first rs) r).number ≡ 0 → (r.number ≡ 0) × ((first rs).number ≡ 0)
    by true e z = (eqb-true _ _ e, z)
    by false e z = absurd (eqb-false _ _ e z)

-- rows after a refusal, and after none
pub first_more : (xs ys : List Against) → ((first xs).number ≡ 0 → ⊥) → first (xs ++ ys) ≡ first xs
unfolding first
first_more [] ys h = absurd (h refl)
first_more (x ∷ xs) ys h = by (eqb x.number 0) h (first_more xs ys)
  where
    by : (b : Bool) → ((cond b (first xs) x).number ≡ 0 → ⊥) → (((first xs).number ≡ 0 → ⊥) → first (xs ++ ys) ≡ first xs) → cond b (first (xs ++ ys)) x ≡ cond b (first xs) x
    by true k more = more k
    by false k more = refl

pub first_past : (xs ys : List Against) → (first xs).number ≡ 0 → first (xs ++ ys) ≡ first ys
unfolding first
first_past [] ys h = refl
first_past (x ∷ xs) ys h = by (eqb x.number 0) refl h (first_past xs ys)
  where
    by : (b : Bool) → eqb x.number 0 ≡ b → (cond b (first xs) x).number ≡ 0 → ((first xs).number ≡ 0 → first (xs ++ ys) ≡ first ys) → cond b (first (xs ++ ys)) x ≡ first ys
    by true e z past = past z
    by false e z past = absurd (eqb-false _ _ e z)

-- none of either part is a refusal
pub first-parts : (xs ys : List Against) → (first (xs ++ ys)).number ≡ 0 → ((first xs).number ≡ 0) × ((first ys).number ≡ 0)
unfolding first
first-parts [] ys h = (refl, h)
first-parts (x ∷ xs) ys h =
    let (a, b) = first-none x (xs ++ ys) h in
    let (d, e) = first-parts xs ys b in
    (ap (λ (w : Against). w.number) (first-skip x.side x.number xs a) ∙ d, e)

-- none at all is 0 and 0
pub first-zero : (xs : List Against) → (first xs).number ≡ 0 → first xs ≡ against 0 0
unfolding first
first-zero [] h = refl
first-zero (x ∷ xs) h = let z = first-none x xs h in first-skip x.side x.number xs z.0 ∙ first-zero xs z.1

-- ---- a refusal by value
which-self : (x : Which) → which_of (side_number x) ≡ x
unfolding which_of side_number
which-self Left = refl
which-self Right = refl
which-self Both = refl

-- one that is handed on stays what it is
pub named_self : (why : SideRefusal) → named (against_of why) ≡ why
named_self why = λ i. record { side = which-self why.side i; number = why.number }

pub named_none : named (against 3 0) ≡ named (against 0 0)
unfolding which_of
named_none = refl

-- rows that name a side each
abbrev pub Sided : List Against → Type 0
Sided [] = Unit {0}
Sided (r ∷ rs) = (against_of (named r) ≡ r) × Sided rs

pub named-sided : (xs : List Against) → Sided xs → ((first xs).number ≡ 0 → ⊥) → against_of (named (first xs)) ≡ first xs
unfolding first
named-sided [] s h = absurd (h refl)
named-sided (x ∷ xs) s h = by (eqb x.number 0) h (named-sided xs s.1)
  where
    by : (b : Bool) → ((cond b (first xs) x).number ≡ 0 → ⊥) → (((first xs).number ≡ 0 → ⊥) → against_of (named (first xs)) ≡ first xs) → against_of (named (cond b (first xs) x)) ≡ cond b (first xs) x
    by true k more = more k
    by false k more = s.0

pub sided : (n : ℕ) → (against_of (named (against 1 n)) ≡ against 1 n) × (against_of (named (against 2 n)) ≡ against 2 n) × (against_of (named (against 3 n)) ≡ against 3 n)
unfolding which_of side_number
sided n = (refl, refl, refl)

-- ---- a value, or the first refusal
module _ {A : Type 0} (r : Against) (x : A) where
  pub unless-ok : (y : A) → Ok y ≡ unless_refused r x → (r.number ≡ 0) × (y ≡ x)
  unfolding unless_refused
  unless-ok y h = by (eqb r.number 0) refl h
    where
      by : (b : Bool) → eqb r.number 0 ≡ b → Ok y ≡ cond b (Ok x) (Err (named r)) → (r.number ≡ 0) × (y ≡ x)
      by true e h = (eqb-true _ _ e, cc)
      by false e h = absurd (cc)

  pub unless-err : (w : SideRefusal) → Err w ≡ unless_refused r x → (r.number ≡ 0 → ⊥) × (w ≡ named r)
  unfolding unless_refused
  unless-err w h = by (eqb r.number 0) refl h
    where
      by : (b : Bool) → eqb r.number 0 ≡ b → Err w ≡ cond b (Ok x) (Err (named r)) → (r.number ≡ 0 → ⊥) × (w ≡ named r)
      by true e h = absurd (cc)
      by false e h = (eqb-false _ _ e, cc)

  pub unless_passed : r.number ≡ 0 → Ok x ≡ unless_refused r x
  unfolding unless_refused
  unless_passed z = rw (eq-eqb _ _ z)

  pub unless_named : (r.number ≡ 0 → ⊥) → Err (named r) ≡ unless_refused r x
  unfolding unless_refused
  unless_named n = rw (ne_eqb _ _ n)

-- a refusal is one whatever the value is
pub unless-same : {A B : Type 0} (r r' : Against) (x : A) (y : B) (w : SideRefusal) → r ≡ r' → Err w ≡ unless_refused r x → Err w ≡ unless_refused r' y
unless-same r r' x y w e h =
    let p = unless-err r x w h in
    ap Err p.1 ∙ unless_named r y p.0 ∙ ap (λ (s : Against). unless_refused s y) e

-- the answer of a side, which its row says the number of, before the other rows
module _ {A B : Type 0} (side n : ℕ) (rs : List Against) (x : A) (r : Result B Refusal) (e : number_in r ≡ n) where
  naming-ok : (y : B) → Ok y ≡ naming (which_of side) r → (r ≡ Ok y) × (unless_refused (first (against side n ∷ rs)) x ≡ unless_refused (first rs) x)
  naming-ok y h = by r e h
    where
      by : (r : Result B Refusal) → number_in r ≡ n → Ok y ≡ naming (which_of side) r → (r ≡ Ok y) × (unless_refused (first (against side n ∷ rs)) x ≡ unless_refused (first rs) x)
      by (Ok z) e h = (let q : z ≡ y = cc in ap Ok q, ap (λ (q : Against). unless_refused q x) (first-skip side n rs (sym e)))
      by (Err why) e h = absurd (cc)

  naming-err : (w : SideRefusal) → Err w ≡ naming (which_of side) r → Err w ≡ unless_refused (first (against side n ∷ rs)) x
  naming-err w h = by r e h
    where
      by : (r : Result B Refusal) → number_in r ≡ n → Err w ≡ naming (which_of side) r → Err w ≡ unless_refused (first (against side n ∷ rs)) x
      by (Ok z) e h = absurd (cc)
      by (Err why) e h =
          let some : n ≡ 0 → ⊥ = λ z. omega (arith, number-positive why, e, z) in
          let k : w ≡ named (against side (refusal_number why)) = cc in
          ap Err (k ∙ ap (λ (m : ℕ). named (against side m)) e) ∙ unless_named (against side n) x some ∙ ap (λ (q : Against). unless_refused q x) (sym (first-here side n rs some))

-- the answers of two sides in turn, and then what both are asked
pub left-refused : {A B : Type 0} (n : ℕ) (rs : List Against) (x : A) (l : Result B Refusal) → number_in l ≡ n → (w : SideRefusal) → Err w ≡ naming Left l
    → Err w ≡ unless_refused (first (against 1 n ∷ rs)) x
unfolding which_of
left-refused n rs x l e w h = naming-err 1 n rs x l e w h

module _ {A B C : Type 0} (n m k : ℕ) (x : A) (l : Result B Refusal) (r : Result C Refusal) (e : number_in l ≡ n) (f : number_in r ≡ m) where
  abbrev rows : List Against
  rows = against 1 n ∷ against 2 m ∷ against 3 k ∷ []

  module _ (y : B) (h : Ok y ≡ naming Left l) where
    left-passed : (l ≡ Ok y) × (unless_refused (first rows) x ≡ unless_refused (first (against 2 m ∷ against 3 k ∷ [])) x)
    unfolding which_of
    left-passed = naming-ok 1 n (against 2 m ∷ against 3 k ∷ []) x l e y h

    pub right-refused : (w : SideRefusal) → Err w ≡ naming Right r → Err w ≡ unless_refused (first rows) x
    unfolding which_of
    right-refused w q = naming-err 2 m (against 3 k ∷ []) x r f w q ∙ sym left-passed.1

    pub both-passed : (z : C) → Ok z ≡ naming Right r → (l ≡ Ok y) × (r ≡ Ok z) × (unless_refused (first rows) x ≡ unless_refused (first (against 3 k ∷ [])) x)
    unfolding which_of
    both-passed z q =
        let p = naming-ok 2 m (against 3 k ∷ []) x r f z q in
        (left-passed.0, p.0, left-passed.1 ∙ p.1)

-- what both are asked is the last row
pub both-refused : {A B : Type 0} (k : ℕ) (x : A) (q : Result B Refusal) → number_in q ≡ k → (w : SideRefusal) → Err w ≡ naming Both q
    → Err w ≡ unless_refused (first (against 3 k ∷ [])) x
unfolding which_of
both-refused k x q e w h = naming-err 3 k [] x q e w h

pub both-none : {A B : Type 0} (k : ℕ) (x : A) (q : Result B Refusal) → number_in q ≡ k → (y : B) → Ok y ≡ naming Both q → Ok x ≡ unless_refused (first (against 3 k ∷ [])) x
unfolding which_of first
both-none k x q e y h = unless_passed (first []) x refl ∙ sym (naming-ok 3 k [] x q e y h).1

pub both-answer : (k : ℕ) (q : Result (Unit {0}) Refusal) → number_in q ≡ k → naming Both q ≡ unless_refused (first (against 3 k ∷ [])) (tt {0})
both-answer k (Ok y) e = both-none k tt (Ok y) e y refl
both-answer k (Err why) e = both-refused {B = Unit {0}} k tt (Err why) e (record { side = Both; number = refusal_number why }) refl

-- ---- what a call leaves
pub leaves-refused : {Lent : Type 0} (why : Against) (values : List ℕ) (changed lent : Lent) → (why.number ≡ 0 → ⊥)
    → exit (record { refusal = why; values = [] }) lent ≡ leaves why values changed lent
leaves-refused why values changed lent h = rw (ne_eqb why.number 0 h)

-- two calls that refuse alike, and change the same where they do not refuse
pub leaves-same : {Lent : Type 0} (why why' : Against) (values values' : List ℕ) (changed changed' lent : Lent) → why ≡ why'
    → (why.number ≡ 0 → (values ≡ values') × (changed ≡ changed')) → leaves why values changed lent ≡ leaves why' values' changed' lent
leaves-same {Lent} why why' values values' changed changed' lent e h = by (eqb why.number 0) refl
  where
    by : (b : Bool) → eqb why.number 0 ≡ b → leaves why values changed lent ≡ leaves why' values' changed' lent
    by true z = let s = h (eqb-true _ _ z) in λ i. leaves (e i) (s.0 i) (s.1 i) lent
    by false z =
        sym (leaves-refused why values changed lent (eqb-false _ _ z))
        ∙ leaves-refused why values' changed' lent (eqb-false _ _ z)
        ∙ ap (λ (w : Against). leaves w values' changed' lent) e
