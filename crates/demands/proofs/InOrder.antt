-- The answer to rows in order as a function, which is what `Decides` says. What rows give is said for whatever follows them: a
-- refusal, which is the answer, or none, where what follows decides. So it goes over one list of rows after another.
use Prim.Native.Nat.{ℕ, suc}
use mathlib.Core.Path.{◌≡◌, refl, sym, ap, subst, ◌∙◌}
use mathlib.Core.Logic.{inl, inr}
use mathlib.Core.Bool.{Bool, true, false, cond}
use mathlib.Core.List.{List, [], ◌∷◌, ◌++◌, append_assoc, append-nil}
use native.Mathlib.Omega.{arith}
use lib.Dec.{eqb}
use borrow.Author.Tests.{ne_eqb, eqb-true}
use Rattle.effect.specs.Refusals.{lowest, rule}
use Rattle.effect.proofs.Laws.{lowest-one}
use Rattle.goals.specs.Refusals.{Against, against, first}
use Rattle.demands.specs.Ordered.{Rule, when, Decides}

-- the refusal of the first row that applies
unfoldable pub answer : List Rule → Against
answer [] = against 0 0
answer (r ∷ rest) = cond r.applies (against r.side r.number) (answer rest)

pub answer-decides : (rules : List Rule) → Decides rules (answer rules)
unfolding answer
answer-decides [] = refl
answer-decides (r ∷ rest) = by r.applies refl (answer-decides rest)
  where
    by : (b : Bool) → r.applies ≡ b → Decides rest (answer rest) → Decides (r ∷ rest) (cond b (against r.side r.number) (answer rest))
    by true e d = inl (e, refl)
    by false e d = inr (e, d)

-- ---- What rows give, whatever follows them. A number 0 is none, whichever side stands beside it, and leaves the answer to the rest;
-- so no law on one list after another asks that a row's number is not 0.
pub record Says (rules : List Rule) (a : Against) : Type 0 where
  pub before : (rest : List Rule) → answer (rules ++ rest) ≡ cond (eqb a.number 0) (answer rest) a

pub gives_none : {side : ℕ} → Says [] (against side 0)
gives_none = record { before = λ rest. refl }

gives-append : {xs ys : List Rule} {a b : Against} → Says xs a → Says ys b → Says (xs ++ ys) (cond (eqb a.number 0) b a)
gives-append {xs} {ys} {a} {b} p q = record { before = λ rest. rw append_assoc (p.before (ys ++ rest) ∙ by rest (eqb a.number 0) refl) }
  where
    by : (rest : List Rule) (t : Bool) → eqb a.number 0 ≡ t
        → cond t (answer (ys ++ rest)) a ≡ cond (eqb (cond {A = Against} t b a).number 0) (answer rest) (cond t b a)
    by rest true e = q.before rest
    by rest false e = rw e

-- of refusals that name a side, as `first` says
pub gives-first : {xs ys : List Rule} {a : Against} (more : List Against) → Says xs a → Says ys (first more) → Says (xs ++ ys) (first (a ∷ more))
unfolding first
gives-first more = gives-append

-- of numbers on one side, as `lowest` and `lowest_node` say
pub gives-number : {side m n : ℕ} {xs ys : List Rule} → Says xs (against side m) → Says ys (against side n) → Says (xs ++ ys) (against side (cond (eqb m 0) n m))
gives-number {side} {m} {n} {xs} {ys} p q = subst (Says (xs ++ ys)) (by (eqb m 0)) (gives-append p q)
  where
    by : (t : Bool) → cond t (against side n) (against side m) ≡ against side (cond t n m)
    by true = refl
    by false = refl

pub gives-lowest : {side m : ℕ} {xs ys : List Rule} (ns : List ℕ) → Says xs (against side m) → Says ys (against side (lowest ns)) → Says (xs ++ ys) (against side (lowest (m ∷ ns)))
unfolding lowest
gives-lowest ns = gives-number

pub gives-end : {side : ℕ} → Says [] (against side (lowest []))
unfolding lowest
gives-end = gives_none

pub gives-last : {side m : ℕ} {xs : List Rule} → Says xs (against side m) → Says xs (against side (lowest (m ∷ [])))
gives-last p = rw lowest-one p

-- a single row, and a row before others
gives_one : (side k : ℕ) (b : Bool) → Says (when side (suc k) b ∷ []) (against side (rule (suc k) b))
unfolding answer
gives_one side k true = record { before = λ rest. rw (ne_eqb (suc k) 0 (λ e. omega (arith, e))) }
gives_one side k false = record { before = λ rest. refl }

pub gives_row : {side : ℕ} {ys : List Rule} (k : ℕ) (b : Bool) (ns : List ℕ) → Says ys (against side (lowest ns)) → Says (when side (suc k) b ∷ ys) (against side (lowest (rule (suc k) b ∷ ns)))
gives_row {side} k b ns q = gives-lowest ns (gives_one side k b) q

pub gives-against : {side : ℕ} {ys : List Rule} (k : ℕ) (b : Bool) (more : List Against) → Says ys (first more) → Says (when side (suc k) b ∷ ys) (first (against side (rule (suc k) b) ∷ more))
gives-against {side} k b more q = gives-first more (gives_one side k b) q

pub gives_nothing : Says [] (first [])
unfolding first
gives_nothing = gives_none

-- ---- with nothing after them the rows decide
gives-decides : {rules : List Rule} {a : Against} → Says rules a → cond (eqb a.number 0) (against 0 0) a ≡ a → Decides rules a
unfolding answer
gives-decides {rules} {a} p e = subst (Decides rules) (ap answer (sym (append-nil rules)) ∙ p.before [] ∙ e) (answer-decides rules)

-- what `first` gives is against 0 0 where its number is 0
first-whole : (rs : List Against) → cond (eqb (first rs).number 0) (against 0 0) (first rs) ≡ first rs
unfolding first
first-whole [] = refl
first-whole (r ∷ rs) = by (eqb r.number 0) refl (first-whole rs)
  where
    by : (t : Bool) → eqb r.number 0 ≡ t → cond (eqb (first rs).number 0) (against 0 0) (first rs) ≡ first rs
        → cond (eqb (cond {A = Against} t (first rs) r).number 0) (against 0 0) (cond t (first rs) r) ≡ cond t (first rs) r
    by true e rest = rest
    by false e rest = rw e

pub first-decides : {rules : List Rule} (rs : List Against) → Says rules (first rs) → Decides rules (first rs)
first-decides rs p = gives-decides p (first-whole rs)

pub number-decides : {rules : List Rule} {n : ℕ} → Says rules (against 0 n) → Decides rules (against 0 n)
number-decides {rules} {n} p = gives-decides p (by (eqb n 0) refl)
  where
    by : (t : Bool) → eqb n 0 ≡ t → cond t (against 0 0) (against 0 n) ≡ against 0 n
    by true e = ap (against 0) (sym (eqb-true n 0 e))
    by false e = refl
