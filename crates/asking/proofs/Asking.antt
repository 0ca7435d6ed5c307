-- What `ask` makes of two tables is refused as the tables are, and else its sides are the tables'.
use Prim.Native.Nat.{ℕ, ◌≤◌}
use mathlib.Core.Path.{◌≡◌, refl, sym, ap, ◌∙◌}
use mathlib.Core.Bool.{Bool, true, false, cond, not}
use mathlib.Core.List.{List, [], ◌∷◌, ◌++◌, map}
use native.Mathlib.Omega.{arith}
use lib.Dec.{eqb}
use borrow.Author.Tests.{eq-eqb, ne_eqb, eqb-true, eqb-false}
use Rattle.effect.specs.Node.{decodings, nodes_of}
use Rattle.effect.specs.declared.Node.{Node}
use Rattle.std.proofs.Common.{Result, Ok, Err}
use Rattle.effect.specs.declared.Refusal.{Refusal}
use Rattle.effect.specs.Refusals.{rule, number_in, side_refusal}
use Rattle.effect.proofs.Laws.{rule-none, not_none}
use Rattle.effect.proofs.Accepted.{accepted-iff}
use Rattle.places.specs.declared.Side.{Side}
use Rattle.places.specs.Side.{side_of, no_side, Prepared, prepared, prepare_of}
use Rattle.goals.specs.declared.Row.{Row}
use Rattle.goals.specs.declared.Run.{Run}
use Rattle.goals.specs.declared.Which.TheVariants.{Left, Right, Both}
use Rattle.goals.specs.declared.SideRefusal.{SideRefusal}
use Rattle.goals.specs.Run.{state, run}
use Rattle.goals.specs.Refusals.{Given, room_of, left_of, right_of, Against, against, against_of, first, side_rules, refusal_by, refusal_of, start_rules, run_rules, trace_rules, start_refusal, run_refusal, trace_refusal, run_after}
use Rattle.asking.specs.declared.Asked.{Asked}
use Rattle.asking.specs.Asked.{named, naming, unless_refused, why_not, asked_of, asked_rules, Judged, side_impossible, Possible, start_refusal_on, run_refusal_on, trace_refusal_on, run_after_on}
use Rattle.asking.proofs.Refusing.{first-here, first-skip, first-none, first_more, first_past, first-zero, named_self, named_none, Sided, named-sided, sided, unless-ok, unless-err, unless_named, unless_passed, unless-same, left-refused, right-refused, both-passed, both-refused, both-none}
use Rattle.asking.proofs.Possible.{passes-iff, made-possible}

-- ---- both sides
-- the rows of the sides are none of them refusals
pub record Passes (g : Given) : Type 0 where
  pub left : side_refusal g.ls (decodings g.left) ≡ 0
  pub right : side_refusal g.rs (decodings g.right) ≡ 0
  pub same : g.ls ≡ g.rs

pub sides-pass : (g : Given) → (first (side_rules g)).number ≡ 0 → Passes g
sides-pass g h =
    let a = first-none _ _ h in
    let b = first-none _ _ a.1 in
    let d = first-none _ _ b.1 in
    record { left = a.0; right = b.0; same = same (eqb g.ls g.rs) refl d.0 }
  where
    same : (b : Bool) → eqb g.ls g.rs ≡ b → rule 14 (not b) ≡ 0 → g.ls ≡ g.rs
    same true e z = eqb-true _ _ e
    same false e z = absurd (omega (arith, z))

-- what `places::prepare` answers of a table
module _ (s : ℕ) (ns : List ℕ) where
  prepared-number : (r : Result Side Refusal) → prepared r ≡ prepare_of s ns → number_in r ≡ side_refusal s (decodings ns)
  unfolding prepared prepare_of
  prepared-number (Ok sd) e = ap (λ (p : Prepared). p.number) e
  prepared-number (Err why) e = ap (λ (p : Prepared). p.number) e

  prepared-side : (sd : Side) → prepared (Ok sd) ≡ prepare_of s ns → sd ≡ side_of s (nodes_of (decodings ns))
  unfolding prepared prepare_of
  prepared-side sd e =
      let z = ap (λ (p : Prepared). p.number) e in
      ap (λ (p : Prepared). p.side) e ∙ ap (λ (b : Bool). cond b (side_of s (nodes_of (decodings ns))) no_side) (eq-eqb _ _ (sym z))

-- ---- any two sides: the refusal that is known already, or the first of 24, 24 and 14
-- the rows of 24 and 14
abbrev pub rules_of : Side → Side → List Against
rules_of l r = against 1 (rule 24 (side_impossible l)) ∷ against 2 (rule 24 (side_impossible r)) ∷ against 3 (rule 14 (not (eqb l.s r.s))) ∷ []

module _ (a : Asked) where
  pub why-here : (a.why.number ≡ 0 → ⊥) → Err a.why ≡ why_not a
  unfolding why_not
  why-here h =
      ap Err (sym (named_self a.why)) ∙ unless_named (against_of a.why) tt h
      ∙ ap (λ (r : Against). unless_refused r tt) (sym (first-here _ _ (rules_of a.left a.right) h))

  pub why-next : a.why.number ≡ 0 → unless_refused (first (rules_of a.left a.right)) tt ≡ why_not a
  unfolding why_not
  why-next z = ap (λ (r : Against). unless_refused r tt) (sym (first-skip _ _ (rules_of a.left a.right) z))

-- each row names a side, so that a refusal which is handed on is the row's
pub asked-sided : (a : Asked) (rest : List ℕ) → Sided (asked_rules a ++ map (against 3) rest)
asked-sided a rest = (ap against_of (named_self a.why), ((sided _).0, ((sided _).1, ((sided _).2, more rest))))
  where
    more : (rest : List ℕ) → Sided (map (against 3) rest)
    more [] = tt
    more (n ∷ ns) = ((sided n).2, more ns)

pub handed : {A : Type 0} (a : Asked) (rest : List ℕ) (x : A) (w : SideRefusal) → Err w ≡ unless_refused (refusal_by (asked_rules a) rest) x
    → (against_of w ≡ refusal_by (asked_rules a) rest) × (w.number ≡ 0 → ⊥)
handed a rest x w h =
    let p = unless-err _ x w h in (
      ap against_of p.1 ∙ named-sided (asked_rules a ++ map (against 3) rest) (asked-sided a rest) p.0,
      λ z. p.0 (sym (ap (λ (r : SideRefusal). r.number) p.1) ∙ z),
    )

-- a refusal of the sides is the call's, whatever the rest
pub sides-refused : {A : Type 0} (a : Asked) (w : SideRefusal) → Err w ≡ why_not a → (rest : List ℕ) (x : A) → Err w ≡ unless_refused (refusal_by (asked_rules a) rest) x
unfolding why_not
sides-refused a w h rest x =
    let p = unless-err (first (asked_rules a)) tt w h in
    unless-same _ _ tt x w (sym (first_more (asked_rules a) (map (against 3) rest) p.0)) h

-- with none of the sides the rest decide
pub sides-none : (a : Asked) → Ok tt ≡ why_not a → (first (asked_rules a)).number ≡ 0
unfolding why_not
sides-none a h = (unless-ok (first (asked_rules a)) tt tt h).0

pub sides-passed : (a : Asked) → Ok tt ≡ why_not a → (rest : List ℕ) → refusal_by (asked_rules a) rest ≡ first (map (against 3) rest)
sides-passed a h rest = first_past (asked_rules a) (map (against 3) rest) (sides-none a h)

-- what the engine needs of two sides that pass
pub record Able (a : Asked) : Type 0 where
  pub signals : a.left.s ≤ 8
  pub few_left : a.left.count ≤ 63
  pub few_right : a.right.count ≤ 63
  pub same : a.left.s ≡ a.right.s

side-able : (sd : Side) → rule 24 (side_impossible sd) ≡ 0 → Possible sd
side-able sd z = (passes-iff sd).0 ((rule-none 23 (side_impossible sd)).0 z)

pub able : (a : Asked) → (first (asked_rules a)).number ≡ 0 → Able a
able a h =
    let b = first-none _ _ (first-none _ _ h).1 in
    let d = first-none _ _ b.1 in
    let s = first-none _ _ d.1 in
    let l = side-able a.left b.0 in
    record {
      signals = l.signals;
      few_left = l.few;
      few_right = (side-able a.right d.0).few;
      same = eqb-true _ _ ((not_none _).0 ((rule-none 13 (not (eqb a.left.s a.right.s))).0 s.0));
    }

-- what `ask` makes
module _ (g : Given) where
  abbrev pub both_of : Result (Side × Side) SideRefusal
  both_of = unless_refused (first (side_rules g)) (left_of g, right_of g)

  -- the tables in turn, and then the two s
  module _ (l r : Result Side Refusal) (e : prepared l ≡ prepare_of g.ls g.left) (f : prepared r ≡ prepare_of g.rs g.right) where
    abbrev fourteen : ℕ
    fourteen = rule 14 (not (eqb g.ls g.rs))

    abbrev number-left : number_in l ≡ side_refusal g.ls (decodings g.left)
    number-left = prepared-number g.ls g.left l e

    abbrev number-right : number_in r ≡ side_refusal g.rs (decodings g.right)
    number-right = prepared-number g.rs g.right r f

    module _ (y : Side) (h : Ok y ≡ naming Left l) where
      pub asks-right : (w : SideRefusal) → Err w ≡ naming Right r → Err w ≡ both_of
      asks-right = right-refused _ _ fourteen (left_of g, right_of g) l r number-left number-right y h

      module _ (z : Side) (q : Ok z ≡ naming Right r) where
        passed-both : (l ≡ Ok y) × (r ≡ Ok z) × (both_of ≡ unless_refused (first (against 3 fourteen ∷ [])) (left_of g, right_of g))
        passed-both = both-passed _ _ fourteen (left_of g, right_of g) l r number-left number-right y h z q

        module _ (both : Result (Unit {0}) Refusal) (p : number_in both ≡ fourteen) where
          pub asks-14 : (w : SideRefusal) → Err w ≡ naming Both both → Err w ≡ both_of
          asks-14 w k = both-refused fourteen (left_of g, right_of g) both p w k ∙ sym passed-both.2

          pub asks-both : (u : Unit {0}) → Ok u ≡ naming Both both → Ok (y, z) ≡ both_of
          asks-both u k =
              (λ i. Ok (prepared-side g.ls g.left y (ap prepared (sym passed-both.0) ∙ e) i, prepared-side g.rs g.right z (ap prepared (sym passed-both.1) ∙ f) i))
              ∙ both-none fourteen (left_of g, right_of g) both p u k ∙ sym passed-both.2

  pub asks-left : (l : Result Side Refusal) → prepared l ≡ prepare_of g.ls g.left → (w : SideRefusal) → Err w ≡ naming Left l → Err w ≡ both_of
  asks-left l e = left-refused _ _ (left_of g, right_of g) l (prepared-number g.ls g.left l e)

  pub asks-refused : (why : SideRefusal) (l r : Side) → Err why ≡ both_of → l ≡ no_side → r ≡ no_side → record { why = why; left = l; right = r } ≡ asked_of g
  unfolding asked_of
  asks-refused why l r h m n =
      let p = unless-err (first (side_rules g)) (left_of g, right_of g) why h in
      let o = ne_eqb _ _ p.0 in
      λ i.
      record {
        why = p.1 i;
        left = (m ∙ ap (λ (t : Bool). cond t (left_of g) no_side) (sym o)) i;
        right = (n ∙ ap (λ (t : Bool). cond t (right_of g) no_side) (sym o)) i;
      }

  pub asks-made : (why : SideRefusal) (l r : Side) → why ≡ named (against 3 0) → Ok (l, r) ≡ both_of → record { why = why; left = l; right = r } ≡ asked_of g
  unfolding asked_of
  asks-made why l r e h =
      let p = unless-ok (first (side_rules g)) (left_of g, right_of g) (l, r) h in
      let o = eq-eqb _ _ p.0 in
      λ i.
      record {
        why = (e ∙ named_none ∙ ap named (sym (first-zero (side_rules g) p.0))) i;
        left = (ap (λ (t : Side × Side). t.0) p.1 ∙ ap (λ (t : Bool). cond t (left_of g) no_side) (sym o)) i;
        right = (ap (λ (t : Side × Side). t.1) p.1 ∙ ap (λ (t : Bool). cond t (right_of g) no_side) (sym o)) i;
      }

signals-are : (s : ℕ) (t : List Node) → (side_of s t).s ≡ s
unfolding side_of
signals-are s t = refl

module _ (g : Given) where
  why-is : (asked_of g).why ≡ named (first (side_rules g))
  unfolding asked_of
  why-is = refl

  -- ---- the sides pass
  module _ (h : (first (side_rules g)).number ≡ 0) where
    abbrev passes : Passes g
    passes = sides-pass g h

    pub left-asked : (asked_of g).left ≡ left_of g
    unfolding asked_of
    left-asked = ap (λ (b : Bool). cond b (left_of g) no_side) (eq-eqb _ _ h)

    pub right-asked : (asked_of g).right ≡ right_of g
    unfolding asked_of
    right-asked = ap (λ (b : Bool). cond b (right_of g) no_side) (eq-eqb _ _ h)

    left-possible : rule 24 (side_impossible (asked_of g).left) ≡ 0
    left-possible = ap (λ (x : Side). rule 24 (side_impossible x)) left-asked ∙ ap (rule 24) (made-possible g.ls (decodings g.left) ((accepted-iff g.ls (decodings g.left)).0 passes.left))

    right-possible : rule 24 (side_impossible (asked_of g).right) ≡ 0
    right-possible = ap (λ (x : Side). rule 24 (side_impossible x)) right-asked ∙ ap (rule 24) (made-possible g.rs (decodings g.right) ((accepted-iff g.rs (decodings g.right)).0 passes.right))

    same-signals : rule 14 (not (eqb (asked_of g).left.s (asked_of g).right.s)) ≡ 0
    same-signals = ap (λ (b : Bool). rule 14 (not b)) (eq-eqb _ _
        (ap (λ (x : Side). x.s) left-asked ∙ signals-are g.ls (nodes_of (decodings g.left)) ∙ passes.same
        ∙ sym (ap (λ (x : Side). x.s) right-asked ∙ signals-are g.rs (nodes_of (decodings g.right)))))

    none-asked : (asked_of g).why.number ≡ 0
    unfolding asked_of
    none-asked = h

    -- no row of the sides is a refusal
    asked-passed : (rest : List Against) → first (asked_rules (asked_of g) ++ rest) ≡ first rest
    asked-passed rest =
        first-skip _ _ _ none-asked ∙ first-skip 1 _ _ left-possible ∙ first-skip 2 _ _ right-possible ∙ first-skip 3 _ _ same-signals

  -- ---- they are refused
  sides-named : ((first (side_rules g)).number ≡ 0 → ⊥) → against_of (named (first (side_rules g))) ≡ first (side_rules g)
  sides-named h = named-sided (side_rules g) ((sided _).0, ((sided _).1, ((sided _).2, tt))) h

  asked-refused : ((first (side_rules g)).number ≡ 0 → ⊥) → (rest : List Against) → first (asked_rules (asked_of g) ++ rest) ≡ first (side_rules g)
  unfolding asked_of
  asked-refused h rest = first-here _ _ _ h ∙ sides-named h

  judged : why_not (asked_of g) ≡ unless_refused (against_of (asked_of g).why) tt
  unfolding why_not first
  judged = by (eqb (first (side_rules g)).number 0) refl
    where
      by : (b : Bool) → eqb (first (side_rules g)).number 0 ≡ b → unless_refused (first (asked_rules (asked_of g))) (tt {0}) ≡ unless_refused (against_of (asked_of g).why) (tt {0})
      by true z =
          let h = eqb-true _ _ z in
          sym (unless_passed (first (asked_rules (asked_of g))) tt (ap (λ (r : Against). r.number) (asked-passed h []))) ∙ unless_passed (against_of (asked_of g).why) tt (none-asked h)
      by false z =
          let h = eqb-false _ _ z in
          ap (λ (r : Against). unless_refused r tt) (asked-refused h [] ∙ sym (sides-named h) ∙ ap against_of (sym why-is))

  -- the sides that `ask` made are refused as the tables are, and 24 never
  pub asked-same : (rest rest' : List ℕ) → ((first (side_rules g)).number ≡ 0 → rest ≡ rest') → refusal_by (asked_rules (asked_of g)) rest ≡ refusal_of g rest'
  asked-same rest rest' same = by (eqb (first (side_rules g)).number 0) refl
    where
      by : (b : Bool) → eqb (first (side_rules g)).number 0 ≡ b → refusal_by (asked_rules (asked_of g)) rest ≡ refusal_of g rest'
      by true z =
          let h = eqb-true _ _ z in
          asked-passed h (map (against 3) rest) ∙ ap (λ (r : List ℕ). first (map (against 3) r)) (same h) ∙ sym (first_past (side_rules g) (map (against 3) rest') h)
      by false z =
          let h = eqb-false _ _ z in
          asked-refused h (map (against 3) rest) ∙ sym (first_more (side_rules g) (map (against 3) rest') h)

  -- a call that passes has the tables' sides
  pub passed-sides : (rest : List ℕ) → (refusal_by (asked_rules (asked_of g)) rest).number ≡ 0 → (first (side_rules g)).number ≡ 0
  passed-sides rest z = by (eqb (first (side_rules g)).number 0) refl
    where
      by : (b : Bool) → eqb (first (side_rules g)).number 0 ≡ b → (first (side_rules g)).number ≡ 0
      by true e = eqb-true _ _ e
      by false e = ap (λ (x : Against). x.number) (sym (asked-refused (eqb-false _ _ e) (map (against 3) rest))) ∙ z

  pub start-asked : (lent : ℕ) → start_refusal_on (asked_of g) lent ≡ start_refusal g lent
  unfolding start_refusal_on start_refusal
  start-asked lent = asked-same (start_rules lent) (start_rules lent) (λ _. refl)

  module _ (lent : ℕ) (rows : List Row) (r : Run) where
    -- s and the two counts are the tables'
    counts : {A : Type 0} (f : ℕ → ℕ → ℕ → A) → (first (side_rules g)).number ≡ 0
        → f (asked_of g).left.s (asked_of g).left.count (asked_of g).right.count ≡ f g.ls (left_of g).count (right_of g).count
    counts f h = λ i.
        f ((ap (λ (x : Side). x.s) (left-asked h) ∙ signals-are g.ls (nodes_of (decodings g.left))) i) (left-asked h i).count (right-asked h i).count

    pub run-asked : run_refusal_on (asked_of g) lent rows r ≡ run_refusal g lent rows r
    unfolding run_refusal_on run_refusal
    run-asked = asked-same _ _ (counts (λ s m k. run_rules s m k lent rows r))

    pub trace-asked : (buffer : ℕ) → trace_refusal_on (asked_of g) lent rows r buffer ≡ trace_refusal g lent rows r buffer
    unfolding trace_refusal_on trace_refusal
    trace-asked buffer = asked-same _ _ (counts (λ s m k. trace_rules s m k lent rows r buffer))

    pub after-asked : (budget : ℕ) → (run_refusal_on (asked_of g) lent rows r).number ≡ 0 → run_after_on (asked_of g) lent rows r budget ≡ run_after g lent rows r budget
    unfolding run_refusal_on run_after_on run_after
    after-asked budget z =
        let h = passed-sides (run_rules (asked_of g).left.s (asked_of g).left.count (asked_of g).right.count lent rows r) z in
        λ i. run (left-asked h i) (right-asked h i) (room_of lent) budget (state rows r.settled r.outcome)

pub judges : Judged
judges = judged
