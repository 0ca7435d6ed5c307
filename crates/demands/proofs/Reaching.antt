-- Goals and words, of two accepted sides: what follows a goal, which goals a word reaches, and that a bad one among them refutes.
-- By recursion on the word, with Glushkov's theorem for each side.
use Prim.Native.Nat.{ℕ, suc, ◌%◌, ◌^◌, ◌≤◌, ◌<◌}
use mathlib.Core.Path.{◌≡◌, refl, sym, ap, ◌∙◌, subst}
use mathlib.Core.Bool.{true}
use mathlib.Core.Logic.{◌⊎◌, inl, inr, ◌↔◌}
use mathlib.Core.List.{List, [], ◌∷◌, ◌++◌}
use native.Mathlib.Omega.{arith}
use lib.Bits.{bit_and}
use lib.Dec.{eqb, eqb→eq}
use lib.ListN.{length, get_or}
use Rattle.bits.specs.Bit.{bit, Mem, has}
use Rattle.bits.proofs.Laws.{bit-low, mem-dec, mem-zero, mem-and, has-mem, set-ext, lt-mem}
use Rattle.effect.specs.Node.{decodings}
use Rattle.effect.specs.Refusals.{instants}
use Rattle.effect.proofs.Matching.{matches-iff}
use Rattle.places.specs.declared.Side.{Side}
use Rattle.places.specs.Side.{side_of}
use Rattle.places.specs.Readings.{matching, followers, Reads, Leads, post, reach}
use Rattle.places.proofs.ByPlace.{matching-mem}
use Rattle.places.proofs.Sets.{T_and}
use Rattle.places.proofs.Theorems.{glushkov, post-mem, followers-within, reached}
use Rattle.goals.specs.declared.Row.{Row}
use Rattle.goals.specs.Goals.{bad_goal}
use Rattle.goals.specs.Refusals.{Given, left_of, right_of}
use Rattle.demands.proofs.Both.{Both}
use Rattle.demands.specs.Demands.{left_nodes, right_nodes, LeftTrace, RightTrace, Follows, Letters, Reaches}

pub left-signals : (g : Given) → (left_of g).s ≡ g.ls
unfolding side_of
left-signals g = refl

pub left-count : (g : Given) → (left_of g).count ≡ instants (left_nodes g) (length (left_nodes g))
unfolding side_of
left-count g = refl

pub right-count : (g : Given) → (right_of g).count ≡ instants (right_nodes g) (length (right_nodes g))
unfolding side_of
right-count g = refl

-- ---- the goals that follow
-- two sets that are given by the same members are one
one_set : (S S' : ℕ) {P : ℕ → Type 0} → ((k : ℕ) → Mem S k ↔ P k) → ((k : ℕ) → Mem S' k ↔ P k) → S ≡ S'
one_set S S' a b = set-ext S S' (λ k. ((λ m. (b k).1 ((a k).0 m)), (λ m. (a k).1 ((b k).0 m))))

-- a match is a place of the left, so below 64, and its letter is below 2^s
pub left-match : (g : Given) → Both g → (x k : ℕ) → Mem (matching (left_of g) x) k
    → (1 ≤ k) × (k ≤ (left_of g).count) × (k < 64) × (x < 2 ^ g.ls)
left-match g both x k h =
    let (low, high, fits) = (matching-mem (left_of g) x k).0 h in
    let few : instants (left_nodes g) (length (left_nodes g)) ≤ 63 = both.left.formed.few in
    let letter = ((matches-iff (left_of g).s (get_or (left_of g).present k 0) (get_or (left_of g).absent k 0) x).0 fits).letter in
    (low, high, omega (arith, left-count g), subst (λ (s : ℕ). x < 2 ^ s) (left-signals g) letter)

-- the new set has "all right places that follow a member of the set and match"
pub right-post : (g : Given) (S x k : ℕ)
    → Mem (post (right_of g) S x) k ↔ ((j : ℕ) × Mem S j × Mem (followers (right_of g) j) k × Mem (matching (right_of g) x) k)
right-post g S x k = post-mem (right_of g) (followers-within g.rs (right_nodes g)) S x k

-- a goal that follows, by its set
pub follows-iff : (g : Given) (w : Row) (x p S : ℕ)
    → Follows g w x p S
    ↔ ((x < 2 ^ g.ls) × Mem (followers (left_of g) w.place) p × Mem (matching (left_of g) x) p × (S ≡ post (right_of g) w.set x))
follows-iff g w x p S = (to, from)
  where
    to : Follows g w x p S
        → (x < 2 ^ g.ls) × Mem (followers (left_of g) w.place) p × Mem (matching (left_of g) x) p × (S ≡ post (right_of g) w.set x)
    to f = (f.letter, f.follower, f.matched, one_set S (post (right_of g) w.set x) f.places (right-post g w.set x))

    from : (x < 2 ^ g.ls) × Mem (followers (left_of g) w.place) p × Mem (matching (left_of g) x) p × (S ≡ post (right_of g) w.set x)
        → Follows g w x p S
    from (l, f, m, e) = record { letter = l; follower = f; matched = m; places = λ k. rw e (right-post g w.set x k) }

-- what a followed goal's set is made of
pub post-late : (g : Given) (S x : ℕ) → (post (right_of g) S x < 2 ^ suc (right_of g).count) × (post (right_of g) S x % 2 ≡ 0)
post-late g S x = (
  lt-mem (suc (right_of g).count) (post (right_of g) S x) (λ k h. let (low, high) = place k h in omega arith),
  even (mem-dec (post (right_of g) S x) 0),
)
  where
    place : (k : ℕ) → Mem (post (right_of g) S x) k → (1 ≤ k) × (k ≤ (right_of g).count)
    place k h =
        let (j, a, b, m) = (right-post g S x k).0 h in
        let (low, high, fits) = (matching-mem (right_of g) x k).0 m in
        (low, high)

    even : Mem (post (right_of g) S x) 0 ⊎ (bit (post (right_of g) S x) 0 ≡ 0) → post (right_of g) S x % 2 ≡ 0
    even (inl h) = absurd (let (low, high) = place 0 h in omega arith)
    even (inr e) = sym (bit-low (post (right_of g) S x)) ∙ e

-- ---- the goals that words reach, their set as the rules compute it
abbrev pub ReachesBy : Given → List ℕ → ℕ → ℕ → Type 0
ReachesBy g w p S = Letters g.ls w × Leads (left_of g) 0 w p × (S ≡ reach (right_of g) 1 w)

right-reached : (g : Given) → Both g → (w : List ℕ) (k : ℕ) → Mem (reach (right_of g) 1 w) k ↔ Leads (right_of g) 0 w k
right-reached g both = reached g.rs (decodings g.right) both.right

pub reaches-iff : (g : Given) → Both g → (w : List ℕ) (p S : ℕ) → Reaches g w p S ↔ ReachesBy g w p S
reaches-iff g both w p S = (to, from)
  where
    to : Reaches g w p S → ReachesBy g w p S
    to r = (r.letters, r.left, one_set S (reach (right_of g) 1 w) r.right (right-reached g both w))

    from : ReachesBy g w p S → Reaches g w p S
    from (l, h, e) = record { letters = l; left = h; right = λ k. rw e (right-reached g both w k) }

pub reaches-start : (g : Given) → ReachesBy g [] 0 1
reaches-start g = (tt, refl, refl)

-- one letter more at the end
letters-more : (s : ℕ) (w : List ℕ) (x : ℕ) → Letters s w → x < 2 ^ s → Letters s (w ++ (x ∷ []))
letters-more s [] x h l = (l, tt)
letters-more s (y ∷ w) x (m, h) l = (m, letters-more s w x h l)

leads-more : (sd : Side) (w : List ℕ) (i p x k : ℕ) → Leads sd i w p → Mem (followers sd p) k → Mem (matching sd x) k → Leads sd i (w ++ (x ∷ [])) k
leads-more sd [] i p x k e f m = (k, rw e f, m, refl)
leads-more sd (y ∷ w) i p x k (n, a, b, h) f m = (n, a, b, leads-more sd w n p x k h f m)

reach-more : (sd : Side) (w : List ℕ) (S x : ℕ) → reach sd S (w ++ (x ∷ [])) ≡ post sd (reach sd S w) x
reach-more sd [] S x = refl
reach-more sd (y ∷ w) S x = reach-more sd w (post sd S y) x

pub reaches_step : (g : Given) (w : List ℕ) (p S x k : ℕ) → ReachesBy g w p S → x < 2 ^ g.ls
    → Mem (followers (left_of g) p) k → Mem (matching (left_of g) x) k → ReachesBy g (w ++ (x ∷ [])) k (post (right_of g) S x)
reaches_step g w p S x k (h, r, e) l f m = (
  letters-more g.ls w x h l,
  leads-more (left_of g) w 0 p x k r f m,
  ap (λ (z : ℕ). post (right_of g) z x) e ∙ sym (reach-more (right_of g) w 1 x),
)

-- a word is read from place i exactly when it leads from there to a place that accepts
leads-reads : (sd : Side) (w : List ℕ) (i k : ℕ) → Leads sd i w k → Mem sd.accepts k → Reads sd i w
leads-reads sd [] i k e a = rw e a
leads-reads sd (x ∷ w) i k (m, f, b, h) a = (m, f, b, leads-reads sd w m k h a)

reads-leads : (sd : Side) (w : List ℕ) (i : ℕ) → Reads sd i w → (k : ℕ) × Leads sd i w k × Mem sd.accepts k
reads-leads sd [] i a = (i, refl, a)
reads-leads sd (x ∷ w) i (m, f, b, r) = let (k, h, a) = reads-leads sd w m r in (k, (m, f, b, h), a)

-- "A goal is bad if its left place accepts and no member of the set does"
is-bad : (left right p S : ℕ) → bad_goal left right p S ≡ true → Mem left p × ((j : ℕ) → Mem S j → Mem right j → ⊥)
unfolding bad_goal
is-bad left right p S bad =
    let (a, b) = (T_and (has left p) (eqb (bit_and S right) 0)).0 (rw bad tt) in
    let none : bit_and S right ≡ 0 = eqb→eq (bit_and S right) 0 b in
    ((has-mem left p).0 a, λ j m n. mem-zero j (rw none at ((mem-and S right j).1 (m, n))))

pub bad-refutes : (g : Given) → Both g → (w : List ℕ) (p S : ℕ) → ReachesBy g w p S
    → bad_goal (left_of g).accepts (right_of g).accepts p S ≡ true → LeftTrace g w × (RightTrace g w → ⊥)
bad-refutes g both w p S (l, h, e) bad =
    let (a, never) = is-bad (left_of g).accepts (right_of g).accepts p S bad in
    ((glushkov g.ls (decodings g.left) both.left w).1 (leads-reads (left_of g) w 0 p h a), lacks never)
  where
    lacks : ((j : ℕ) → Mem S j → Mem (right_of g).accepts j → ⊥) → RightTrace g w → ⊥
    lacks never t =
        let (k, r, a) = reads-leads (right_of g) w 0 ((glushkov g.rs (decodings g.right) both.right w).0 t) in
        never k (rw e ((right-reached g both w k).1 r)) a

-- a closed set with the start has every goal that a word reaches
pub closed-reached : (g : Given) (G : ℕ → ℕ → Type 0)
    → ((p S x k : ℕ) → G p S → x < 2 ^ g.ls → Mem (followers (left_of g) p) k → Mem (matching (left_of g) x) k
    → G k (post (right_of g) S x))
    → (w : List ℕ) (i p S : ℕ) → Letters g.ls w → Leads (left_of g) i w p → G i S → G p (reach (right_of g) S w)
closed-reached g G closed [] i p S l e s = subst (λ (z : ℕ). G z S) e s
closed-reached g G closed (x ∷ w) i p S (m, l) (k, f, b, h) s = closed-reached g G closed w k p (post (right_of g) S x) l h (closed i S x k s m f b)
