-- What call and trace_asked share: columns of 65,535 zeros, and the rows that they take.
use Rattle.std.proofs.Common.{◌≡◌, refl, sym, ap, ◌∙◌, ℕ, min, arith, List, length, take}
use lib.ListN.{replicate, length-replicate}
use lib.Seq.{take-length, length-take-le}
use Rattle.std.proofs.lemmas.List.{take_min}
use Rattle.goals.specs.declared.Row.{Row}
use Rattle.columns.specs.Calls.{Columns, columns, put, lent_in}
use Rattle.columns.specs.Tables.{TakesRows}
use Rattle.compare.proofs.Calling.{Loadable}

-- ---- a column before it is loaded, behind a name that nothing computes
unfoldable pub zeros : List ℕ
zeros = replicate 65535 0

pub zeros-is : replicate 65535 0 ≡ zeros
unfolding zeros
zeros-is = refl

pub zeros-long : length zeros ≡ 65535
zeros-long = ap length (sym zeros-is) ∙ length-replicate {A = ℕ} 65535 0

abbrev pub empty : Columns
empty = columns zeros zeros zeros zeros

-- the rows taken by columns that have as many: all of them
pub taken-all : (n : ℕ) (rows : List Row) → Loadable n (length rows) → (c : Columns) → TakesRows (length rows) empty (take n rows) c → c ≡ put (take n rows) empty
taken-all n rows u c h =
    let m : ℕ = lent_in (length rows) empty in
    let size = length-take-le n rows u.0 in
    let few : min m (length (take n rows)) ≡ length (take n rows) = omega (arith, size, u.0, u.1, zeros-long) in
    h ∙ ap (λ (l : List Row). put l empty) (sym (take_min m (take n rows)) ∙ ap (λ (k : ℕ). take k (take n rows)) few ∙ take-length (take n rows))
