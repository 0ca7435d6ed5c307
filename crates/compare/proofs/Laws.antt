-- Rows of columns at the front of a list of rows, one after another; and what a call on columns answered, as it is told and stored on rows.
use Rattle.std.proofs.Common.{Result, Ok, Err, ℕ, suc, ◌<◌, ◌≡◌, refl, List, length, set}
use Rattle.effect.specs.Refusals.{front}
use Rattle.effect.proofs.Front.{front-next}
use Rattle.goals.specs.declared.Row.{Row}
use Rattle.goals.specs.declared.Run.{Run}
use Rattle.goals.specs.declared.SideRefusal.{SideRefusal}
use Rattle.columns.specs.Calls as core
use Rattle.columns.specs.Calls.{Columns, row_at, rows_in}
use Rattle.columns.proofs.Laws.{length-rows_in}
use Rattle.demands.specs.Calls.{lent}
use Rattle.compare.specs.Calls.{answered}
use Rattle.compare.proofs.Core.{told, stored}

pub stored_next : (c : Columns) (i : ℕ) (rows : List Row) → i < length rows → set (front (rows_in c i) rows) i (row_at c i) ≡ front (rows_in c (suc i)) rows
unfolding rows_in
stored_next c i rows h = front-next (rows_in c i) rows i (row_at c i) (length-rows_in c i) h

-- what a call on columns leaves for the rows: the record, how many rows of the columns are to be stored, and the answer
pub record Next : Type 0 where
  pub run : Run
  pub rows : ℕ
  pub answer : Result Unit SideRefusal

-- accepted, its record and as many rows as it uses; refused, the record lent and none
unfoldable pub next_of : Result Run SideRefusal → Run → Next
next_of (Ok r) held = record { run = r; rows = r.used; answer = Ok tt }
next_of (Err why) held = record { run = held; rows = 0; answer = Err why }

-- the core's answer and what it stores, as they are told and stored on rows
module _ (rows : List Row) (held : Run) (c : Columns) where
  pub told_is : (answer : Result Run SideRefusal) → told answer ≡ answered (next_of answer held).answer
  unfolding answered next_of core.called
  told_is (Ok r) = refl
  told_is (Err why) = refl

  pub stored_is : (answer : Result Run SideRefusal) → stored answer c (lent rows held) ≡ lent (front (rows_in c (next_of answer held).rows) rows) (next_of answer held).run
  unfolding stored next_of rows_in
  stored_is (Ok r) = refl
  stored_is (Err why) = refl
