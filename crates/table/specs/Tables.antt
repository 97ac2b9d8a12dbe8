-- What the functions on a lent table promise, of the table before and after.
-- Assumes nothing: these are definitions.
use Rattle.std.specs.Prelude.{ℕ, ◌≡◌, Result, OnErr}
use Rattle.steps.specs.Steps.{Steps}
use Rattle.table.specs.declared.Row.{Row}
use Rattle.table.specs.declared.NoRoom.{NoRoom}
use Rattle.table.specs.declared.Table.{Table}
use Rattle.table.specs.Made.{made_of}
use Rattle.table.specs.Inner.{Taken, Entered, Kept}
use Rattle.table.specs.Memory.{Live}
use Rattle.table.specs.Views.{slices_of, SameLoans}

-- what appending a row promises, and then Make: where they find no room, the count is as it was
pub record TakenIn (m : Steps) (r : Result Row NoRoom) (t t' : Table) : Type 0 where
  pub same : SameLoans t t'
  pub taken : Taken m (made_of r t'.count) t.count (slices_of t) (slices_of t')
  pub work : t'.work.now ≡ t.work.now
  pub count : OnErr r (t'.count ≡ t.count)

pub record EnteredIn (m : Steps) (r : Result Row NoRoom) (t t' : Table) : Type 0 where
  pub same : SameLoans t t'
  pub entered : Entered m (made_of r t'.count) t.count (slices_of t) (slices_of t') t.work.now t'.work.now
  pub count : OnErr r (t'.count ≡ t.count)

-- what the inner functions ask of a table
abbrev pub LiveIn : ℕ → Table → Type 0
LiveIn N t = Live N t.count (slices_of t) t.work.now

-- on Err nothing is said of the count here: rows may have been made before room ran out, and whoever ends the call puts back the count that it had
pub record KeptIn (N : ℕ) (m : Steps) (r : Result Row NoRoom) (t t' : Table) : Type 0 where
  pub same : SameLoans t t'
  pub kept : Kept N m (made_of r t'.count) t.count (slices_of t) (slices_of t') t.work.now t'.work.now
