-- What steps come to, as the laws speak of it.
-- Assumes nothing: these are definitions.
use Rattle.std.specs.Prelude.{ℕ, Result, Ok, Err}
use Rattle.table.specs.declared.Row.{Row}
use Rattle.table.specs.declared.NoRoom.{NoRoom}

-- what steps make: a number, with the count of rows then in use; or room has run out
pub data Made : Type 0 where
  At : Row → ℕ → Made
  Full : Made

-- the same of a result, with the count of rows in use after it
abbrev pub made_of : Result Row NoRoom → ℕ → Made
made_of (Ok k) n = At k n
made_of (Err e) n = Full
