-- What calls on a table answer, as the laws speak of it: the paper's numbers.
-- Assumes nothing: these are definitions.
use Rattle.std.specs.Prelude.{ℕ, Result, Ok, Err}
use Rattle.table.specs.declared.Row.{Row}
use Rattle.table.specs.declared.Refusal.{Refusal}
use Rattle.table.specs.declared.Refusal.TheVariants.{OutOfRange, Unsound, NotInUse, SystemZero, BadVariable, NoOne, RoomOut, NotABit}

-- what a call that may append answers: a number, with the new count of rows in use; or a refusal's number
pub data Answer : Type 0 where
  Made : Row → ℕ → Answer
  Refused : ℕ → Answer

-- the refusals of a call on a table, by the paper's 'Numbered answers'
abbrev pub number_of_refusal : Refusal → ℕ
number_of_refusal OutOfRange = 1
number_of_refusal Unsound = 2
number_of_refusal NotInUse = 3
number_of_refusal SystemZero = 4
number_of_refusal BadVariable = 5
number_of_refusal NoOne = 6
number_of_refusal RoomOut = 7
number_of_refusal NotABit = 8

-- the same of a result, with the count of rows in use after it
abbrev pub answered_of : Result Row Refusal → ℕ → Answer
answered_of (Ok k) n = Made k n
answered_of (Err why) n = Refused (number_of_refusal why)
