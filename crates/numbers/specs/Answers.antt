-- What the calls value and one answer, as the laws speak of it: the paper's numbers.
-- Assumes nothing: these are definitions.
use Rattle.std.specs.Prelude.{ℕ, Bool, Result, Ok, Err}
use Rattle.table.specs.declared.Refusal.{Refusal}
use Rattle.table.specs.Answers.{number_of_refusal}

-- what the call value answers
pub data Valued : Type 0 where
  Value : Bool → Valued
  NoValue : ℕ → Valued

-- what finding a one answers
pub data Sought : Type 0 where
  One : Sought
  NoOne : ℕ → Sought

-- the same of the calls' results
abbrev pub valued_of : Result Bool Refusal → Valued
valued_of (Ok b) = Value b
valued_of (Err why) = NoValue (number_of_refusal why)

abbrev pub sought_of : {A : Type 0} → Result A Refusal → Sought
sought_of (Ok found) = One
sought_of (Err why) = NoOne (number_of_refusal why)
