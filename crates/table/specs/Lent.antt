-- What a lent table is to the inner functions.
-- Assumes nothing: these are definitions.
use Rattle.std.specs.Prelude.{ℕ, ◌+◌, ◌<◌, ◌≤◌, ◌≡◌, length}
use Rattle.steps.specs.Table.{Slices, most_rows}

-- the room of a table
abbrev pub room : Slices → ℕ
room s = length s.vars

-- three slices of one length in range, with the count of rows in use
pub record Lent (c : ℕ) (s : Slices) : Type 0 where
  pub used : c ≤ room s
  pub small : room s ≤ most_rows
  pub thens : length s.thens ≡ room s
  pub elses : length s.elses ≡ room s

-- k is a constant or the number of a row in use
pub record Numbered (c : ℕ) (s : Slices) (k : ℕ) : Type 0 where
  pub lent : Lent c s
  pub used : k < c + 2
