-- A table as a caller lends it: three slices and a count.
-- Assumes nothing: these are definitions.
use Rattle.std.specs.Prelude.{ℕ, zero, suc, List, get_or}
use Rattle.steps.specs.Rows.{Row, row_of, Rows, none, ◌▹◌}

-- "of one length R (0 to 8,192)"
abbrev pub most_rows : ℕ
most_rows = 8192

-- "A table is three lent slices of 16-bit numbers, for variable, then and else"
pub record Slices : Type 0 where
  pub vars : List ℕ
  pub thens : List ℕ
  pub elses : List ℕ

abbrev pub slices : List ℕ → List ℕ → List ℕ → Slices
slices vs ts es = record { vars = vs; thens = ts; elses = es }

-- row k of the slices
abbrev pub row_at : Slices → ℕ → Row
row_at s k = row_of (get_or s.vars k 0) (get_or s.thens k 0) (get_or s.elses k 0)

-- the rows in use where their count is c
unfoldable pub rows_of : Slices → ℕ → Rows
rows_of s zero = none
rows_of s (suc c) = rows_of s c ▹ row_at s c
