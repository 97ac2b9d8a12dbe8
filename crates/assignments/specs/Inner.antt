-- What evaluating rows and following them promise.
-- Assumes nothing: these are definitions.
use Rattle.std.specs.Prelude.{ℕ, ◌+◌, ◌-◌, ◌<◌, ◌≡◌, cond, List, ltb, length, get_or}
use Rattle.steps.specs.Rows.{value, bit}
use Rattle.steps.specs.Sound.{Sound}
use Rattle.steps.specs.Table.{Slices, rows_of}
use Rattle.table.specs.Lent.{Lent}
use Rattle.assignments.specs.Bytes.{assigned}

-- a lent, sound table over as many variables as there are bytes
pub record Lasting (c : ℕ) (s : Slices) (bytes : List ℕ) : Type 0 where
  pub lent : Lent c s
  pub sound : Sound (length bytes) (rows_of s c)

-- the value of the number k, where the values of the rows stand in a list
unfoldable pub bit_of : List ℕ → ℕ → ℕ
bit_of values k = cond (ltb k 2) k (get_or values (k - 2) 0)

-- the values of the first i rows stand in a list of 8,192
pub record Evaluated (c i : ℕ) (s : Slices) (bytes values : List ℕ) : Type 0 where
  pub long : length values ≡ 8192
  pub each : (k : ℕ) → k < i → get_or values k 0 ≡ bit (value (assigned bytes) (rows_of s c) (k + 2))

-- the next row, number i + 2, is one of the c rows in use
pub record Evaluable (c i : ℕ) (s : Slices) (bytes values : List ℕ) : Type 0 where
  pub lasting : Lasting c s bytes
  pub there : i < c
  pub evaluated : Evaluated c i s bytes values
