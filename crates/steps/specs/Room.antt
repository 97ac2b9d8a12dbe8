-- The room of a table.
-- Assumes nothing: these are definitions.
use Rattle.std.specs.Prelude.{ℕ, true, false, leb}
use Rattle.steps.specs.Rows.{Rows, count}
use Rattle.steps.specs.Steps.{Answer}

-- what steps come to in a table: a number and the rows then in use, or room has run out
pub data Ending : Type 0 where
  made : ℕ → Rows → Ending
  full : Ending

-- "Room has run out when a row must be appended and all R are in use." Rows are only ever appended, so that is exactly when the steps leave more
-- than R rows; the laws of proofs/Stepwise.antt say that stopping at the first row that does not fit is the same
unfoldable pub within : ℕ → Answer → Ending
within room a = elim (leb (count a.rows) room) [ true ↦ made a.num a.rows | false ↦ full ]
