-- The verdict for an output.
-- Assumes nothing: these are definitions.
use Rattle.std.specs.Prelude.{ℕ, zero, suc, Bool, List, get_or}
use Rattle.steps.specs.Rows.{Rows, none, count}
use Rattle.steps.specs.Steps.{Answer}
use Rattle.steps.specs.One.{one}
use Rattle.steps.specs.Room.{Ending, made, full, within}
use Rattle.aiger.specs.Net.{Net}
use Rattle.verdicts.specs.Systems.{output_steps}
use Rattle.verdicts.specs.Patterns.{pattern_of}

-- 0: the output is never 1; 1: it can be 1, and a pattern shows it; 2: room ran out. 0 and 1 leave the rows that were made
pub data Verdict : Type 0 where
  never : Rows → Verdict
  can : Rows → List Bool → Verdict
  room_out : Verdict

-- "Every output starts from an empty table, so no output's rows take room from another."
abbrev pub output_rows : Net → ℕ → Answer
output_rows net o = output_steps net.M net.gates (get_or net.outputs o 0) none

-- how many rows the written steps need for output o
abbrev pub rows_needed : Net → ℕ → ℕ
rows_needed net o = count (output_rows net o).rows

-- "then a one if it isn't 0"
abbrev pub judged : Net → Ending → Verdict
judged net (made zero R) = never R
judged net (made (suc k) R) = can R (pattern_of net (one R (suc k)))
judged net full = room_out

-- the verdict for output o in a table of so many rows
abbrev pub verdict_of : Net → ℕ → ℕ → Verdict
verdict_of net room o = judged net (within room (output_rows net o))
