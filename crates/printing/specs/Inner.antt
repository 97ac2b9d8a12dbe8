-- What an output's line and a refusal's are.
-- Assumes nothing: these are definitions.
use Rattle.std.specs.Prelude.{ℕ, ◌≡◌, List}
use Rattle.steps.specs.Table.{Slices}
use Rattle.table.specs.Lent.{room}
use Rattle.aiger.specs.Answers.{number_of_refusal}
use Rattle.aiger.specs.Net.{Net}
use Rattle.aiger.specs.declared.refusal.Refusal.{Refusal}
use Rattle.verdicts.specs.Calls.{end_with}
use Rattle.verdicts.specs.Verdicts.{verdict_of, room_out}
use Rattle.printing.specs.Text.{printed, refused}

-- no output of this circuit has room in a table of this size
abbrev pub NoneFits : Net → Slices → Type 0
NoneFits circuit s = (o : ℕ) → verdict_of circuit (room s) o ≡ room_out

-- WHAT IS PRINTED IS THE CIRCUIT CALL'S: the line is the text of what the call leaves in a table of this size
pub record Prints (circuit : Net) (s : Slices) (o : ℕ) (p line : List ℕ) : Type 0 where
  pub text : line ≡ printed (end_with (verdict_of circuit (room s) o) s p) o

-- WHAT IS PRINTED OF A REFUSAL IS ITS NUMBER: the line is the text of the paper's number of it
pub record PrintsRefusal (why : Refusal) (line : List ℕ) : Type 0 where
  pub text : line ≡ refused (number_of_refusal why)
