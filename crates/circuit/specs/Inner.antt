-- What the functions of the circuit call ask, and the count that it leaves.
-- Assumes nothing: these are definitions.
use Rattle.std.specs.Prelude.{ℕ, ◌/◌, ◌≤◌, ◌≡◌, List, Result, Ok, Err}
use Rattle.steps.specs.Table.{Slices}
use Rattle.table.specs.declared.Table.{Table}
use Rattle.table.specs.Views.{slices_of}
use Rattle.aiger.specs.Form.{Gate}
use Rattle.gates.specs.Inner.{BuildAsked}
use Rattle.verdicts.specs.Calls.{rows_made}
use Rattle.endings.specs.declared.Verdict.{Verdict}
use Rattle.endings.specs.declared.Refusal.{Refusal}
use Rattle.endings.specs.declared.Refusal.TheVariants.{Table as OfTable, Text, NoOutput, PatternLength}
use Rattle.aiger.specs.declared.refusal.Refusal as text
use Rattle.endings.specs.Answers.{judged, answer_of_judged}

-- an empty table, the gates of an accepted net, and a literal of one of its variables
pub record OutputAsked (M c : ℕ) (s : Slices) (work : List ℕ) (gates : List Gate) (l : ℕ) : Type 0 where
  pub build : BuildAsked M c s work gates
  pub low : l / 2 ≤ M

-- the same of a table
abbrev pub OutputIn : ℕ → Table → List Gate → ℕ → Type 0
OutputIn M t = OutputAsked M t.count (slices_of t) t.work.now

-- the count of rows in use after the call: those made, or where it is refused those before
abbrev pub Counted : Result Verdict Refusal → ℕ → ℕ → Type 0
Counted (Ok v) c c' = rows_made (answer_of_judged (judged v)) ≡ c'
Counted (Err why) c c' = c' ≡ c

-- of a refused text, what is so of the refusal with its line
abbrev pub IfText : (text.Refusal → Type 0) → Result Verdict Refusal → Type 0
IfText P (Ok v) = Unit {0}
IfText P (Err (Text w)) = P w
IfText P (Err (OfTable w)) = Unit {0}
IfText P (Err NoOutput) = Unit {0}
IfText P (Err PatternLength) = Unit {0}
