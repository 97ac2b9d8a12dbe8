-- What the answers of the circuit call stand for.
-- Assumes nothing: these are definitions.
use Rattle.std.specs.Prelude.{ℕ, ◌≡◌, List, Result, Ok, Err}
use Rattle.steps.specs.Table.{Slices}
use Rattle.verdicts.specs.Calls.{Answer, verdict_0, verdict_1, verdict_2, refusal, Left, left}
use Rattle.aiger.specs.Answers as text
use Rattle.table.specs.Answers as table
use Rattle.endings.specs.declared.Verdict.{Verdict}
use Rattle.endings.specs.declared.Verdict.TheVariants as verdict
use Rattle.endings.specs.declared.Refusal.{Refusal}
use Rattle.endings.specs.declared.Refusal.TheVariants as why

-- what the circuit call answers: verdict 0 (the output is never 1) or 1 (it can be), with the count of rows made; verdict 2, room ran out; or a refusal's number
pub data Judged : Type 0 where
  Never : ℕ → Judged
  Can : ℕ → Judged
  RoomOut : Judged
  Refused : ℕ → Judged

abbrev pub judged : Verdict → Judged
judged (verdict.Never n) = Never n
judged (verdict.Can n) = Can n
judged verdict.RoomOut = RoomOut

-- the paper's number of a refusal
abbrev pub number_of_refusal : Refusal → ℕ
number_of_refusal (why.Table w) = table.number_of_refusal w
number_of_refusal (why.Text w) = text.number_of_refusal w
number_of_refusal why.NoOutput = 14
number_of_refusal why.PatternLength = 15

abbrev pub judged_of : Result Verdict Refusal → Judged
judged_of (Ok v) = judged v
judged_of (Err w) = Refused (number_of_refusal w)

-- the paper's verdict or refusal number, with the count of rows made
abbrev pub answer_of_judged : Judged → Answer
answer_of_judged (Never n) = verdict_0 n
answer_of_judged (Can n) = verdict_1 n
answer_of_judged RoomOut = verdict_2
answer_of_judged (Refused why) = refusal why

-- the answer r, the three slices and the pattern at exit are those of the call's definition
pub record Answered (call : Left) (r : Judged) (s : Slices) (p : List ℕ) : Type 0 where
  pub is : call ≡ left (answer_of_judged r) s p
