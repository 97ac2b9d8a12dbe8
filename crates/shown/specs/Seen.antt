-- What C sees of a call: the number that it returns, and its out-parameters.
-- Assumes nothing: these are definitions.
use Rattle.std.specs.Prelude.{ℕ, ◌≡◌, Bool, Result, Ok, Err}
use Rattle.steps.specs.Rows.{bit}
use Rattle.table.specs.declared.Row.{Row}
use Rattle.table.specs.Answers.{Answer, Made, Refused}
use Rattle.numbers.specs.Answers.{Valued, Value, NoValue, Sought, One, NoOne}
use Rattle.aiger.specs.Answers.{Answer as Text-answer, Counted, Refused as Text-refused}
use Rattle.endings.specs.declared.Verdict.{Verdict}
use Rattle.endings.specs.Answers.{Judged, judged, Never, Can, RoomOut, Refused as Circuit-refused}

pub record Seen (A : Type 0) : Type 0 where
  pub returned : ℕ
  pub outs : A

abbrev pub seen : {A : Type 0} → ℕ → A → Seen A
seen k outs = record { returned = k; outs = outs }

-- 0 is returned "where the call was answered", and the out-parameters are written; "else the refusal's number", and they keep what they held

-- a call that may append; out: "the row number and the new count of rows in use"
abbrev pub show_made : Answer → ℕ × ℕ → Seen (ℕ × ℕ)
show_made (Made k n) held = seen 0 (k.0, n)
show_made (Refused why) held = seen why held

-- value; out: the value, 0 or 1
abbrev pub show_value : Valued → ℕ → Seen ℕ
show_value (Value b) held = seen 0 (bit b)
show_value (NoValue why) held = seen why held

-- a one; the assignment is lent, so nothing is out
abbrev pub show_one : Sought → Unit {0} → Seen (Unit {0})
show_one One held = seen 0 tt
show_one (NoOne why) held = seen why tt

-- the circuit call; out: the verdict, and with verdicts 0 and 1 the count of rows made; "verdict 2 (room ran out) carries no count"
abbrev pub show_verdict : Judged → ℕ × ℕ → Seen (ℕ × ℕ)
show_verdict (Never n) held = seen 0 (0, n)
show_verdict (Can n) held = seen 0 (1, n)
show_verdict RoomOut held = seen 0 (2, held.1)
show_verdict (Circuit-refused why) held = seen why held

-- the text call; out: I and O
abbrev pub show_counts : Text-answer → ℕ × ℕ → Seen (ℕ × ℕ)
show_counts (Counted i o) held = seen 0 (i, o)
show_counts (Text-refused why) held = seen why held

-- What a result answers whose refusals have numbers. At the refusals of tables, texts and circuits, with their own numbers, these compute to answered_of, valued_of, sought_of,
-- answer_of_text and judged_of.

abbrev pub answered_by : {W : Type 0} → (W → ℕ) → Result Row W → ℕ → Answer
answered_by number (Ok k) n = Made k n
answered_by number (Err why) n = Refused (number why)

abbrev pub valued_by : {W : Type 0} → (W → ℕ) → Result Bool W → Valued
valued_by number (Ok b) = Value b
valued_by number (Err why) = NoValue (number why)

abbrev pub sought_by : {A W : Type 0} → (W → ℕ) → Result A W → Sought
sought_by number (Ok found) = One
sought_by number (Err why) = NoOne (number why)

abbrev pub judged_by : {W : Type 0} → (W → ℕ) → Result Verdict W → Judged
judged_by number (Ok v) = judged v
judged_by number (Err why) = Circuit-refused (number why)

abbrev pub counted_by : {W : Type 0} → (W → ℕ) → Result (ℕ × ℕ) W → Text-answer
counted_by number (Ok counts) = Counted counts.0 counts.1
counted_by number (Err why) = Text-refused (number why)

-- a call, as C sees it: an answer that the call's own promise allows, shown
pub record Shows {R A : Type 0} (show : R → A → Seen A) (promise : R → Type 0) (k : ℕ) (held outs : A) : Type 0 where
  pub answer : R
  pub promised : promise answer
  pub is : show answer held ≡ seen k outs
