-- What the circuit call answers and leaves, for all inputs: one function of what is lent.
-- Assumes nothing: these are definitions.
use Rattle.std.specs.Prelude.{ℕ, Bool, ◌&&◌, List, eqb, leb, ltb, length}
use Rattle.steps.specs.Rows.{count}
use Rattle.steps.specs.Table.{Slices, most_rows}
use Rattle.table.specs.Lent.{room}
use Rattle.table.specs.Calls.{unless◌then◌else◌, laid, cleared}
use Rattle.aiger.specs.Net.{Got, got, refused, Net, circuit}
use Rattle.aiger.specs.Answers.{number_of_refusal}
use Rattle.verdicts.specs.Patterns.{bytes}
use Rattle.verdicts.specs.Verdicts.{Verdict, never, can, room_out, verdict_of}

-- "Its verdict 0 or 1 carries the count of rows made"; "verdict 2 (room ran out) carries no count"; "A refusal returns its number alone."
pub data Answer : Type 0 where
  verdict_0 : ℕ → Answer
  verdict_1 : ℕ → Answer
  verdict_2 : Answer
  refusal : ℕ → Answer

-- the count that an answer carries, 0 where it carries none
abbrev pub rows_made : Answer → ℕ
rows_made (verdict_0 n) = n
rows_made (verdict_1 n) = n
rows_made verdict_2 = 0
rows_made (refusal why) = 0

-- the answer, with the three slices and the pattern as the call leaves them
pub record Left : Type 0 where
  pub answer : Answer
  pub table : Slices
  pub pattern : List ℕ

abbrev pub left : Answer → Slices → List ℕ → Left
left r s p = record { answer = r; table = s; pattern = p }

-- "Refusals touch neither rows nor pattern."
abbrev pub refuse : ℕ → Slices → List ℕ → Left
refuse why s p = left (refusal why) s p

-- "1 (table lengths)": "of one length R (0 to 8,192)"
unfoldable pub lengths_fine : Slices → Bool
lengths_fine s = leb (room s) most_rows && eqb (length s.thens) (room s) && eqb (length s.elses) (room s)

-- "rows made, which stand from row 0 on, and leaves the rest untouched; verdict 2 [..] leaves all rows zero. Only verdict 1 writes the pattern"
abbrev pub end_with : Verdict → Slices → List ℕ → Left
end_with (never R) s p = left (verdict_0 (count R)) (laid R s) p
end_with (can R q) s p = left (verdict_1 (count R)) (laid R s) (bytes q)
end_with room_out s p = left verdict_2 (cleared 0 s) p

-- "then 14, 15": "no such output", "pattern buffer not of length I"
abbrev pub judge : Net → Slices → ℕ → List ℕ → Left
judge net s o p =
    unless ltb o (length net.outputs) then refuse 14 s p
    else unless eqb (length p) (length net.inputs) then refuse 15 s p
    else end_with (verdict_of net (room s) o) s p

-- the refusals of the text, 9 to 13, come before those
abbrev pub judge_read : Got Net → Slices → ℕ → List ℕ → Left
judge_read (got net rest) s o p = judge net s o p
judge_read (refused w) s o p = refuse (number_of_refusal w) s p

-- the circuit call on a text, with the slices and the pattern at entry: "The circuit call checks 1 (table lengths), 9, the header (10, then 11), then line by line."
unfoldable pub circuit_call : List ℕ → Slices → ℕ → List ℕ → Left
circuit_call text s o p = unless lengths_fine s then refuse 1 s p else judge_read (circuit text) s o p
