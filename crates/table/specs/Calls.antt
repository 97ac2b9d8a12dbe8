-- What the public calls on a table share: the order of the checks, and what a call that may append leaves.
-- Assumes nothing: these are definitions.
use Rattle.std.specs.Prelude.{ℕ, ◌+◌, ◌-◌, ◌≡◌, Bool, true, false, ◌&&◌, List, [], ◌∷◌, ◌++◌, eqb, leb, ltb, length, take, drop, replicate}
use Rattle.steps.specs.Rows.{Row, Rows, none, ◌▹◌, count, most_variables}
use Rattle.steps.specs.Sound.{sound}
use Rattle.steps.specs.Table.{Slices, slices, rows_of, most_rows}
use Rattle.steps.specs.Steps.{Steps}
use Rattle.steps.specs.Room.{Ending, made, full, within}
use Rattle.table.specs.Made.{Made as Row-made, At, Full}
use Rattle.table.specs.Answers.{Answer, Made, Refused}
use Rattle.table.specs.Lent.{room}

-- the first that applies, in the order in which it is written
infix 10 unless◌then◌else◌
abbrev pub unless◌then◌else◌ : {A : Type 0} → Bool → A → A → A
unless◌then◌else◌ true refusal a = a
unless◌then◌else◌ false refusal a = refusal

-- "Calls on a table check in the order shown": 1 and 2 come first in each
abbrev pub checked : {A : Type 0} → Bool → Bool → (ℕ → A) → A → A
checked range sound refusal done = unless range then refusal 1 else unless sound then refusal 2 else done

-- "1: N, lengths or count out of range"
unfoldable pub in_range : ℕ → ℕ → Slices → Bool
in_range N c s =
    leb N most_variables && leb (room s) most_rows && eqb (length s.thens) (room s) && eqb (length s.elses) (room s) && leb c (room s)

-- "3: a number isn't 0, 1 or a row in use"
abbrev pub in_use : ℕ → ℕ → Bool
in_use c k = ltb k (c + 2)

-- one column of the rows, row 0 first
unfoldable pub column : (Row → ℕ) → Rows → List ℕ
column f none = []
column f (R ▹ r) = column f R ++ f r ∷ []

-- "Success changes no row in use at entry and no row free at exit": the rows from row 0 on, and what stood behind them
abbrev pub laid : Rows → Slices → Slices
laid R s =
    slices (column (λ r. r.var) R ++ drop (count R) s.vars) (column (λ r. r.then_part) R ++ drop (count R) s.thens)
    (column (λ r. r.else_part) R ++ drop (count R) s.elses)

-- "Refusal 7 keeps the rows and count in use and zeros all free rows."
abbrev pub freed : ℕ → List ℕ → List ℕ
freed c l = take c l ++ replicate (length l - c) 0

abbrev pub cleared : ℕ → Slices → Slices
cleared c s = slices (freed c s.vars) (freed c s.thens) (freed c s.elses)

-- what a call that may append answers, and the three slices that it leaves
pub record Left : Type 0 where
  pub answer : Answer
  pub table : Slices

abbrev pub left : Answer → Slices → Left
left r s = record { answer = r; table = s }

-- "Refusals 1 to 6 and 8 write nothing but the working slice."
abbrev pub refuse : ℕ → Slices → Left
refuse why s = left (Refused why) s

-- "A call that may append returns the row number and the new count of rows in use." "7: room has run out by the written steps"
abbrev pub end_in : Ending → ℕ → Slices → Left
end_in (made k R) c s = left (Made (record { 0 = k }) (count R)) (laid R s)
end_in full c s = left (Refused 7) (cleared c s)

-- the written steps, in the room that is lent
abbrev pub take_steps : Steps → ℕ → Slices → Left
take_steps m c s = end_in (within (room s) (m (rows_of s c))) c s

-- the end of a call that may append, after what was made
abbrev pub finished : Row-made → ℕ → Slices → Left
finished (At k n) c s = left (Made k n) s
finished Full c s = left (Refused 7) (cleared c s)

-- what is meant of a number k that was made, with n rows then in use in the slices s'
abbrev pub IfMade : (ℕ → ℕ → Slices → Type 0) → Answer → Slices → Type 0
IfMade Meant (Made k n) s' = Meant k.0 n s'
IfMade Meant (Refused why) s' = Unit {0}

-- WHAT A CALL THAT MAY APPEND PROMISES: its answer and slices are those of its definition, and its number means what it must
pub record Does (Meant : ℕ → ℕ → Slices → Type 0) (call : Left) (r : Answer) (s' : Slices) : Type 0 where
  pub is : call ≡ left r s'
  pub means : IfMade Meant r s'
