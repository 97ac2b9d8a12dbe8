-- What the calls variable, value and one answer and leave, for all inputs. A call is one equation, so two outcomes that it allows coincide.
-- Assumes nothing: these are definitions.
use Rattle.std.specs.Prelude.{ℕ, ◌≡◌, Bool, true, ◌&&◌, not, List, [], ◌∷◌, eqb, ltb, length}
use Rattle.steps.specs.Rows.{Assignment, value}
use Rattle.steps.specs.Sound.{sound}
use Rattle.steps.specs.Table.{Slices, rows_of}
use Rattle.steps.specs.Steps.{make}
use Rattle.steps.specs.One.{one, NotGreater}
use Rattle.table.specs.Calls.{unless◌then◌else◌, checked, in_range, in_use, Left, refuse, take_steps}
use Rattle.assignments.specs.Bytes.{assigned, bytes_of}
use Rattle.numbers.specs.Answers.{Valued, Value, NoValue, Sought, One, NoOne}

-- the variable x_v, "made as (v, 1, 0)"; "5: [..] a lead or asked variable not below N"
abbrev pub variable_checked : ℕ → ℕ → Slices → ℕ → Left
variable_checked N c s v = unless ltb v N then refuse 5 s else take_steps (make v 1 0) c s

unfoldable pub variable_call : ℕ → ℕ → Slices → ℕ → Left
variable_call N c s v = checked (in_range N c s) (sound N (rows_of s c)) (λ why. refuse why s) (variable_checked N c s v)

-- whether all bytes are 0 or 1
unfoldable pub all_bits : List ℕ → Bool
all_bits [] = true
all_bits (b ∷ bytes) = ltb b 2 && all_bits bytes

-- the value of f at an assignment; "8: an assignment byte isn't 0 or 1 (value only)"
abbrev pub value_checked : ℕ → Slices → ℕ → List ℕ → Valued
value_checked c s f bytes =
    unless in_use c f then NoValue 3
    else unless all_bits bytes then NoValue 8
    else Value (value (assigned bytes) (rows_of s c) f)

-- "1: [..] assignment length not N"
unfoldable pub value_call : ℕ → ℕ → Slices → ℕ → List ℕ → Valued
value_call N c s f bytes = checked (eqb (length bytes) N && in_range N c s) (sound N (rows_of s c)) NoValue (value_checked c s f bytes)

-- what finding a one answers, and the assignment that it leaves
pub record OneLeft : Type 0 where
  pub answer : Sought
  pub bytes : List ℕ

abbrev pub one_left : Sought → List ℕ → OneLeft
one_left r bytes = record { answer = r; bytes = bytes }

-- a one of f; "finding a one writes the whole assignment"; "6: find a one of 0"
abbrev pub one_checked : ℕ → ℕ → Slices → ℕ → List ℕ → OneLeft
one_checked N c s f bytes =
    unless in_use c f then one_left (NoOne 3) bytes
    else unless not (eqb f 0) then one_left (NoOne 6) bytes
    else one_left One (bytes_of N (one (rows_of s c) f))

unfoldable pub one_call : ℕ → ℕ → Slices → ℕ → List ℕ → OneLeft
one_call N c s f bytes =
    checked (eqb (length bytes) N && in_range N c s) (sound N (rows_of s c)) (λ why. one_left (NoOne why) bytes) (one_checked N c s f bytes)

-- what that means: the assignment is a one of f, and no one is less
abbrev pub OneMeans : Sought → ℕ → Slices → ℕ → List ℕ → Type 0
OneMeans One c s f bytes =
    (value (assigned bytes) (rows_of s c) f ≡ true) × ((a : Assignment) → value a (rows_of s c) f ≡ true → NotGreater (assigned bytes) a)
OneMeans (NoOne why) c s f bytes = Unit {0}
