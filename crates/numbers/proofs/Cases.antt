-- "Proved cases. One theorem over one list, N = 3."
use Prim.Native.Nat.{ℕ}
use mathlib.Core.Path.{◌≡◌, refl}
use mathlib.Core.Bool.{Bool, true, false, ◌&&◌}
use mathlib.Core.List.{List, [], ◌∷◌}
use lib.Dec.{eqb}
use Rattle.steps.specs.One.{put, one}
use Rattle.steps.specs.Rows.{none, count, next, row, find}
use Rattle.steps.specs.Sound.{fits, sound}
use Rattle.steps.specs.Steps.{Steps, answer, ◌>>=◌, make, sums, sum, products, product, normals, normal}
use Rattle.steps.specs.System.{equation}
use Rattle.steps.specs.Table.{slices, rows_of}
use Rattle.table.specs.Calls.{in_range, column, laid}
use Rattle.assignments.specs.Bytes.{bytes_of}
use Rattle.numbers.specs.Calls.{OneLeft, one_call}
use Rattle.numbers.specs.Answers.{One, NoOne}

-- polynomials and systems as the steps that make them
abbrev x : ℕ → Steps
x v = make v 1 0

abbrev const : ℕ → Steps
const k = answer k

infixl 73 ◌⊕◌
infixl 75 ◌⊗◌
abbrev ◌⊕◌ : Steps → Steps → Steps
◌⊕◌ m n = do
  f ← m
  g ← n
  sum 3 f g

abbrev ◌⊗◌ : Steps → Steps → Steps
◌⊗◌ m n = do
  f ← m
  g ← n
  product 3 f g

-- the system F with x_i + t = 0 added, and the empty one
abbrev lead : ℕ → Steps → Steps → Steps
lead i t F = do
  s ← F
  e ← t
  equation i s e

abbrev empty : Steps
empty = const 1

infix 71 ◌by◌
abbrev ◌by◌ : Steps → Steps → Steps
◌by◌ m n = do
  p ← m
  F ← n
  normal 3 p F

-- made one after the other, from an empty table, both have one number
infix 69 ◌is◌
abbrev ◌is◌ : Steps → Steps → Bool
◌is◌ m n =
    let a = m none in
    let b = n a.rows in
    eqb a.num b.num

-- what the call one answers and leaves for the number that m gives, in a table of just the rows that m makes; the bytes lent are no bits
abbrev one_of : Steps → OneLeft
one_of m =
    let a = m none in
    one_call 3 (count a.rows) (laid a.rows (slices [] [] [])) a.num (2 ∷ 2 ∷ 2 ∷ [])

abbrev bytes_are : List ℕ → List ℕ → Bool
bytes_are [] [] = true
bytes_are (b ∷ bs) (c ∷ cs) = eqb b c && bytes_are bs cs
bytes_are [] (c ∷ cs) = false
bytes_are (b ∷ bs) [] = false

-- a one was found, and the bytes left are its values of x0, x1 and x2
infix 69 ◌found◌
abbrev ◌found◌ : OneLeft → List ℕ → Bool
◌found◌ o bytes = elim o.answer [ One ↦ bytes_are o.bytes bytes | NoOne why ↦ false ]

infix 69 ◌refused◌
abbrev ◌refused◌ : OneLeft → ℕ → Bool
◌refused◌ o n = elim o.answer [ One ↦ false | NoOne why ↦ eqb why n ]

abbrev cases : List Bool
cases = (x 0 ⊕ x 0 ⊗ x 1) ⊕ (x 0 ⊗ x 1 ⊕ x 2) is x 0 ⊕ x 2
    ∷ x 0 ⊗ (x 1 ⊕ x 2) is x 0 ⊗ x 1 ⊕ x 0 ⊗ x 2
    ∷ (x 0 ⊕ const 1) ⊗ x 0 is const 0
    ∷ (x 0 ⊕ const 1) ⊗ (x 0 ⊕ const 1) is x 0 ⊕ const 1
    ∷ (x 0 ⊕ const 1) ⊗ x 1 is x 0 ⊗ x 1 ⊕ x 1
    ∷ x 0 by lead 0 (x 1 ⊗ x 2) empty is x 1 ⊗ x 2
    ∷ x 0 ⊗ x 1 by lead 0 (x 1) (lead 1 (x 2) empty) is x 2
    ∷ x 0 ⊕ x 1 by lead 0 (x 1) empty is const 0
    ∷ x 0 ⊗ x 1 ⊕ x 0 by lead 1 (const 1) empty is const 0
    ∷ x 0 by empty is x 0
    ∷ one_of (x 0 ⊗ x 1 ⊕ x 1) found (0 ∷ 1 ∷ 0 ∷ [])
    ∷ (one_of (const 1) found (0 ∷ 0 ∷ 0 ∷ []) && one_of (const 0) refused 6)
    ∷ []

abbrev every : List Bool → Bool
every [] = true
every (b ∷ bs) = b && every bs

pub proved_cases : every cases ≡ true
unfolding make sums products normals find next row one put count rows_of column in_range fits sound bytes_of one_call
proved_cases = refl
