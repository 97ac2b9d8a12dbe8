-- Rows, numbers, and the Boolean polynomial that a number stands for.
-- Assumes nothing: these are definitions.
use Rattle.std.specs.Prelude.{ℕ, zero, suc, Bool, true, false, ◌&&◌, eqb}
use Rattle.std.specs.Bool.{xor}

-- "N ring variables, 0 ≤ N ≤ 1,024": the number N is a parameter below; this is its limit
abbrev pub most_variables : ℕ
most_variables = 1024

-- "Row (v, t, e) means x_v·t + e."
pub record Row : Type 0 where
  pub var : ℕ
  pub then_part : ℕ
  pub else_part : ℕ

abbrev pub row_of : ℕ → ℕ → ℕ → Row
row_of v t e = record { var = v; then_part = t; else_part = e }

-- the rows in use, row 0 first, the newest last
infixl 50 ◌▹◌
pub data Rows : Type 0 where
  none : Rows
  ◌▹◌ : Rows → Row → Rows

-- "with a count of rows in use"
unfoldable pub count : Rows → ℕ
count none = 0
count (R ▹ r) = suc (count R)

-- "Row k, from 0, has number k+2. Numbers 0 and 1 are the constants." The next row's number: the numbers below it are 0, 1 and those of the rows in use
unfoldable pub next : Rows → ℕ
next none = 2
next (R ▹ r) = suc (next R)

-- an assignment: the value of each variable
abbrev pub Assignment : Type 0
Assignment = ℕ → Bool

-- a value as a byte of an assignment or a pattern
abbrev pub bit : Bool → ℕ
bit true = 1
bit false = 0

-- the value of a number at an assignment: the constant 1 is 1, row (v, t, e) is x_v·t + e with 1 + 1 = 0
unfoldable pub value : Assignment → Rows → ℕ → Bool
value a none k = eqb k 1
value a (R ▹ r) k = elim (eqb k (next R)) [
  | true ↦ xor (a r.var && value a R r.then_part) (value a R r.else_part)
  | false ↦ value a R k
]

module _ (N : ℕ) where
  -- the row of a number; a constant k counts as (N, 0, k), since "a constant's root counts as index N"
  unfoldable pub row : Rows → ℕ → Row
  row none k = row_of N 0 k
  row (R ▹ r) k = elim (eqb k (next R)) [ true ↦ r | false ↦ row R k ]

  -- "Its root is x_v"
  abbrev pub root : Rows → ℕ → ℕ
  root R k = (row R k).var

-- two rows are alike
abbrev pub alike : Row → Row → Bool
alike r s = eqb r.var s.var && eqb r.then_part s.then_part && eqb r.else_part s.else_part

-- the number of the row in use that is alike, 0 where there is none
unfoldable pub find : Rows → Row → ℕ
find none r = 0
find (R ▹ s) r = elim (find R r) [ zero ↦ elim (alike s r) [ true ↦ next R | false ↦ 0 ] | suc k ↦ suc k ]
