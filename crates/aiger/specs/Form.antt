-- The line form of the scope, 'AIGER text'. A text is a list of bytes, and a reader says what stands at the front of what is left of it.
-- Assumes nothing.
use Rattle.std.specs.Prelude.{ℕ, ◌+◌, ◌*◌, ◌-◌, Bool, false, ◌&&◌, ◌||◌, if◌then◌else◌, List, [], ◌∷◌, eqb, leb}
use Rattle.aiger.specs.declared.numbers.Fault.{Fault}
use Rattle.aiger.specs.declared.numbers.Fault.TheVariants.{NoNewline, BadNumber, Other}

-- "A line breaks this form (a) when no newline is left in the text from its start on; otherwise at its leftmost fault:
-- (b) a number missing, above 65,535 or with a leading zero, (c) anything else." (a) is NoNewline, (b) BadNumber, (c) Other.
-- A read gives a value with what is left of the text, or the line's fault.
pub data Read (A : Type 0) : Type 0 where
  read : A → List ℕ → Read A
  fault : Fault → Read A

abbrev pub Reader : Type 0 → Type 0
Reader A = List ℕ → Read A

abbrev pub and_then : {A B : Type 0} → Read A → (A → Reader B) → Read B
and_then (read a rest) f = f a rest
and_then (fault w) f = fault w

-- one reader after the other, so that the leftmost fault is found: what `do` stands for below
infixl 20 ◌>>=◌
abbrev pub ◌>>=◌ : {A B : Type 0} → Reader A → (A → Reader B) → Reader B
◌>>=◌ r f text = and_then (r text) f

-- bytes: `0` is 48, `9` is 57, the space 32, the newline 10, `a` 97, `g` 103
abbrev pub digit : ℕ → Bool
digit x = leb 48 x && leb x 57

-- "Numbers are decimal, no sign, no leading zeros but 0 itself, at most 65,535."
-- the digits that go on from the number n
unfoldable pub digits : ℕ → Reader ℕ
digits n [] = read n []
digits n (x ∷ xs) =
    if digit x then (if leb (n * 10 + (x - 48)) 65535 then digits (n * 10 + (x - 48)) xs else fault BadNumber)
    else read n (x ∷ xs)

-- a 0 that no digit follows
unfoldable pub zero_alone : Reader ℕ
zero_alone [] = read 0 []
zero_alone (x ∷ xs) = if digit x then fault BadNumber else read 0 (x ∷ xs)

-- where no digit stands, a number is missing
unfoldable pub number : Reader ℕ
number [] = fault BadNumber
number (x ∷ xs) = if eqb x 48 then zero_alone xs else if digit x then digits (x - 48) xs else fault BadNumber

-- "One space between numbers": where the line ends instead, a number is missing
unfoldable pub space : Reader (Unit {0})
space [] = fault BadNumber
space (x ∷ xs) = if eqb x 32 then read tt xs else if eqb x 10 then fault BadNumber else fault Other

unfoldable pub further : Reader ℕ
further = do
  s ← space
  number

-- the byte b, which is due next
unfoldable pub byte : ℕ → Reader (Unit {0})
byte b [] = fault Other
byte b (x ∷ xs) = if eqb x b then read tt xs else fault Other

unfoldable pub newline_left : List ℕ → Bool
newline_left [] = false
newline_left (x ∷ xs) = eqb x 10 || newline_left xs

-- "one newline after each line": a line that r reads up to its newline
unfoldable pub line : {A : Type 0} → Reader A → Reader A
line r text = if newline_left text then (do
  a ← r
  n ← byte 10
  read a) text
    else fault NoNewline

-- "A gates `left right0 right1`"
pub record Gate : Type 0 where
  pub left : ℕ
  pub right0 : ℕ
  pub right1 : ℕ

unfoldable pub gate : Reader Gate
gate = do
  l ← number
  a ← further
  b ← further
  read (record { left = l; right0 = a; right1 = b })

-- "Line 1 is `aag M I L O A`."
pub record Header : Type 0 where
  pub M : ℕ
  pub I : ℕ
  pub L : ℕ
  pub O : ℕ
  pub A : ℕ

unfoldable pub word : Reader (Unit {0})
word = do
  a ← byte 97
  b ← byte 97
  byte 103

unfoldable pub five : Reader Header
five = do
  m ← further
  i ← further
  l ← further
  o ← further
  a ← further
  read (record { M = m; I = i; L = l; O = o; A = a })

unfoldable pub header : Reader Header
header = do
  w ← word
  five
