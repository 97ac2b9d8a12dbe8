-- What the program prints of an output and of a refusal: "One printed run".
-- Assumes nothing: these are definitions.
use Rattle.std.specs.Prelude.{ℕ, zero, suc, ◌+◌, ◌/◌, ◌%◌, cond, List, [], ◌∷◌, ◌++◌, map, eqb, ltb}
use Rattle.verdicts.specs.Calls.{Answer, verdict_0, verdict_1, verdict_2, refusal, Left}

-- n in decimal digits, with no 0 before it; k digits and one more are enough
abbrev pub decimal : ℕ → ℕ → List ℕ
decimal zero n = (48 + n % 10) ∷ []
decimal (suc k) n = cond (ltb n 10) ((48 + n % 10) ∷ []) (decimal k (n / 10) ++ (48 + n % 10) ∷ [])

-- an input's value as a digit
abbrev pub digit : ℕ → ℕ
digit b = cond (eqb b 0) 48 49

-- the verdict v on a line, then the letter b with the output's number, below 1,024, on another
abbrev pub heading : ℕ → ℕ → List ℕ
heading v o = (48 + v) ∷ 10 ∷ 98 ∷ decimal 3 o ++ 10 ∷ []

-- a dot on a line
abbrev pub dot : List ℕ
dot = 46 ∷ 10 ∷ []

-- what is printed of the answer for output o and the pattern p: with verdict 1 an empty line and the input values in file order. An output that is there is never refused
abbrev pub block : Answer → ℕ → List ℕ → List ℕ
block (verdict_0 rows) o p = heading 0 o ++ dot
block (verdict_1 rows) o p = heading 1 o ++ (10 ∷ map digit p ++ 10 ∷ dot)
block verdict_2 o p = heading 2 o ++ dot
block (refusal why) o p = []

-- of what a call leaves
abbrev pub printed : Left → ℕ → List ℕ
printed call o = block call.answer o call.pattern

-- "A refused text prints only `refused` with a space and the number.": on a line; the number, at most 13, in at most two digits
abbrev pub refused : ℕ → List ℕ
refused n = 114 ∷ 101 ∷ 102 ∷ 117 ∷ 115 ∷ 101 ∷ 100 ∷ 32 ∷ decimal 1 n ++ 10 ∷ []
