-- An assignment as bytes, one for each variable.
-- Assumes nothing: these are definitions.
use Rattle.std.specs.Prelude.{ℕ, zero, suc, List, [], ◌∷◌, ◌++◌, eqb, get_or}
use Rattle.steps.specs.Rows.{Assignment, bit}

-- the assignment that bytes stand for
abbrev pub assigned : List ℕ → Assignment
assigned bytes v = eqb (get_or bytes v 0) 1

-- the values of x_0 to x_(N-1), as bytes
unfoldable pub bytes_of : ℕ → Assignment → List ℕ
bytes_of zero a = []
bytes_of (suc n) a = bytes_of n a ++ bit (a n) ∷ []
