-- Finding a one.
-- Assumes nothing: these are definitions.
use Rattle.std.specs.Prelude.{ℕ, ◌<◌, ◌≡◌, Bool, true, false, eqb}
use Rattle.steps.specs.Rows.{Rows, none, ◌▹◌, next, Assignment}

-- a, with the value b for x_v
unfoldable pub put : Assignment → ℕ → Bool → Assignment
put a v b i = elim (eqb i v) [ true ↦ b | false ↦ a i ]

-- "at each row, if the else-part isn't 0 the variable is 0 and the else-part is followed; otherwise it is 1 and the then-part is followed.
-- Variables not met are 0."
unfoldable pub one : Rows → ℕ → Assignment
one none k i = false
one (R ▹ r) k i = elim (eqb k (next R)) [
  | true ↦ elim (eqb r.else_part 0) [ true ↦ put (one R r.then_part) r.var true i | false ↦ one R r.else_part i ]
  | false ↦ one R k i
]

-- a is not greater than b, "reading x_0 first": where they first differ, b has the 1
abbrev pub NotGreater : Assignment → Assignment → Type 0
NotGreater a b = (i : ℕ) → ((j : ℕ) → j < i → b j ≡ a j) → a i ≡ true → b i ≡ true
