-- When a table is sound: as a statement, and as the test that a call makes.
-- Assumes nothing: these are definitions.
use Rattle.std.specs.Prelude.{ℕ, ◌<◌, ◌≡◌, Bool, true, ◌&&◌, not, eqb, ltb}
use Rattle.steps.specs.Rows.{Row, Rows, none, ◌▹◌, next, root, find}

module _ (N : ℕ) where
  -- the row r may stand after the rows R. "A table is sound when each row in use has v < N, t and e below its own number, t not 0,
  -- any row named by t or e has a greater variable index than v, and no two rows are alike."
  pub record Fits (R : Rows) (r : Row) : Type 0 where
    pub var_below : r.var < N
    pub then_used : r.then_part < next R
    pub else_used : r.else_part < next R
    pub then_not_0 : r.then_part ≡ 0 → ⊥
    pub then_above : r.var < root N R r.then_part
    pub else_above : r.var < root N R r.else_part
    pub new : find R r ≡ 0

  unfoldable pub Sound : Rows → Type 0
  Sound none = Unit {0}
  Sound (R ▹ r) = Sound R × Fits R r

  -- the same as a test
  unfoldable pub fits : Rows → Row → Bool
  fits R r =
      ltb r.var N && ltb r.then_part (next R) && ltb r.else_part (next R) && not (eqb r.then_part 0)
      && ltb r.var (root N R r.then_part) && ltb r.var (root N R r.else_part) && eqb (find R r) 0

  unfoldable pub sound : Rows → Bool
  sound none = true
  sound (R ▹ r) = sound R && fits R r
