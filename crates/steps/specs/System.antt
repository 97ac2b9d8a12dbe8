-- Systems of equations with linear lexicographic leads.
-- Assumes nothing: these are definitions.
use Rattle.std.specs.Prelude.{ℕ, ◌<◌, Bool, true, false, ◌&&◌, ◌||◌, eqb}
use Rattle.std.specs.Bool.{beq}
use Rattle.steps.specs.Rows.{Rows, none, ◌▹◌, next, Assignment, value, root}
use Rattle.steps.specs.Steps.{Steps, make}

-- "1 is the empty system. Row (i, F, t) is the system F with the equation x_i + t = 0 added."
abbrev pub equation : ℕ → ℕ → ℕ → Steps
equation i F t = make i F t

-- "Adding an equation needs i < N, and the roots of F and of t to be greater in index than i."
pub record InOrder (N : ℕ) (R : Rows) (i F t : ℕ) : Type 0 where
  pub lead_below : i < N
  pub system_above : i < root N R F
  pub tail_above : i < root N R t

-- where following then-branches ends: in 1 for every number but 0 (the law system_ends)
unfoldable pub end_of : Rows → ℕ → ℕ
end_of none k = k
end_of (R ▹ r) k = elim (eqb k (next R)) [ true ↦ end_of R r.then_part | false ↦ end_of R k ]

-- all equations of the system hold at a; the empty system always does
unfoldable pub holds : Assignment → Rows → ℕ → Bool
holds a none F = true
holds a (R ▹ r) F = elim (eqb F (next R)) [
  | true ↦ beq (a r.var) (value a R r.else_part) && holds a R r.then_part
  | false ↦ holds a R F
]

-- x_v is the lead of an equation of the system
unfoldable pub leads : ℕ → Rows → ℕ → Bool
leads v none F = false
leads v (R ▹ r) F = elim (eqb F (next R)) [ true ↦ eqb v r.var || leads v R r.then_part | false ↦ leads v R F ]

-- x_v stands in the polynomial k
unfoldable pub occurs : ℕ → Rows → ℕ → Bool
occurs v none k = false
occurs v (R ▹ r) k = elim (eqb k (next R)) [
  | true ↦ eqb v r.var || occurs v R r.then_part || occurs v R r.else_part
  | false ↦ occurs v R k
]
