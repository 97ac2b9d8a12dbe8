-- A circuit's gates become a system, and an output is reduced by it: the steps of the scope's 'AIGER text'.
-- Assumes nothing: these are definitions.
use Rattle.std.specs.Prelude.{if◌then◌else◌}
use Rattle.std.specs.Prelude.{ℕ, ◌-◌, ◌/◌, ◌%◌, List, [], ◌∷◌, ltb}
use Rattle.steps.specs.Steps.{Steps, answer, ◌>>=◌, make, product, normal}
use Rattle.steps.specs.System.{equation}
use Rattle.aiger.specs.Form.{Gate}

module _ (M : ℕ) where
  -- "Variable v becomes ring variable M - v, N = M."
  abbrev pub ring : ℕ → ℕ
  ring v = M - v

  -- "Literals 0 and 1 are the numbers 0 and 1 and make no row. For v of at least 1, literal 2v is made as (M-v, 1, 0), 2v+1 as (M-v, 1, 1)."
  unfoldable pub literal_steps : ℕ → Steps
  literal_steps l = if ltb l 2 then answer l else make (ring (l / 2)) 1 (l % 2)

  -- "For each gate: right0, right1, their product, then the equation is added." F is the system before
  abbrev pub gate_steps : Gate → ℕ → Steps
  gate_steps g F = do
    f ← literal_steps g.right0
    h ← literal_steps g.right1
    t ← product M f h
    equation (ring (g.left / 2)) F t

  -- the system F with the equations of the gates added, in file order
  unfoldable pub build : List Gate → ℕ → Steps
  build [] F = answer F
  build (g ∷ gs) F = do
    G ← gate_steps g F
    build gs G

  -- "For an output: its literal, then the normal form by the whole system"; 1 is the system before the first gate
  abbrev pub output_steps : List Gate → ℕ → Steps
  output_steps gs l = do
    F ← build gs 1
    p ← literal_steps l
    normal M p F
