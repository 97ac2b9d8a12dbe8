-- What a circuit means, as the AIGER format says: the value of every literal, given a value for each input.
-- Assumes nothing.
use Rattle.std.specs.Prelude.{ℕ, ◌/◌, ◌%◌, Bool, false, ◌&&◌, not, if◌then◌else◌, List, [], ◌∷◌, map, eqb}
use Rattle.aiger.specs.Form.{Gate}
use Rattle.aiger.specs.Net.{Net}

-- a value for each variable
abbrev pub Values : Type 0
Values = ℕ → Bool

-- "A literal 2v is variable v, 2v+1 its inverse; 0 and 1 are constants." Variable 0, that no line defines, is false.
abbrev pub literal : Values → ℕ → Bool
literal at l = if eqb (l % 2) 0 then at (l / 2) else not (at (l / 2))

-- variable v gets the value b
abbrev pub assign : ℕ → Bool → Values → Values
assign v b at w = if eqb v w then b else at w

-- inputs get the pattern's values in file order
unfoldable pub feed : List ℕ → List Bool → Values → Values
feed [] bs at = at
feed (l ∷ ls) [] at = at
feed (l ∷ ls) (b ∷ bs) at = feed ls bs (assign (l / 2) b at)

-- a gate's left is the AND of its two rights, gates in file order
unfoldable pub run : List Gate → Values → Values
run [] at = at
run (g ∷ gs) at = run gs (assign (g.left / 2) (literal at g.right0 && literal at g.right1) at)

-- every variable's value for an input pattern; before the lines are read all are false
abbrev pub values : Net → List Bool → Values
values net pattern = run net.gates (feed net.inputs pattern (λ v. false))

-- the values of the outputs
abbrev pub outputs : Net → List Bool → List Bool
outputs net pattern = map (literal (values net pattern)) net.outputs
