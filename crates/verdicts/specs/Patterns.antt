-- Input patterns: one value for each input, in file order.
-- Assumes nothing: these are definitions.
use Rattle.std.specs.Prelude.{ℕ, ◌/◌, ◌<◌, ◌≡◌, Bool, true, false, List, map, eqb, get_or}
use Rattle.steps.specs.Rows.{Assignment, bit}
use Rattle.aiger.specs.Meaning.{Values, feed, outputs}
use Rattle.aiger.specs.Net.{Net}
use Rattle.verdicts.specs.Systems.{ring}

-- the pattern that an assignment of the ring variables gives to the inputs
abbrev pub pattern_of : Net → Assignment → List Bool
pattern_of net a = map (λ l. a (ring net.M (l / 2))) net.inputs

-- "one byte for each input in file order"
abbrev pub bytes : List Bool → List ℕ
bytes = map bit

-- and back
abbrev pub bits : List ℕ → List Bool
bits = map (λ b. eqb b 1)

-- the value of output o, from 0, for a pattern
abbrev pub output_value : Net → List Bool → ℕ → Bool
output_value net p o = get_or (outputs net p) o false

-- the value that a pattern gives to each variable; one that is no input gets 0
abbrev pub given : List ℕ → List Bool → Values
given inputs p = feed inputs p (λ v. false)

-- p is not greater than q, "reads the highest-numbered input variable first": they are the same, or at the highest variable where they differ p has 0 and q has 1
pub data NotGreater (inputs : List ℕ) (p q : List Bool) : Type 0 where
  same : p ≡ q → NotGreater inputs p q
  less : (v : ℕ) → given inputs p v ≡ false → given inputs q v ≡ true → ((w : ℕ) → v < w → given inputs p w ≡ given inputs q w) → NotGreater inputs p q
