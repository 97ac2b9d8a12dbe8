-- What a verdict stands for, said of the text, the output's number and the pattern: 0 and 1 speak of no table and no steps.
-- Assumes nothing: these are definitions.
use Rattle.std.specs.Prelude.{ℕ, ◌<◌, ◌≡◌, Bool, true, false, List, length}
use Rattle.aiger.specs.Net.{got, Net, circuit}
use Rattle.verdicts.specs.Calls.{Answer, verdict_0, verdict_1, verdict_2, refusal}
use Rattle.verdicts.specs.Patterns.{bytes, bits, output_value, NotGreater}
use Rattle.verdicts.specs.Verdicts.{rows_needed}

-- the text is an accepted circuit, and P holds of its net
pub record Accepts (text : List ℕ) (P : Net → Type 0) : Type 0 where
  pub net : Net
  pub rest : List ℕ
  pub reads : circuit text ≡ got net rest
  pub holds : P net

-- VERDICT 0: o, from 0, is one of the outputs, and at every input pattern it is 0
pub record NeverOne (o : ℕ) (net : Net) : Type 0 where
  pub there : o < length net.outputs
  pub always_0 : (q : List Bool) → output_value net q o ≡ false

-- bytes that are 0s and 1s, one for each input, and make output o 1
pub record Witness (net : Net) (o : ℕ) (b : List ℕ) : Type 0 where
  pub zeros_and_ones : bytes (bits b) ≡ b
  pub long : length b ≡ length net.inputs
  pub makes_1 : output_value net (bits b) o ≡ true

-- VERDICT 1: o is one of the outputs, the pattern b makes it 1, and no pattern that makes it 1 is less
pub record LeastOne (o : ℕ) (b : List ℕ) (net : Net) : Type 0 where
  pub there : o < length net.outputs
  pub witness : Witness net o b
  pub least : (q : List Bool) → length q ≡ length net.inputs → output_value net q o ≡ true → NotGreater net.inputs (bits b) q

-- VERDICT 2: o is one of the outputs, and the written steps need more rows for it than the R that are lent
pub record TooFewRows (o R : ℕ) (net : Net) : Type 0 where
  pub there : o < length net.outputs
  pub needs_more : R < rows_needed net o

-- what an answer stands for, where b is the pattern at exit and R rows are lent
abbrev pub StandsFor : Answer → List ℕ → List ℕ → ℕ → ℕ → Type 0
StandsFor (verdict_0 n) b text o R = Accepts text (NeverOne o)
StandsFor (verdict_1 n) b text o R = Accepts text (LeastOne o b)
StandsFor verdict_2 b text o R = Accepts text (TooFewRows o R)
StandsFor (refusal why) b text o R = Unit {0}
