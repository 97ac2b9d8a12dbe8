-- Document 01's printed run: what its text gives, and what its outputs are worth. Assumes nothing.
use Prim.Native.Nat.{ℕ}
use mathlib.Core.Path.{◌≡◌, refl}
use mathlib.Core.Bool.{true, false}
use mathlib.Core.List.{List, [], ◌∷◌, map}
use Rattle.aiger.specs.Form.{digits, zero_alone, number, space, further, byte, newline_left, line, gate, word, five, header}
use Rattle.aiger.specs.Net.{got, defined, input_lines, output_lines, gate_lines, unknown_output, Net, body, circuit}
use Rattle.aiger.specs.Meaning.{feed, run, outputs}

-- "aag 4 2 0 2 2", "2", "4", "8", "6", "6 2 5", "8 6 4"
abbrev text : List ℕ
text = 97 ∷ 97 ∷ 103 ∷ 32 ∷ 52 ∷ 32 ∷ 50 ∷ 32 ∷ 48 ∷ 32 ∷ 50 ∷ 32 ∷ 50 ∷ 10 ∷ 50 ∷ 10 ∷ 52 ∷ 10 ∷ 56 ∷ 10 ∷ 54 ∷ 10 ∷ 54 ∷ 32 ∷ 50 ∷ 32 ∷ 53 ∷ 10 ∷ 56 ∷ 32 ∷ 54 ∷ 32 ∷ 52 ∷ 10 ∷ []

abbrev printed : Net
printed = record {
  M = 4;
  inputs = 2 ∷ 4 ∷ [];
  outputs = 8 ∷ 6 ∷ [];
  gates = record { left = 6; right0 = 2; right1 = 5 } ∷ record { left = 8; right0 = 6; right1 = 4 } ∷ [];
}

-- the text is accepted to its last byte
reads : circuit text ≡ got printed []
unfolding circuit body digits zero_alone number space byte newline_left further line gate word five header defined input_lines output_lines gate_lines unknown_output
reads = refl

-- output 0 is 0 for every pattern, and output 1 is 1 for the pattern 10 alone
means : map (outputs printed) ((false ∷ false ∷ []) ∷ (false ∷ true ∷ []) ∷ (true ∷ false ∷ []) ∷ (true ∷ true ∷ []) ∷ [])
    ≡ (false ∷ false ∷ []) ∷ (false ∷ false ∷ []) ∷ (false ∷ true ∷ []) ∷ (false ∷ false ∷ []) ∷ []
unfolding feed run
means = refl
