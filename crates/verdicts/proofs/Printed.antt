-- The scope's printed run: "With 9 rows the verdicts are 0 and 1; with 8 they are 2 and 1; with 7 both are 2."
use Prim.Native.Nat.{ℕ, ◌+◌, ◌*◌}
use mathlib.Core.Path.{◌≡◌, refl}
use mathlib.Core.Bool.{Bool, true, ◌&&◌}
use mathlib.Core.List.{List, [], ◌∷◌}
use lib.Dec.{eqb}
use Rattle.steps.specs.One.{put, one}
use Rattle.steps.specs.Room.{within}
use Rattle.steps.specs.Rows.{count, next, value, row, find, bit}
use Rattle.steps.specs.Steps.{make, sums, products, normals}
use Rattle.aiger.specs.Net.{Net}
use Rattle.verdicts.specs.Systems.{literal_steps, build}
use Rattle.verdicts.specs.Verdicts.{Verdict, never, can, room_out, verdict_of}

-- "6 2 5" and "8 6 4", with the outputs 8 and 6
abbrev printed : Net
printed = record {
  M = 4;
  inputs = 2 ∷ 4 ∷ [];
  outputs = 8 ∷ 6 ∷ [];
  gates = record { left = 6; right0 = 2; right1 = 5 } ∷ record { left = 8; right0 = 6; right1 = 4 } ∷ [];
}

-- the verdict's number, with its pattern's digits behind a 1
abbrev digits : List Bool → ℕ → ℕ
digits [] n = n
digits (b ∷ q) n = digits q (n * 10 + bit b)

abbrev number : Verdict → ℕ
number (never R) = 0
number (can R q) = digits q 1
number room_out = 2

abbrev verdicts_are : ℕ → ℕ → ℕ → Bool
verdicts_are room a b = eqb (number (verdict_of printed room 0)) a && eqb (number (verdict_of printed room 1)) b

printed_run : verdicts_are 9 0 110 && verdicts_are 8 2 110 && verdicts_are 7 2 2 ≡ true
unfolding make sums products normals find next row one put value count within literal_steps build
printed_run = refl
