-- What the end of the circuit call and the writing of its pattern ask and promise.
-- Assumes nothing: these are definitions.
use Rattle.std.specs.Prelude.{ℕ, ◌+◌, ◌/◌, ◌<◌, ◌≤◌, Bool, true, false, List, map, eqb, length, get_or}
use Rattle.steps.specs.One.{one}
use Rattle.steps.specs.Rows.{Assignment}
use Rattle.steps.specs.Sound.{Sound}
use Rattle.steps.specs.Table.{Slices, rows_of}
use Rattle.table.specs.Made.{Made}
use Rattle.table.specs.Made.{At, Full}
use Rattle.table.specs.Calls.{cleared}
use Rattle.table.specs.Lent.{Lent}
use Rattle.verdicts.specs.Calls.{verdict_0, verdict_1, verdict_2, Left, left}
use Rattle.verdicts.specs.Patterns.{bytes}
use Rattle.verdicts.specs.Systems.{ring}

-- the bytes of the inputs ls at an assignment
abbrev pub bytes_at : ℕ → Assignment → List ℕ → List ℕ
bytes_at M a ls = bytes (map (λ l. a (ring M (l / 2))) ls)

-- a number in use in a sound table, and as many inputs as the pattern has bytes
pub record PatternAsked (M c : ℕ) (s : Slices) (k : ℕ) (ins : List ℕ) (I : ℕ) : Type 0 where
  pub lent : Lent c s
  pub sound : Sound M (rows_of s c)
  pub used : k < c + 2
  pub vars : M ≤ 1024
  pub long : I ≤ length ins
  pub positive : (i : ℕ) → i < I → 0 < get_or ins i 0 / 2
  pub low : (i : ℕ) → i < I → get_or ins i 0 / 2 ≤ M

-- how the call ends after what was made: "Only verdict 1 writes the pattern", "verdict 2 [..] leaves all rows zero"
abbrev pub end_at : Bool → ℕ → List ℕ → Slices → List ℕ → Left
end_at true c q s p = left (verdict_0 c) s p
end_at false c q s p = left (verdict_1 c) s q

abbrev pub end_of : Made → ℕ → List ℕ → Slices → List ℕ → Left
end_of (At k c) M ls s p = end_at (eqb k.0 0) c (bytes_at M (one (rows_of s c) k.0) ls) s p
end_of Full M ls s p = left verdict_2 (cleared 0 s) p

abbrev pub PatternIf : Made → ℕ → Slices → List ℕ → ℕ → Type 0
PatternIf (At k c) M s ins I = PatternAsked M c s k.0 ins I
PatternIf Full M s ins I = Unit {0}

pub record EndAsked (r : Made) (M : ℕ) (s : Slices) (ins : List ℕ) (I : ℕ) : Type 0 where
  pub lent : Lent 0 s
  pub pattern : PatternIf r M s ins I
