-- What the checks find, as the definition of a call says it.
use Prim.Native.Nat.{ℕ}
use mathlib.Core.Path.{◌≡◌}
use mathlib.Core.List.{List}
use Rattle.steps.specs.Sound.{sound}
use Rattle.steps.specs.Table.{Slices, rows_of}
use Rattle.table.specs.Answers.{number_of_refusal}
use Rattle.table.specs.Calls.{in_range, checked}
use Rattle.table.specs.declared.Refusal.{Refusal}
use Rattle.table.specs.declared.Refusal.TheVariants.{OutOfRange, Unsound}
use Rattle.checks.specs.Checks.{Refuses, Fine}

-- the checks of every call
module _ {A : Type 0} (N c : ℕ) (s : Slices) (no : ℕ → A) (done : A) where
  pub refused_by : (why : Refusal) → Refuses why N c s → checked (in_range N c s) (sound N (rows_of s c)) no done ≡ no (number_of_refusal why)
  refused_by OutOfRange e = rw e
  refused_by Unsound e = rw (e.0, e.1)
  refused_by _ e = absurd e

  pub all_fine : {work : List ℕ} → Fine N c s work → checked (in_range N c s) (sound N (rows_of s c)) no done ≡ done
  all_fine d = let e = d.range in let f = d.sound in rw (e, f)
