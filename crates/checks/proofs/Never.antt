-- The check finds nothing in a sound table of the right lengths.
use Prim.Native.Nat.{ℕ, ◌≤◌}
use mathlib.Core.Path.{◌≡◌, sym, ◌∙◌}
use mathlib.Core.Bool.{true}
use lib.ListN.{length}
use borrow.Author.Tests.{le-leb, eq-eqb}
use Rattle.std.proofs.lemmas.Bool.{true≢false}
use Rattle.steps.specs.Sound.{Sound}
use Rattle.steps.specs.Table.{Slices, rows_of}
use Rattle.steps.proofs.Sound.{true_sound}
use Rattle.table.specs.Calls.{in_range}
use Rattle.table.specs.Lent.{room, Lent}
use Rattle.table.specs.declared.Refusal.{Refusal}
use Rattle.table.specs.declared.Refusal.TheVariants.{OutOfRange, Unsound}
use Rattle.checks.specs.Checks.{Refuses}

module _ (N c : ℕ) (s : Slices) (few : N ≤ 1024) (l : Lent c s) (w : Sound N (rows_of s c)) where
  in_range_here : in_range N c s ≡ true
  unfolding in_range
  in_range_here = rw (le-leb N 1024 few, le-leb (room s) 8192 l.small, eq-eqb (length s.thens) (room s) l.thens, eq-eqb (length s.elses) (room s) l.elses, le-leb c (room s) l.used)

  pub never_refused : (why : Refusal) → Refuses why N c s → ⊥
  never_refused OutOfRange d = true≢false (sym in_range_here ∙ d)
  never_refused Unsound d = true≢false (sym (true_sound N (rows_of s c) w) ∙ d.1)
  never_refused _ d = d

pub empty_sound : (N : ℕ) (s : Slices) → Sound N (rows_of s 0)
unfolding Sound rows_of
empty_sound N s = tt
