-- The end of the circuit call where the normal form is 0.
use Prim.Native.Nat.{ℕ}
use mathlib.Core.Path.{◌≡◌, ap}
use mathlib.Core.Bool.{Bool}
use mathlib.Core.List.{List}
use borrow.Author.Tests.{eq-eqb}
use Rattle.steps.specs.One.{one}
use Rattle.steps.specs.Table.{Slices, rows_of}
use Rattle.table.specs.declared.Row.{Row}
use Rattle.table.specs.Made.{At}
use Rattle.endings.specs.Answers.{Never, Answered}
use Rattle.endings.specs.Inner.{bytes_at, end_at, end_of}

pub ends_never : (M : ℕ) (ls : List ℕ) (s : Slices) (p : List ℕ) {k : Row} {c : ℕ} → k.0 ≡ 0 → Answered (end_of (At k c) M ls s p) (Never c) s p
ends_never M ls s p {k} {c} z = record { is = ap (λ (b : Bool). end_at b c (bytes_at M (one (rows_of s c) k.0) ls) s p) (eq-eqb k.0 0 z) }
