-- Products that are remembered.
use Prim.Native.Nat.{ℕ, ◌+◌, ◌*◌, ◌<◌}
use mathlib.Core.Path.{◌≡◌}
use mathlib.Core.Bool.{◌&&◌}
use mathlib.Core.List.{List}
use native.Mathlib.Omega.{arith}
use lib.ListN.{length, set}
use Rattle.steps.specs.Rows.{Rows, value}
use Rattle.steps.specs.Steps.{answer, product}
use Rattle.steps.specs.Table.{Slices, rows_of}
use Rattle.steps.proofs.Table.{rows_of_next}
use Rattle.steps.proofs.Theorems.{Right, product_right}
use Rattle.table.specs.declared.Row.{Row}
use Rattle.table.specs.Made.{At}
use Rattle.std.specs.Prelude.{Option, Some}
use Rattle.table.specs.Lent.{room}
use Rattle.table.specs.Memory.{key_of, Place, Recalls}
use Rattle.table.specs.Inner.{Kept}
use Rattle.table.proofs.Words.{steps_product}
use Rattle.sums.specs.Inner.{Pair}
use Rattle.sums.proofs.Recalling.{key_fits, steps_recalled, steps_remembered}

module _ (N c : ℕ) (s : Slices) (work : List ℕ) (f g : ℕ) (d : Pair N c s work f g) (key : ℕ) (z : key_of 2 f g ≡ key) where
  abbrev R : Rows
  R = rows_of s c

  pub key_small : key < 65536 * 65536 * 4
  key_small = key_fits N c s work d.live 2 f g (omega arith) d.left d.right key z

  right : Right N (product N f g) R 0 (λ a. value a R f && value a R g)
  right = product_right N R d.live.sound f g (omega (arith, rows_of_next s c, d.left)) (omega (arith, rows_of_next s c, d.right)) 0 (omega arith) (omega arith)

  module _ (i : ℕ) (place : Place (room s) (length work) i) where
    pub recalled : {r : Option Row} {k : Row} → r ≡ Some k → Recalls r work i key → product N f g (rows_of s c) ≡ answer k.0 (rows_of s c)
    recalled = steps_recalled N c s work d.live 2 f g (omega arith) d.left d.right key z (omega arith) (product N f g) (steps_product N f g) i place

    pub kept_remembered : (k : Row) (n : ℕ) (s' : Slices) (work' : List ℕ) → Kept N (product N f g) (At k n) c s s' work work'
        → (work'' : List ℕ) → set work' i (key * 65536 + k.0) ≡ work'' → Kept N (product N f g) (At k n) c s s' work work''
    kept_remembered = steps_remembered N c s work d.live 2 f g (omega arith) d.left d.right key z (omega arith) (product N f g) (steps_product N f g) i place (λ e. absurd (omega arith)) _ right
