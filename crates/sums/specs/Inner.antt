-- What the inner functions ask and promise of two numbers.
-- Assumes nothing: these are definitions.
use Rattle.std.specs.Prelude.{ℕ, ◌+◌, ◌-◌, ◌<◌, min, ◌≡◌, List}
use Rattle.steps.specs.Rows.{Rows, row, root}
use Rattle.steps.specs.Table.{Slices}
use Rattle.table.specs.declared.Table.{Table}
use Rattle.table.specs.Lent.{Lent}
use Rattle.table.specs.Memory.{key_of, Live}
use Rattle.table.specs.Views.{slices_of}

-- f and g are 0, 1 or rows in use
pub record InUse (c : ℕ) (s : Slices) (f g : ℕ) : Type 0 where
  pub lent : Lent c s
  pub left : f < c + 2
  pub right : g < c + 2

-- and the table and the working slice are what every inner function asks
pub record Pair (N c : ℕ) (s : Slices) (work : List ℕ) (f g : ℕ) : Type 0 where
  pub live : Live N c s work
  pub left : f < c + 2
  pub right : g < c + 2

abbrev pub PairIn : ℕ → Table → ℕ → ℕ → Type 0
PairIn N t f g = Pair N t.count (slices_of t) t.work.now f g

-- neither is 0, and they are not equal
pub record Apart (f g : ℕ) : Type 0 where
  pub left : f ≡ 0 → ⊥
  pub right : g ≡ 0 → ⊥
  pub two : f ≡ g → ⊥

-- "with N minus the least root variable as falling number"
abbrev pub depth : ℕ → Rows → ℕ → ℕ → ℕ
depth N R f g = N - min (root N R f) (root N R g)

-- f and g at the lesser of their roots, v: "The absent variable's part is the else-part."
pub data Split (N : ℕ) (R : Rows) (f g : ℕ) : ℕ → ℕ → ℕ → ℕ → ℕ → Type 0 where
  less : root N R f < root N R g → Split N R f g (row N R f).var (row N R f).then_part 0 (row N R f).else_part g
  more : root N R g < root N R f → Split N R f g (row N R g).var 0 (row N R g).then_part f (row N R g).else_part
  both : root N R f ≡ root N R g → Split N R f g (row N R f).var (row N R f).then_part (row N R g).then_part (row N R f).else_part (row N R g).else_part

-- a sum's key, in either order
pub data SumKey (f g key : ℕ) : Type 0 where
  straight : key_of 1 f g ≡ key → SumKey f g key
  turned : key_of 1 g f ≡ key → SumKey f g key
