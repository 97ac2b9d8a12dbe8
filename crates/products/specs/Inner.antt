-- What the inner functions of the product ask, and the pieces of its written steps.
-- Assumes nothing: these are definitions.
use Rattle.std.specs.Prelude.{ℕ, ◌+◌, ◌-◌, ◌<◌, min, ◌≡◌, List}
use Rattle.steps.specs.Rows.{Rows, root}
use Rattle.steps.specs.Steps.{Steps, ◌>>=◌, sum, product}
use Rattle.steps.specs.Table.{Slices}
use Rattle.table.specs.declared.Table.{Table}
use Rattle.table.specs.Memory.{Live}
use Rattle.table.specs.Views.{slices_of}

-- neither is a constant, and they are not equal
pub record Proper (f g : ℕ) : Type 0 where
  pub left_1 : f ≡ 1 → ⊥
  pub left_0 : f ≡ 0 → ⊥
  pub right_0 : g ≡ 0 → ⊥
  pub right_1 : g ≡ 1 → ⊥
  pub two : f ≡ g → ⊥

-- three numbers, and four, in use in a live table
pub record Three (N c : ℕ) (s : Slices) (work : List ℕ) (x y z : ℕ) : Type 0 where
  pub live : Live N c s work
  pub first : x < c + 2
  pub second : y < c + 2
  pub third : z < c + 2

pub record Quad (N c : ℕ) (s : Slices) (work : List ℕ) (ft fe gt ge : ℕ) : Type 0 where
  pub live : Live N c s work
  pub ft_used : ft < c + 2
  pub fe_used : fe < c + 2
  pub gt_used : gt < c + 2
  pub ge_used : ge < c + 2

abbrev pub Rest : ℕ → ℕ → Slices → List ℕ → ℕ → ℕ → ℕ → ℕ → Type 0
Rest N c s work a ft gt ge = Quad N c s work ft a gt ge

-- the same of a table
abbrev pub ThreeIn : ℕ → Table → ℕ → ℕ → ℕ → Type 0
ThreeIn N t = Three N t.count (slices_of t) t.work.now

abbrev pub QuadIn : ℕ → Table → ℕ → ℕ → ℕ → ℕ → Type 0
QuadIn N t = Quad N t.count (slices_of t) t.work.now

abbrev pub RestIn : ℕ → Table → ℕ → ℕ → ℕ → ℕ → Type 0
RestIn N t = Rest N t.count (slices_of t) t.work.now

-- "sum of the first two, that plus the third"
abbrev pub three_steps : ℕ → ℕ → ℕ → ℕ → Steps
three_steps N a b c = sum N a b >>= λ d. sum N d c

-- "then(f)·then(g), then(f)·else(g)", and the sums
abbrev pub rest_steps : ℕ → ℕ → ℕ → ℕ → ℕ → Steps
rest_steps N a ft gt ge = product N ft gt >>= λ b. product N ft ge >>= λ c. three_steps N a b c

-- "else(f)·then(g)" first
abbrev pub then_steps : ℕ → ℕ → ℕ → ℕ → ℕ → Steps
then_steps N ft fe gt ge = product N fe gt >>= λ a. rest_steps N a ft gt ge

-- how deep the parts can go
abbrev pub depth_rest : ℕ → Rows → ℕ → ℕ → ℕ → ℕ
depth_rest N R ft gt ge = N - min (root N R ft) (min (root N R gt) (root N R ge))

abbrev pub depth_then : ℕ → Rows → ℕ → ℕ → ℕ → ℕ → ℕ
depth_then N R ft fe gt ge = N - min (root N R fe) (min (root N R ft) (min (root N R gt) (root N R ge)))
