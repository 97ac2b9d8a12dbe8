-- What the program asks of a net's system.
-- Assumes nothing: these are definitions.
use Rattle.std.specs.Prelude.{ℕ, ◌≡◌}
use Rattle.steps.specs.Table.{Slices}
use Rattle.table.specs.Made.{Made}
use Rattle.aiger.specs.declared.net.Net.{Net}
use Rattle.outputs.specs.Inner.{BuiltIf}

-- the system, or the want of room for it, and a pattern of I bytes
pub record Ready (made : Made) (s : Slices) (n : Net) (I : ℕ) : Type 0 where
  pub built : BuiltIf made s n
  pub bytes : I ≡ n.sizes.inputs
