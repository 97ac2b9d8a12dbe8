-- What the calls sum and product answer, leave and mean, for all inputs.
-- Assumes nothing: these are definitions.
use Rattle.std.specs.Prelude.{ℕ, ◌≡◌, Bool, ◌&&◌}
use Rattle.steps.specs.Rows.{Assignment, value}
use Rattle.steps.specs.Sound.{sound}
use Rattle.steps.specs.Table.{Slices, rows_of}
use Rattle.steps.specs.Steps.{Steps, sum, product}
use Rattle.table.specs.Answers.{Answer}
use Rattle.table.specs.Calls.{unless◌then◌else◌, checked, in_range, in_use, Left, refuse, take_steps, Does}

-- "3: a number isn't 0, 1 or a row in use"; then the written steps m
abbrev pub pair_checked : Steps → ℕ → Slices → ℕ → ℕ → Left
pair_checked m c s f g = unless in_use c f && in_use c g then refuse 3 s else take_steps m c s

unfoldable pub pair_call : ℕ → Steps → ℕ → Slices → ℕ → ℕ → Left
pair_call N m c s f g = checked (in_range N c s) (sound N (rows_of s c)) (λ why. refuse why s) (pair_checked m c s f g)

-- the number has, at every assignment, the value that op makes of the operands' values
abbrev pub Means : (Bool → Bool → Bool) → ℕ → Slices → ℕ → ℕ → ℕ → ℕ → Slices → Type 0
Means op c s f g k n s' = (a : Assignment) → value a (rows_of s' n) k ≡ op (value a (rows_of s c) f) (value a (rows_of s c) g)

abbrev pub Answered : (Bool → Bool → Bool) → Left → Answer → ℕ → Slices → Slices → ℕ → ℕ → Type 0
Answered op call r c s s' f g = Does (Means op c s f g) call r s'

-- the sum f + g
abbrev pub sum_call : ℕ → ℕ → Slices → ℕ → ℕ → Left
sum_call N c s f g = pair_call N (sum N f g) c s f g

-- the product f·g
abbrev pub product_call : ℕ → ℕ → Slices → ℕ → ℕ → Left
product_call N c s f g = pair_call N (product N f g) c s f g
