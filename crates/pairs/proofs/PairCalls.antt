-- What a call on two numbers means.
use Prim.Native.Nat.{ℕ, ◌<◌}
use mathlib.Core.Path.{◌≡◌}
use mathlib.Core.Bool.{Bool, true, ◌&&◌}
use mathlib.Core.List.{List}
use native.Mathlib.Omega.{arith}
use borrow.Author.Tests.{ltb-true}
use Rattle.std.specs.Bool.{xor}
use Rattle.std.specs.Prelude.{Result, OnErr}
use Rattle.steps.specs.Rows.{Assignment, value, next}
use Rattle.steps.specs.Sound.{Sound}
use Rattle.steps.specs.Steps.{Steps, sum, product}
use Rattle.steps.specs.Table.{Slices, rows_of}
use Rattle.steps.proofs.Bools.{both_true}
use Rattle.steps.proofs.Sound.{sound_true}
use Rattle.steps.proofs.Table.{rows_of_next}
use Rattle.steps.proofs.Theorems.{value_of_sum, value_of_product}
use Rattle.table.specs.declared.Row.{Row}
use Rattle.table.specs.declared.Refusal.{Refusal}
use Rattle.table.specs.Answers.{Answer, Made, Refused, answered_of}
use Rattle.table.specs.Calls.{in_use, left, take_steps, IfMade}
use Rattle.table.specs.Memory.{Live}
use Rattle.table.proofs.Laid.{steps_made}
use Rattle.sums.specs.Inner.{Pair}
use Rattle.checks.proofs.CallEnds.{unless_made, checked_made, does_result_unique}
use Rattle.pairs.specs.Calls.{pair_checked, pair_call, sum_call, product_call, Means, Answered}

-- a call whose steps give the value that op makes of the operands' values means it
module _ (op : Bool → Bool → Bool) (N : ℕ) (m : Steps) (c : ℕ) (s : Slices) (f g : ℕ)
    (law : Sound N (rows_of s c) → f < next (rows_of s c) → g < next (rows_of s c) → (a : Assignment) → value a (m (rows_of s c)).rows (m (rows_of s c)).num ≡ op (value a (rows_of s c) f) (value a (rows_of s c) g)) where
  means : (r : Answer) (s' : Slices) → pair_call N m c s f g ≡ left r s' → IfMade (Means op c s f g) r s'
  unfolding pair_call
  means (Refused why) s' e = tt
  means (Made k n) s' e =
      let checks = checked_made N c s (pair_checked m c s f g) e in
      let used = unless_made (in_use c f && in_use c g) 3 s (take_steps m c s) checks.1 in
      let both = both_true (in_use c f) (in_use c g) used.0 in
      let f_in = ltb-true f _ both.0 in
      let g_in = ltb-true g _ both.1 in
      λ a. rw (steps_made m c s used.1) at (law (sound_true N (rows_of s c) checks.0) (omega (arith, rows_of_next s c)) (omega (arith, rows_of_next s c)) a)

  pub pair_answered : {r : Answer} {s' : Slices} → pair_call N m c s f g ≡ left r s' → Answered op (pair_call N m c s f g) r c s s' f g
  pair_answered {r} {s'} e = record { is = e; means = means r s' e }

-- numbers in use are what the steps ask
pub pair_in : {N c : ℕ} {s : Slices} {work : List ℕ} {f g : ℕ} → Live N c s work → in_use c f ≡ true → in_use c g ≡ true → Pair N c s work f g
pair_in d p q = record { live = d; left = ltb-true _ _ p; right = ltb-true _ _ q }

pub sum_answered : (N c : ℕ) (s : Slices) (f g : ℕ) {r : Answer} {s' : Slices} → pair_call N (sum N f g) c s f g ≡ left r s' → Answered xor (pair_call N (sum N f g) c s f g) r c s s' f g
sum_answered N c s f g = pair_answered xor N (sum N f g) c s f g (λ d uf ug a. value_of_sum N (rows_of s c) d f g uf ug a)

pub product_answered : (N c : ℕ) (s : Slices) (f g : ℕ) {r : Answer} {s' : Slices} → pair_call N (product N f g) c s f g ≡ left r s' → Answered ◌&&◌ (pair_call N (product N f g) c s f g) r c s s' f g
product_answered N c s f g = pair_answered ◌&&◌ N (product N f g) c s f g (λ d uf ug a. value_of_product N (rows_of s c) d f g uf ug a)

-- "Uniqueness is proved: any two outcomes a contract allows coincide", of the code's results
pub sum_result_unique : (N c : ℕ) (s : Slices) (f g : ℕ) (r r' : Result Row Refusal) (n n' : ℕ) (t t' : Slices)
    → Answered xor (sum_call N c s f g) (answered_of r n) c s t f g → OnErr r (n ≡ c) → Answered xor (sum_call N c s f g) (answered_of r' n') c s t' f g → OnErr r' (n' ≡ c)
    → (r ≡ r') × (n ≡ n') × (t ≡ t')
sum_result_unique N c s f g = does_result_unique (Means xor c s f g) (sum_call N c s f g) c

pub product_result_unique : (N c : ℕ) (s : Slices) (f g : ℕ) (r r' : Result Row Refusal) (n n' : ℕ) (t t' : Slices)
    → Answered ◌&&◌ (product_call N c s f g) (answered_of r n) c s t f g → OnErr r (n ≡ c) → Answered ◌&&◌ (product_call N c s f g) (answered_of r' n') c s t' f g → OnErr r' (n' ≡ c)
    → (r ≡ r') × (n ≡ n') × (t ≡ t')
product_result_unique N c s f g = does_result_unique (Means ◌&&◌ c s f g) (product_call N c s f g) c
