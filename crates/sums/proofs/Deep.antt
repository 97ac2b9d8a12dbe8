-- The steps of the sum where it goes deeper.
use Prim.Native.Nat.{ℕ, suc, ◌+◌, ◌*◌, ◌<◌}
use mathlib.Core.Path.{◌≡◌}
use mathlib.Core.Bool.{◌&&◌, xor}
use mathlib.Core.List.{List}
use native.Mathlib.Omega.{arith}
use Rattle.steps.specs.Rows.{Rows, next, root, value}
use Rattle.steps.specs.Steps.{answer, ◌>>=◌, make, sum}
use Rattle.steps.specs.Table.{Slices, rows_of}
use Rattle.steps.proofs.Keeps.{Keeps, keeps_make, keeps_sums, keeps_bind}
use Rattle.steps.proofs.Rows.{◌≼◌, next_grows, row_keeps}
use Rattle.steps.proofs.Table.{rows_of_next}
use Rattle.steps.proofs.Theorems.{Right, sum_right, make_right}
use Rattle.table.specs.declared.Row.{Row}
use Rattle.table.specs.Made.{Made}
use Rattle.table.specs.Made.{At as Made-at, Full}
use Rattle.table.specs.Index.{Indexed}
use Rattle.table.specs.Inner.{Entered, Kept}
use Rattle.table.proofs.Takes.{taken_rows}
use Rattle.sums.specs.Inner.{Pair, Apart, depth, Split}
use Rattle.sums.proofs.Keeping.{kept_by, kept_full, kept_then, kept_made}
use Rattle.sums.proofs.Splits.{At, split_at, split_sum, deeper}

module _ (N c : ℕ) (s : Slices) (work : List ℕ) (f g : ℕ) (d : Pair N c s work f g) (a : Apart f g) (v ft gt fe ge : ℕ) (p : Split N (rows_of s c) f g v ft gt fe ge) where
  abbrev R : Rows
  R = rows_of s c

  used : (k : ℕ) → k < c + 2 → k < next R
  used k h = omega (arith, rows_of_next s c)

  back : (k : ℕ) → k < next R → k < c + 2
  back k h = omega (arith, rows_of_next s c)

  at : At N R f g v ft gt fe ge
  at = split_at N R d.live.sound f g (used f d.left) (used g d.right) a p

  keeps : (t : ℕ) → Keeps (sum N fe ge >>= make v t)
  keeps t = keeps_bind (sum N fe ge) (make v t) (keeps_sums N (suc N) fe ge) (keeps_make v t)

  steps : sum N f g R ≡ (sum N ft gt >>= λ t. sum N fe ge >>= make v t) R
  steps = split_sum N R d.live.sound f g (used f d.left) (used g d.right) a p

  pub first_asks : (t : ℕ) → 2 * depth N (rows_of s c) f g ≡ t → (2 * depth N (rows_of s c) ft gt + 1 < t) × Pair N c s work ft gt
  first_asks t e =
      (omega (arith, deeper N R R f g v ft gt at.lesser at.below at.ft_above at.gt_above), record { live = d.live; left = back ft at.ft_used; right = back gt at.gt_used })

  pub first_full : {s₁ : Slices} {work₁ : List ℕ} → Kept N (sum N ft gt) Full c s s₁ work work₁ → Kept N (sum N f g) Full c s s₁ work work₁
  first_full k = kept_by steps (kept_full (λ t. sum N fe ge >>= make v t) keeps k)

  module _ (t : Row) (n : ℕ) (s₁ : Slices) (work₁ : List ℕ) (k : Kept N (sum N ft gt) (Made-at t n) c s s₁ work work₁) where
    abbrev R₁ : Rows
    R₁ = rows_of s₁ n

    one : Right N (sum N ft gt) R (suc v) (λ a. xor (value a R ft) (value a R gt))
    one = sum_right N R d.live.sound ft gt at.ft_used at.gt_used (suc v) at.ft_above at.gt_above

    made : sum N ft gt R ≡ answer t.0 R₁
    made = taken_rows k.taken

    grown : R ≼ R₁
    grown = rw made at one.appends

    kept_root : (x : ℕ) → x < next R → v < root N R x → v < root N R₁ x
    kept_root x u h = rw (root, row_keeps N grown x u) h

    pub second_asks : (m : ℕ) → 2 * depth N (rows_of s c) f g ≡ m → (2 * depth N (rows_of s₁ n) fe ge + 1 < m) × Pair N n s₁ work₁ fe ge
    second_asks m e = (
      omega (arith, deeper N R R₁ f g v fe ge at.lesser at.below (kept_root fe at.fe_used at.fe_above) (kept_root ge at.ge_used at.ge_above)),
      record {
        live = k.live;
        left = omega (arith, at.fe_used, next_grows grown, rows_of_next s₁ n);
        right = omega (arith, at.ge_used, next_grows grown, rows_of_next s₁ n);
      },
    )

    pub second_full : {s₂ : Slices} {work₂ : List ℕ} → Kept N (sum N fe ge) Full n s₁ s₂ work₁ work₂ → Kept N (sum N f g) Full c s s₂ work work₂
    second_full l = kept_by steps (kept_then (λ t. sum N fe ge >>= make v t) keeps k (kept_full (make v t.0) (keeps_make v t.0) l))

    module _ (e : Row) (n₂ : ℕ) (s₂ : Slices) (work₂ : List ℕ) (l : Kept N (sum N fe ge) (Made-at e n₂) n s₁ s₂ work₁ work₂) where
      abbrev R₂ : Rows
      R₂ = rows_of s₂ n₂

      two : Right N (sum N fe ge) R₁ (suc v) (λ a. xor (value a R₁ fe) (value a R₁ ge))
      two =
          sum_right N R₁ k.live.sound fe ge (omega (arith, at.fe_used, next_grows grown)) (omega (arith, at.ge_used, next_grows grown)) (suc v)
          (kept_root fe at.fe_used at.fe_above) (kept_root ge at.ge_used at.ge_above)

      made₂ : sum N fe ge R₁ ≡ answer e.0 R₂
      made₂ = taken_rows l.taken

      grown₂ : R₁ ≼ R₂
      grown₂ = rw made₂ at two.appends

      then_used : t.0 < next R₁
      then_used = rw made at one.used

      then_above : v < root N R₁ t.0
      then_above = rw made at one.above

      fits : Right N (make v t.0 e.0) R₂ v (λ a. xor (a v && value a R₂ t.0) (value a R₂ e.0))
      fits =
          make_right N R₂ l.live.sound v t.0 e.0 at.below (omega (arith, then_used, next_grows grown₂)) (rw made₂ at two.used)
          (rw (root, row_keeps N grown₂ t.0 then_used) then_above) (rw made₂ at two.above)

      pub make_asks : Indexed n₂ s₂ work₂
      make_asks = l.live.indexed

      pub sum_made : {r : Made} {s₃ : Slices} {work₃ : List ℕ} → Entered (make v t.0 e.0) r n₂ s₂ s₃ work₂ work₃ → Kept N (sum N f g) r c s s₃ work work₃
      sum_made m =
          kept_by steps (kept_then (λ t. sum N fe ge >>= make v t) keeps k (kept_then (make v t.0) (keeps_make v t.0) l (kept_made l.live m fits.appends fits.sound)))
