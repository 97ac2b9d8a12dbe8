-- Two numbers taken apart at the lesser of their roots: what their parts are, and that the sum's steps go by them.
use Prim.Native.Nat.{ℕ, ◌<◌, min}
use mathlib.Core.Path.{◌≡◌, sym, subst, ◌∙◌}
use native.Mathlib.Omega.{arith}
use native.Mathlib.Nat.{le-min, min-eq_left, min-eq_right}
use Rattle.steps.specs.Rows.{Row, row_of, Rows, next, row, root}
use Rattle.steps.specs.Sound.{Sound}
use Rattle.steps.specs.Steps.{◌>>=◌, make, sum}
use Rattle.steps.proofs.Rows.{node, next_2, row_const}
use Rattle.steps.proofs.Compare.{Kind, const, inner, kind}
use Rattle.steps.proofs.Roots.{root_le, node_below}
use Rattle.steps.proofs.Sum.{sums_left_0, sums_right_0}
use Rattle.steps.proofs.Laws.{sum_less, sum_more, sum_both}
use Rattle.sums.specs.Inner.{Apart, depth, Split, less, more, both}

min_left : {a b : ℕ} → a < b → min a b ≡ a
min_left h = min-eq_left (omega arith)

min_right : {a b : ℕ} → b < a → min a b ≡ b
min_right h = min-eq_right (omega arith)

min_same : {a b : ℕ} → a ≡ b → min a b ≡ a
min_same h = min-eq_left (omega arith)

-- the parts are numbers in use whose roots lie behind v, which is the lesser root
pub record At (N : ℕ) (R : Rows) (f g v ft gt fe ge : ℕ) : Type 0 where
  pub below : v < N
  pub lesser : min (root N R f) (root N R g) ≡ v
  pub ft_used : ft < next R
  pub gt_used : gt < next R
  pub fe_used : fe < next R
  pub ge_used : ge < next R
  pub ft_above : v < root N R ft
  pub gt_above : v < root N R gt
  pub fe_above : v < root N R fe
  pub ge_above : v < root N R ge

module _ (N : ℕ) (R : Rows) (s : Sound N R) (f g : ℕ) (uf : f < next R) (ug : g < next R) (a : Apart f g) where
  zero_used : 0 < next R
  zero_used = omega (arith, next_2 R)

  zero_above : (v : ℕ) → v < N → v < root N R 0
  zero_above v h = rw (root, row_const N R 0 (omega arith)) h

  meet : root N R f ≡ root N R g → Kind f → Kind g → root N R f < N
  meet h (inner i) j = (node N R s f uf i).var_below
  meet h (const i) (inner j) = let b = (node N R s g ug j).var_below in omega arith
  meet h (const i) (const j) = absurd (a.two (omega (arith, a.left, a.right)))

  pub split_at : {v ft gt fe ge : ℕ} → Split N R f g v ft gt fe ge → At N R f g v ft gt fe ge
  split_at (less h) =
      let b : root N R f < N = omega (arith, root_le N R s g ug) in
      let c = (node_below N s f uf b).cut in
      record {
        below = b;
        lesser = min_left h;
        ft_used = c.then_used;
        gt_used = zero_used;
        fe_used = c.else_used;
        ge_used = ug;
        ft_above = c.then_above;
        gt_above = zero_above _ b;
        fe_above = c.else_above;
        ge_above = h;
      }
  split_at (more h) =
      let b : root N R g < N = omega (arith, root_le N R s f uf) in
      let c = (node_below N s g ug b).cut in
      record {
        below = b;
        lesser = min_right h;
        ft_used = zero_used;
        gt_used = c.then_used;
        fe_used = uf;
        ge_used = c.else_used;
        ft_above = zero_above _ b;
        gt_above = c.then_above;
        fe_above = h;
        ge_above = c.else_above;
      }
  split_at (both h) =
      let b = meet h (kind f) (kind g) in
      let c = (node_below N s f uf b).cut in
      let d = (node_below N s g ug (rw h at b)).cut in
      record {
        below = b;
        lesser = min_same h;
        ft_used = c.then_used;
        gt_used = d.then_used;
        fe_used = c.else_used;
        ge_used = d.else_used;
        ft_above = c.then_above;
        gt_above = rw h d.then_above;
        fe_above = c.else_above;
        ge_above = rw h d.else_above;
      }

  -- the sum's steps in one form
  pub split_sum : {v ft gt fe ge : ℕ} → Split N R f g v ft gt fe ge → sum N f g R ≡ (sum N ft gt >>= λ t. sum N fe ge >>= make v t) R
  split_sum (less h) = sum_less N R s f g uf ug a.left a.right a.two h ∙ sym (rw (sums_right_0 N N (row N R f).then_part R))
  split_sum (more h) = sum_more N R s f g uf ug a.left a.right a.two h ∙ sym (rw (sums_left_0 N N (row N R g).then_part R))
  split_sum (both h) = sum_both N R s f g uf ug a.left a.right a.two (meet h (kind f) (kind g)) h

-- parts lie deeper
pub deeper : (N : ℕ) (R S : Rows) (f g v x y : ℕ) → min (root N R f) (root N R g) ≡ v → v < N → v < root N S x → v < root N S y → depth N S x y < depth N R f g
deeper N R S f g v x y e h p q = omega (arith, le-min p q)

-- the three ways, as the rows were read
module _ (N : ℕ) (R : Rows) (f g : ℕ) {v t e v' t' e' : ℕ} (rf : row N R f ≡ row_of v t e) (rg : row N R g ≡ row_of v' t' e') where
  pub is_less : v < v' → Split N R f g v t 0 e g
  is_less h = subst (λ (r : Row). Split N R f g r.var r.then_part 0 r.else_part g) rf (less (rw (root, rf, rg) h))

  pub is_more : v' < v → Split N R f g v' 0 t' f e'
  is_more h = subst (λ (r : Row). Split N R f g r.var 0 r.then_part f r.else_part) rg (more (rw (root, rf, rg) h))

  pub is_both : v ≡ v' → Split N R f g v t t' e e'
  is_both h =
      let p : Split N R f g v t (row N R g).then_part e (row N R g).else_part = subst (λ (r : Row). Split N R f g r.var r.then_part (row N R g).then_part r.else_part (row N R g).else_part) rf (both (rw (root, rf, rg) h)) in
      subst (λ (r : Row). Split N R f g v t r.then_part e r.else_part) rg p
