-- The product's steps go by the parts of its operands at the lesser root.
use Prim.Native.Nat.{ℕ, suc, ◌<◌}
use mathlib.Core.Path.{◌≡◌, sym, ◌∙◌}
use mathlib.Core.Bool.{◌&&◌, xor}
use native.Mathlib.Omega.{arith}
use Rattle.steps.specs.Rows.{Rows, next, row, value}
use Rattle.steps.specs.Sound.{Sound}
use Rattle.steps.specs.Steps.{answer, ◌>>=◌, make, product}
use Rattle.steps.proofs.Rows.{Cut, node}
use Rattle.steps.proofs.Roots.{cut_absent}
use Rattle.steps.proofs.Product.{ok_products, then_step_ok, absent_right, absent_left, products_left_0, products_left_1, products_right_0, products_right_1, products_same}
use Rattle.steps.proofs.Sum.{sums_left_0, sums_right_0}
use Rattle.steps.proofs.Laws.{product_less, product_more, product_both}
use Rattle.steps.proofs.Theorems.{Right, right}
use Rattle.sums.specs.Inner.{Apart, Split, less, more, both}
use Rattle.sums.proofs.Splits.{split_at}
use Rattle.products.specs.Inner.{Proper, then_steps}

module _ (N : ℕ) (R : Rows) (f g : ℕ) where
  pub product_left_1 : f ≡ 1 → product N f g R ≡ answer g R
  product_left_1 e = rw e (products_left_1 N N g R)

  pub product_left_0 : f ≡ 0 → product N f g R ≡ answer 0 R
  product_left_0 e = rw e (products_left_0 N N g R)

  pub product_right_0 : g ≡ 0 → product N f g R ≡ answer 0 R
  product_right_0 e = rw e (products_right_0 N N f R)

  pub product_right_1 : g ≡ 1 → product N f g R ≡ answer f R
  product_right_1 e = rw e (products_right_1 N N f R)

  pub product_same : f ≡ g → product N f g R ≡ answer f R
  product_same e = rw e (products_same N N g R)

-- where the then-part of one operand is 0, the other's is multiplied and nothing is summed
module _ (N : ℕ) (R : Rows) (ft fe gt ge : ℕ) where
  pub then_second : gt ≡ 0 → then_steps N ft fe gt ge R ≡ product N ft ge R
  then_second e = rw e (simp (products_right_0, sums_left_0))

  pub then_first : ft ≡ 0 → then_steps N ft fe gt ge R ≡ product N fe gt R
  then_first e = rw e (simp (products_left_0, sums_right_0))

pub apart : {f g : ℕ} → Proper f g → Apart f g
apart a = record { left = a.left_0; right = a.right_0; two = a.two }

module _ (N : ℕ) (R : Rows) (s : Sound N R) (f g : ℕ) (uf : f < next R) (ug : g < next R) (a : Proper f g) where
  pub split_product : {v ft gt fe ge : ℕ} → Split N R f g v ft gt fe ge → product N f g R ≡ (then_steps N ft fe gt ge >>= λ t. product N fe ge >>= make v t) R
  split_product (less h) =
      product_less N R s f g uf ug a.left_1 a.left_0 a.right_0 a.right_1 a.two h ∙ sym (absent_right N N (row N R f).var (row N R f).then_part (row N R f).else_part g R)
  split_product (more h) =
      product_more N R s f g uf ug a.left_1 a.left_0 a.right_0 a.right_1 a.two h ∙ sym (absent_left N N (row N R g).var f (row N R g).then_part (row N R g).else_part R)
  split_product (both h) = product_both N R s f g uf ug a.left_1 a.left_0 a.right_0 a.right_1 a.two h

  cuts : {v ft gt fe ge : ℕ} → Split N R f g v ft gt fe ge → Cut N R v f ft fe × Cut N R v g gt ge
  cuts (less h) = ((node N R s f uf (omega (arith, a.left_0, a.left_1))).cut, cut_absent N (node N R s f uf (omega (arith, a.left_0, a.left_1))).var_below ug h)
  cuts (more h) = (cut_absent N (node N R s g ug (omega (arith, a.right_0, a.right_1))).var_below uf h, (node N R s g ug (omega (arith, a.right_0, a.right_1))).cut)
  cuts (both h) = ((node N R s f uf (omega (arith, a.left_0, a.left_1))).cut, rw h (node N R s g ug (omega (arith, a.right_0, a.right_1))).cut)

  -- what the then-part's steps answer has its root behind v
  pub then_right : {v ft gt fe ge : ℕ} → Split N R f g v ft gt fe ge
      → Right N (then_steps N ft fe gt ge) R (suc v) (λ a. xor (xor (value a R fe && value a R gt) (value a R ft && value a R gt)) (value a R ft && value a R ge))
  then_right p =
      let at = split_at N R s f g uf ug (apart a) p in
      let c = cuts p in
      right (then_step_ok N (suc N) (suc N) (ok_products N (suc N)) (omega arith) (omega arith) s at.below c.0 c.1)
