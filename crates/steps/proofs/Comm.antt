-- A sum does the same steps either way round.
use Prim.Native.Nat.{ℕ, zero, suc}
use mathlib.Core.Path.{◌≡◌, refl, sym, ◌∙◌}
use mathlib.Core.Bool.{Bool, true, false}
use lib.Dec.{eqb}
use borrow.Author.Tests.{eqb-true, eqb-false}
use Rattle.steps.specs.Rows.{Rows, row}
use Rattle.steps.specs.Steps.{sums}
use Rattle.steps.proofs.Compare.{Order, less, equal, greater, order}
use Rattle.steps.proofs.Sum.{sums_left_0, sums_right_0, sums_less, sums_more, sums_both}

module _ (N : ℕ) where
  pub sums_comm : (k f g : ℕ) (R : Rows) → sums N k f g R ≡ sums N k g f R
  sums_comm zero f g R = unfold sums in refl
  sums_comm (suc k) f g R = go (eqb f 0) refl (eqb g 0) refl (eqb f g) refl (sums_comm k)
    where
      Goal : Type 0
      Goal = sums N (suc k) f g R ≡ sums N (suc k) g f R

      apart : (f ≡ 0 → ⊥) → (g ≡ 0 → ⊥) → (f ≡ g → ⊥) → (g ≡ f → ⊥) → Order (row N R f).var (row N R g).var → ((f g : ℕ) (R : Rows) → sums N k f g R ≡ sums N k g f R) → Goal
      apart f0 g0 fg gf (less h) ih = sums_less N f g f0 g0 fg k R h ∙ rw (ih (row N R f).else_part g R) (sym (sums_more N g f g0 f0 gf k R h))
      apart f0 g0 fg gf (greater h) ih = sums_more N f g f0 g0 fg k R h ∙ rw (ih f (row N R g).else_part R) (sym (sums_less N g f g0 f0 gf k R h))
      apart f0 g0 fg gf (equal h) ih = sums_both N f g f0 g0 fg k R h
          ∙ rw (ih (row N R f).then_part (row N R g).then_part R, ih (row N R f).else_part (row N R g).else_part (sums N k (row N R g).then_part (row N R f).then_part R).rows, h) (sym (sums_both N g f g0 f0 gf k R (sym h)))

      go : (a : Bool) → eqb f 0 ≡ a → (b : Bool) → eqb g 0 ≡ b → (c : Bool) → eqb f g ≡ c → ((f g : ℕ) (R : Rows) → sums N k f g R ≡ sums N k g f R) → Goal
      go true x b y c z ih = rw (eqb-true f 0 x) (sums_left_0 N k g R ∙ sym (sums_right_0 N k g R))
      go false x true y c z ih = rw (eqb-true g 0 y) (sums_right_0 N k f R ∙ sym (sums_left_0 N k f R))
      go false x false y true z ih = rw (eqb-true f g z)
      go false x false y false z ih = apart (eqb-false f 0 x) (eqb-false g 0 y) (eqb-false f g z) (λ q. eqb-false f g z (sym q)) (order (row N R f).var (row N R g).var) ih
