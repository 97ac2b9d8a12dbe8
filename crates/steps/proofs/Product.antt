-- The steps of the product.
use Prim.Native.Nat.{ℕ, zero, suc, ◌+◌, ◌<◌, ◌≤◌}
use mathlib.Core.Path.{◌≡◌, refl, sym, ◌∙◌}
use mathlib.Core.Bool.{Bool, true, false, ◌&&◌, xor}
use native.Mathlib.Omega.{arith}
use lib.Dec.{eqb}
use borrow.Author.Tests.{eqb-true, eqb-false, eq-eqb, ne_eqb, lt-ltb, le-ltb}
use Rattle.steps.specs.Rows.{Rows, next, Assignment, value, row}
use Rattle.steps.specs.Sound.{Sound}
use Rattle.steps.specs.Steps.{Steps, answer, ◌>>=◌, make, sum, products}
use Rattle.steps.proofs.Bools.{and_false, and_true, and_self, mul_parts}
use Rattle.steps.proofs.Compare.{Order, less, equal, greater, order}
use Rattle.steps.proofs.Ok.{Is, Ok, is_keeps, is_as, ok_as, ok_answer, ok_by, ok_bind, ok_make}
use Rattle.steps.proofs.Roots.{root_le, cut_absent}
use Rattle.steps.proofs.Rows.{◌≼◌, ≼_trans, value_0, value_1, row_keeps, Node, node, Cut}
use Rattle.steps.proofs.Sum.{sums_left_0, sums_right_0, part, ok_sums}

module _ (N : ℕ) where
  pub products_left_0 : (k g : ℕ) (S : Rows) → products N (suc k) 0 g S ≡ answer 0 S
  unfolding products
  products_left_0 k g S = refl

  pub products_left_1 : (k g : ℕ) (S : Rows) → products N (suc k) 1 g S ≡ answer g S
  unfolding products
  products_left_1 k g S = refl

  pub products_right_0 : (k f : ℕ) (S : Rows) → products N (suc k) f 0 S ≡ answer 0 S
  unfolding products
  products_right_0 k f S = go (eqb f 1) refl (eqb f 0) refl
    where
      go : (b : Bool) → eqb f 1 ≡ b → (c : Bool) → eqb f 0 ≡ c → products N (suc k) f 0 S ≡ answer 0 S
      go true e c q = rw (eqb-true f 1 e)
      go false e true q = rw (eqb-true f 0 q)
      go false e false q = rw (e, q, products)

  pub products_right_1 : (k f : ℕ) (S : Rows) → products N (suc k) f 1 S ≡ answer f S
  unfolding products
  products_right_1 k f S = go (eqb f 1) refl (eqb f 0) refl
    where
      go : (b : Bool) → eqb f 1 ≡ b → (c : Bool) → eqb f 0 ≡ c → products N (suc k) f 1 S ≡ answer f S
      go true e c q = rw (eqb-true f 1 e)
      go false e true q = rw (eqb-true f 0 q)
      go false e false q = rw (e, q, products)

  pub products_same : (k f : ℕ) (S : Rows) → products N (suc k) f f S ≡ answer f S
  unfolding products
  products_same k f S = go (eqb f 1) refl (eqb f 0) refl
    where
      go : (b : Bool) → eqb f 1 ≡ b → (c : Bool) → eqb f 0 ≡ c → products N (suc k) f f S ≡ answer f S
      go true e c q = rw (eqb-true f 1 e)
      go false e true q = rw (eqb-true f 0 q)
      go false e false q = rw (e, q, eq-eqb f f refl, products)

  module _ (f g : ℕ) (f1 : f ≡ 1 → ⊥) (f0 : f ≡ 0 → ⊥) (g0 : g ≡ 0 → ⊥) (g1 : g ≡ 1 → ⊥) (fg : f ≡ g → ⊥) where
    pub products_less : (k : ℕ) (S : Rows) → (row N S f).var < (row N S g).var → products N (suc k) f g S
        ≡ (products N k (row N S f).then_part g >>= λ t. products N k (row N S f).else_part g >>= make (row N S f).var t) S
    unfolding products
    products_less k S h = rw (ne_eqb f 1 f1, ne_eqb f 0 f0, ne_eqb g 0 g0, ne_eqb g 1 g1, ne_eqb f g fg, lt-ltb (row N S f).var (row N S g).var h, products)

    pub products_more : (k : ℕ) (S : Rows) → (row N S g).var < (row N S f).var → products N (suc k) f g S
        ≡ (products N k f (row N S g).then_part >>= λ t. products N k f (row N S g).else_part >>= make (row N S g).var t) S
    unfolding products
    products_more k S h = rw (
      ne_eqb f 1 f1,
      ne_eqb f 0 f0,
      ne_eqb g 0 g0,
      ne_eqb g 1 g1,
      ne_eqb f g fg,
      le-ltb (row N S f).var (row N S g).var (omega arith),
      lt-ltb (row N S g).var (row N S f).var h,
      products,
    )

  -- the step in one form, where the then-part of an absent variable is 0
  abbrev pub product_step : (k v h l h' l' : ℕ) → Steps
  product_step k v h l h' l' = do
    a ← products N k l h'
    b ← products N k h h'
    c ← products N k h l'
    d ← sum N a b
    t ← sum N d c
    e ← products N k l l'
    make v t e

  module _ (f g : ℕ) (f1 : f ≡ 1 → ⊥) (f0 : f ≡ 0 → ⊥) (g0 : g ≡ 0 → ⊥) (g1 : g ≡ 1 → ⊥) (fg : f ≡ g → ⊥) where
    pub products_both : (k : ℕ) (S : Rows) → (row N S f).var ≡ (row N S g).var → products N (suc k) f g S
        ≡ product_step k (row N S f).var (row N S f).then_part (row N S f).else_part (row N S g).then_part (row N S g).else_part S
    unfolding products
    products_both k S h = rw (
      ne_eqb f 1 f1,
      ne_eqb f 0 f0,
      ne_eqb g 0 g0,
      ne_eqb g 1 g1,
      ne_eqb f g fg,
      le-ltb (row N S f).var (row N S g).var (omega arith),
      le-ltb (row N S g).var (row N S f).var (omega arith),
      products,
    )

  pub absent_right : (k v h l g : ℕ) (S : Rows) → product_step (suc k) v h l 0 g S ≡ (products N (suc k) h g >>= λ t. products N (suc k) l g >>= make v t) S
  absent_right k v h l g S = simp (products_right_0, sums_left_0)

  pub absent_left : (k v f h l : ℕ) (S : Rows) → product_step (suc k) v 0 f h l S ≡ (products N (suc k) f h >>= λ t. products N (suc k) f l >>= make v t) S
  absent_left k v f h l S = simp (products_left_0, sums_right_0)

  data ProductCase (R : Rows) (low f g : ℕ) : Type 0 where
    left_1 : f ≡ 1 → ProductCase R low f g
    left_0 : f ≡ 0 → ProductCase R low f g
    right_0 : g ≡ 0 → ProductCase R low f g
    right_1 : g ≡ 1 → ProductCase R low f g
    same : f ≡ g → ProductCase R low f g
    step : (v h l h' l' : ℕ) → v < N → low ≤ v → Cut N R v f h l → Cut N R v g h' l'
        → ((k : ℕ) (S : Rows) → R ≼ S → products N (suc (suc k)) f g S ≡ product_step (suc k) v h l h' l' S) → ProductCase R low f g

  product_case : (R : Rows) → Sound N R → (low f g : ℕ) → f < next R → g < next R → low ≤ (row N R f).var → low ≤ (row N R g).var → ProductCase R low f g
  product_case R s low f g uf ug lf lg = go (eqb f 1) refl (eqb f 0) refl (eqb g 0) refl (eqb g 1) refl (eqb f g) refl
    where
      apart : (f ≡ 1 → ⊥) → (f ≡ 0 → ⊥) → (g ≡ 0 → ⊥) → (g ≡ 1 → ⊥) → (f ≡ g → ⊥) → Order (row N R f).var (row N R g).var → ProductCase R low f g
      apart f1 f0 g0 g1 fg o = which o
        where
          nf : Node N R f
          nf = node N R s f uf (omega arith)

          ng : Node N R g
          ng = node N R s g ug (omega arith)

          keep : {S : Rows} → R ≼ S → (row N S f ≡ row N R f) × (row N S g ≡ row N R g)
          keep q = (row_keeps N q f uf, row_keeps N q g ug)

          which : Order (row N R f).var (row N R g).var → ProductCase R low f g
          which (less h) =
              step (row N R f).var (row N R f).then_part (row N R f).else_part 0 g nf.var_below lf nf.cut (cut_absent N nf.var_below ug h)
              (λ k S q. rw (absent_right, ← (keep q).0) (products_less f g f1 f0 g0 g1 fg (suc k) S (rw ((keep q).0, (keep q).1) h)))
          which (greater h) =
              step (row N R g).var 0 f (row N R g).then_part (row N R g).else_part ng.var_below lg (cut_absent N ng.var_below uf h) ng.cut
              (λ k S q. rw (absent_left, ← (keep q).1) (products_more f g f1 f0 g0 g1 fg (suc k) S (rw ((keep q).0, (keep q).1) h)))
          which (equal h) =
              step (row N R f).var (row N R f).then_part (row N R f).else_part (row N R g).then_part (row N R g).else_part nf.var_below lf nf.cut (rw h ng.cut)
              (λ k S q. rw (← (keep q).0, ← (keep q).1) (products_both f g f1 f0 g0 g1 fg (suc k) S (rw ((keep q).0, (keep q).1) h)))

      go : (a : Bool) → eqb f 1 ≡ a → (b : Bool) → eqb f 0 ≡ b → (c : Bool) → eqb g 0 ≡ c → (d : Bool) → eqb g 1 ≡ d → (e : Bool) → eqb f g ≡ e → ProductCase R low f g
      go true x b y c z d u e w = left_1 (eqb-true f 1 x)
      go false x true y c z d u e w = left_0 (eqb-true f 0 y)
      go false x false y true z d u e w = right_0 (eqb-true g 0 z)
      go false x false y false z true u e w = right_1 (eqb-true g 1 u)
      go false x false y false z false u true w = same (eqb-true f g w)
      go false x false y false z false u false w =
          apart (eqb-false f 1 x) (eqb-false f 0 y) (eqb-false g 0 z) (eqb-false g 1 u) (eqb-false f g w) (order (row N R f).var (row N R g).var)

  -- the product's steps at fuel k, and at any other fuel that is enough
  abbrev pub ProductsOk : ℕ → Type 0
  ProductsOk k = (j : ℕ) (R : Rows) (low f g : ℕ) (p q : Assignment → Bool) → N < low + k → N < low + j → Sound N R → Is N R low p f → Is N R low q g
      → Ok N (products N k f g) (products N j f g) R low (λ a. p a && q a)

  -- the then-part of the step
  abbrev pub then_step : (k h l h' l' : ℕ) → Steps
  then_step k h l h' l' = products N k l h' >>= λ a. products N k h h' >>= λ b. products N k h l' >>= λ c. sum N a b >>= λ d. sum N d c

  pub then_step_ok : (k j : ℕ) → ProductsOk k → {R : Rows} {v f h l g h' l' : ℕ} → N < suc v + k → N < suc v + j → Sound N R → v < N → Cut N R v f h l → Cut N R v g h' l'
      → Ok N (then_step k h l h' l') (then_step j h l h' l') R (suc v) (λ a. xor (xor (value a R l && value a R h') (value a R h && value a R h')) (value a R h && value a R l'))
  then_step_ok k j ih {R} {v} {f} {h} {l} {g} {h'} {l'} d d' s b cf cg =
      let v₁ : Assignment → Bool = λ a. value a R h in
      let v₂ : Assignment → Bool = λ a. value a R l in
      let w₁ : Assignment → Bool = λ a. value a R h' in
      let w₂ : Assignment → Bool = λ a. value a R l' in
      let th = (part N cf).0 in
      let tl = (part N cf).1 in
      let uh = (part N cg).0 in
      let ul = (part N cg).1 in
      ok_bind N (ih j R (suc v) l h' v₂ w₁ d d' s tl uh) λ x₁ R₁ k₁ s₁ i₁.
      ok_bind N (ih j R₁ (suc v) h h' v₁ w₁ d d' s₁ (is_keeps N k₁ th) (is_keeps N k₁ uh)) λ x₂ R₂ k₂ s₂ i₂.
      let m₂ = ≼_trans k₁ k₂ in
      ok_bind N (ih j R₂ (suc v) h l' v₁ w₂ d d' s₂ (is_keeps N m₂ th) (is_keeps N m₂ ul)) λ x₃ R₃ k₃ s₃ i₃.
      ok_bind N (ok_sums N (suc N) (suc N) R₃ (suc v) x₁ x₂ _ _ (omega arith) (omega arith) s₃ (is_keeps N (≼_trans k₂ k₃) i₁) (is_keeps N k₃ i₂)) λ x₄ R₄ k₄ s₄ i₄.
      ok_sums N (suc N) (suc N) R₄ (suc v) x₄ x₃ _ _ (omega arith) (omega arith) s₄ i₄ (is_keeps N k₄ i₃)

  pub product_step_ok : (k j : ℕ) → ProductsOk k → {R : Rows} {v f h l g h' l' : ℕ} → N < suc v + k → N < suc v + j → Sound N R → v < N → Cut N R v f h l → Cut N R v g h' l'
      → Ok N (product_step k v h l h' l') (product_step j v h l h' l') R v (λ a. value a R f && value a R g)
  product_step_ok k j ih {R} {v} {f} {h} {l} {g} {h'} {l'} d d' s b cf cg =
      let tl = (part N cf).1 in
      let ul = (part N cg).1 in
      ok_as N (omega arith) (λ a. mul_parts (a v) (value a R h) (value a R l) (value a R h') (value a R l') ∙ rw (← cf.splits a, ← cg.splits a))
      (ok_bind N (then_step_ok k j ih d d' s b cf cg) λ t R₁ k₁ s₁ i₁.
      ok_bind N (ih j R₁ (suc v) l l' (λ a. value a R l) (λ a. value a R l') d d' s₁ (is_keeps N k₁ tl) (is_keeps N k₁ ul)) λ e R₂ k₂ s₂ i₂.
      ok_make N s₂ b (is_keeps N k₂ i₁) i₂)

  products_ok : (k j : ℕ) → ProductsOk k → (R : Rows) (low f g : ℕ) (p q : Assignment → Bool) → N < low + suc k → N < low + suc j → Sound N R → Is N R low p f → Is N R low q g
      → ProductCase R low f g → Ok N (products N (suc k) f g) (products N (suc j) f g) R low (λ a. p a && q a)
  products_ok k j ih R low f g p q d d' s i i' (left_1 e) =
      ok_by N (λ S h. rw e (products_left_1 k g S)) (λ S h. rw e (products_left_1 j g S)) (ok_answer N s (is_as N (omega arith) (λ a. rw (← i.means a, e, value_1 a R)) i'))
  products_ok k j ih R low f g p q d d' s i i' (left_0 e) =
      ok_by N (λ S h. rw e (products_left_0 k g S)) (λ S h. rw e (products_left_0 j g S)) (ok_answer N s (is_as N (omega arith) (λ a. rw (← i.means a, e, value_0 a R)) (rw e at i)))
  products_ok k j ih R low f g p q d d' s i i' (right_0 e) =
      ok_by N (λ S h. rw e (products_right_0 k f S)) (λ S h. rw e (products_right_0 j f S))
      (ok_answer N s (is_as N (omega arith) (λ a. rw (← i'.means a, e, value_0 a R) (sym (and_false (p a)))) (rw e at i')))
  products_ok k j ih R low f g p q d d' s i i' (right_1 e) =
      ok_by N (λ S h. rw e (products_right_1 k f S)) (λ S h. rw e (products_right_1 j f S)) (ok_answer N s (is_as N (omega arith) (λ a. rw (← i'.means a, e, value_1 a R) (sym (and_true (p a)))) i))
  products_ok k j ih R low f g p q d d' s i i' (same e) =
      ok_by N (λ S h. rw e (products_same k g S)) (λ S h. rw e (products_same j g S))
      (ok_answer N s (is_as N (omega arith) (λ a. rw (← i.means a, ← i'.means a, e) (sym (and_self (value a R g)))) i'))
  products_ok zero j ih R low f g p q d d' s i i' (step v h l h' l' b lv cf cg eq) = absurd (omega arith)
  products_ok (suc k) zero ih R low f g p q d d' s i i' (step v h l h' l' b lv cf cg eq) = absurd (omega arith)
  products_ok (suc k) (suc j) ih R low f g p q d d' s i i' (step v h l h' l' b lv cf cg eq) =
      ok_by N (eq k) (eq j) (ok_as N lv (λ a. rw (i.means a, i'.means a)) (product_step_ok (suc k) (suc j) ih (omega arith) (omega arith) s b cf cg))

  pub ok_products : (k : ℕ) → ProductsOk k
  ok_products zero j R low f g p q d d' s i i' = absurd (let h = root_le N R s f i.used in let g = i.above in omega arith)
  ok_products (suc k) zero R low f g p q d d' s i i' = absurd (let h = root_le N R s f i.used in let g = i.above in omega arith)
  ok_products (suc k) (suc j) R low f g p q d d' s i i' =
      products_ok k j (ok_products k) R low f g p q d d' s i i' (product_case R s low f g i.used i'.used i.above i'.above)
