-- The steps with no depth in sight: one step at a time, as the code takes them.
use Prim.Native.Nat.{ℕ, suc, ◌<◌, ◌≤◌}
use mathlib.Core.Path.{◌≡◌, refl, sym, ◌∙◌}
use mathlib.Core.Bool.{Bool, ◌&&◌, xor}
use native.Mathlib.Omega.{arith}
use Rattle.steps.specs.Rows.{Rows, next, Assignment, value, row}
use Rattle.steps.specs.Sound.{Sound}
use Rattle.steps.specs.Steps.{Steps, ◌>>=◌, make, sum, products, product, normal}
use Rattle.steps.proofs.Normal.{rest, ok_normals, below_step, below_ok, normal_step, meet_ok, normals_above, normals_below, normals_equal}
use Rattle.steps.proofs.Ok.{Is, Ok, is_keeps}
use Rattle.steps.proofs.Product.{ok_products, product_step, product_step_ok, products_less, products_more, products_both}
use Rattle.steps.proofs.Roots.{root_le, node_below}
use Rattle.steps.proofs.Rows.{◌≼◌, node, Cut}
use Rattle.steps.proofs.Solve.{solve}
use Rattle.steps.proofs.Sum.{part, sum_step, sum_step_ok, ok_sums, sums_less, sums_more, sums_both}

module _ (N : ℕ) where
  -- two programs that are Ok together answer the same
  pub ok_same : {m m' : Steps} {R : Rows} {low : ℕ} {p : Assignment → Bool} → Ok N m m' R low p → m R ≡ m' R
  ok_same o = o.runs ∙ sym o.twin

  same_bind : {m m' : Steps} {f f' : ℕ → Steps} {R : Rows} {low : ℕ} {p : Assignment → Bool} → Ok N m m' R low p
      → ((x : ℕ) (S : Rows) → R ≼ S → Sound N S → Is N S low p x → f x S ≡ f' x S) → (m >>= f) R ≡ (m' >>= f') R
  same_bind o go_on = rw (o.runs, o.twin) (go_on o.num o.rows o.keeps o.sound o.is)

  pub itself : (R : Rows) (k low : ℕ) → k < next R → low ≤ (row N R k).var → Is N R low (λ a. value a R k) k
  itself R k low u h = record { used = u; above = h; means = λ a. refl }

  module _ (R : Rows) (s : Sound N R) (f g : ℕ) (uf : f < next R) (ug : g < next R) where
    pub sum_ok : (low : ℕ) → low ≤ (row N R f).var → low ≤ (row N R g).var → Ok N (sum N f g) (sum N f g) R low (λ a. xor (value a R f) (value a R g))
    sum_ok low lf lg = ok_sums N (suc N) (suc N) R low f g _ _ (omega arith) (omega arith) s (itself R f low uf lf) (itself R g low ug lg)

    pub product_ok : (low : ℕ) → low ≤ (row N R f).var → low ≤ (row N R g).var → Ok N (product N f g) (product N f g) R low (λ a. value a R f && value a R g)
    product_ok low lf lg = ok_products N (suc N) (suc N) R low f g _ _ (omega arith) (omega arith) s (itself R f low uf lf) (itself R g low ug lg)

    pub normal_ok : (low : ℕ) → low ≤ (row N R f).var → low ≤ (row N R g).var → (g ≡ 0 → ⊥) → Ok N (normal N f g) (normal N f g) R low (λ a. value (solve R g a) R f)
    normal_ok low lf lg g0 = ok_normals N (suc N) (suc N) R low f g (λ a. value a R f) (solve R g) (omega arith) (omega arith) s (itself R f low uf lf)
        (record { used = ug; above = lg; not_0 = g0; solves = λ a. refl })

    module _ (hf : f ≡ 0 → ⊥) (hg : g ≡ 0 → ⊥) (hfg : f ≡ g → ⊥) where
      pub sum_less : (row N R f).var < (row N R g).var → sum N f g R ≡ (sum N (row N R f).else_part g >>= make (row N R f).var (row N R f).then_part) R
      sum_less h =
          let n = node_below N s f uf (let z = root_le N R s g ug in omega arith) in
          sums_less N f g hf hg hfg N R h
          ∙ rw (ok_same (ok_sums N N (suc N) R (suc (row N R f).var) (row N R f).else_part g _ _ (omega arith) (omega arith) s (part N n.cut).1 (itself R g (suc (row N R f).var) ug h)))

      pub sum_more : (row N R g).var < (row N R f).var → sum N f g R ≡ (sum N f (row N R g).else_part >>= make (row N R g).var (row N R g).then_part) R
      sum_more h =
          let n = node_below N s g ug (let z = root_le N R s f uf in omega arith) in
          sums_more N f g hf hg hfg N R h
          ∙ rw (ok_same (ok_sums N N (suc N) R (suc (row N R g).var) f (row N R g).else_part _ _ (omega arith) (omega arith) s (itself R f (suc (row N R g).var) uf h) (part N n.cut).1))

      pub sum_both : (row N R f).var < N → (row N R f).var ≡ (row N R g).var → sum N f g R ≡ sum_step N (suc N) (row N R f).var (row N R f).then_part (row N R f).else_part (row N R g).then_part (row N R g).else_part R
      sum_both b h =
          let c : Cut N R (row N R f).var g (row N R g).then_part (row N R g).else_part = rw h (node_below N s g ug (omega arith)).cut in
          sums_both N f g hf hg hfg N R h ∙ ok_same (sum_step_ok N N (suc N) (ok_sums N N) (omega arith) (omega arith) s b (node_below N s f uf b).cut c)

    module _ (f1 : f ≡ 1 → ⊥) (f0 : f ≡ 0 → ⊥) (g0 : g ≡ 0 → ⊥) (g1 : g ≡ 1 → ⊥) (fg : f ≡ g → ⊥) where
      pub product_less : (row N R f).var < (row N R g).var → product N f g R ≡ (product N (row N R f).then_part g >>= λ t. product N (row N R f).else_part g >>= make (row N R f).var t) R
      product_less h =
          let n = node N R s f uf (omega arith) in
          let v = (row N R f).var in
          let b = n.var_below in
          products_less N f g f1 f0 g0 g1 fg N R h ∙ same_bind {f = λ t. products N N (row N R f).else_part g >>= make v t} {f' = λ t. product N (row N R f).else_part g >>= make v t}
          (ok_products N N (suc N) R (suc v) (row N R f).then_part g _ _ (omega arith) (omega arith) s (part N n.cut).0 (itself R g (suc v) ug h)) λ t S q w i.
          rw (ok_same (ok_products N N (suc N) S (suc v) (row N R f).else_part g _ _ (omega arith) (omega arith) w (is_keeps N q (part N n.cut).1) (is_keeps N q (itself R g (suc v) ug h))))

      pub product_more : (row N R g).var < (row N R f).var → product N f g R ≡ (product N f (row N R g).then_part >>= λ t. product N f (row N R g).else_part >>= make (row N R g).var t) R
      product_more h =
          let n = node N R s g ug (omega arith) in
          let v = (row N R g).var in
          let b = n.var_below in
          products_more N f g f1 f0 g0 g1 fg N R h ∙ same_bind {f = λ t. products N N f (row N R g).else_part >>= make v t} {f' = λ t. product N f (row N R g).else_part >>= make v t}
          (ok_products N N (suc N) R (suc v) f (row N R g).then_part _ _ (omega arith) (omega arith) s (itself R f (suc v) uf h) (part N n.cut).0) λ t S q w i.
          rw (ok_same (ok_products N N (suc N) S (suc v) f (row N R g).else_part _ _ (omega arith) (omega arith) w (is_keeps N q (itself R f (suc v) uf h)) (is_keeps N q (part N n.cut).1)))

      pub product_both : (row N R f).var ≡ (row N R g).var
          → product N f g R ≡ product_step N (suc N) (row N R f).var (row N R f).then_part (row N R f).else_part (row N R g).then_part (row N R g).else_part R
      product_both h =
          let n = node N R s f uf (omega arith) in
          let c : Cut N R (row N R f).var g (row N R g).then_part (row N R g).else_part = rw h (node N R s g ug (omega arith)).cut in
          let b = n.var_below in
          products_both N f g f1 f0 g0 g1 fg N R h ∙ ok_same (product_step_ok N N (suc N) (ok_products N N) (omega arith) (omega arith) s b n.cut c)

    -- g is the system
    module _ (g0 : g ≡ 0 → ⊥) (g1 : g ≡ 1 → ⊥) (f2 : 2 ≤ f) where
      pub normal_above : (row N R g).var < (row N R f).var → normal N f g R ≡ normal N f (row N R g).then_part R
      normal_above h =
          let n = node N R s g ug (omega arith) in
          let b = n.var_below in
          normals_above N f g g1 f2 N R h ∙ ok_same (ok_normals N N (suc N) R (suc (row N R g).var) f (row N R g).then_part _ _ (omega arith) (omega arith) s (itself R f _ uf h) (rest N R g n))

      pub normal_below : (row N R f).var < (row N R g).var → normal N f g R ≡ below_step N (suc N) (row N R f).var (row N R f).then_part (row N R f).else_part g R
      normal_below h =
          let n = node N R s f uf f2 in
          let b = n.var_below in
          normals_below N f g g1 f2 N R h ∙ ok_same (below_ok N N (suc N) (ok_normals N N) (omega arith) (omega arith) s ug g0 n h)

      pub normal_equal : (row N R f).var ≡ (row N R g).var → normal N f g R ≡ normal_step N (suc N) (row N R f).then_part (row N R f).else_part (row N R g).then_part (row N R g).else_part R
      normal_equal h =
          let n = node N R s f uf f2 in
          let m = node N R s g ug (omega arith) in
          let b = m.var_below in
          normals_equal N f g g1 f2 N R h ∙ ok_same (meet_ok N N (suc N) (ok_normals N N) (omega arith) (omega arith) s ug n m h)
