-- The steps of the normal form.
use Prim.Native.Nat.{ℕ, zero, suc, ◌+◌, ◌<◌, ◌≤◌}
use mathlib.Core.Path.{◌≡◌, refl, sym, ◌∙◌}
use mathlib.Core.Bool.{Bool, true, false, ◌&&◌, xor}
use native.Mathlib.Omega.{arith}
use lib.Dec.{eqb, ltb}
use borrow.Author.Tests.{eqb-true, eqb-false, ne_eqb, ltb-true, ltb-false, lt-ltb, le-ltb}
use Rattle.steps.specs.One.{put}
use Rattle.steps.specs.Rows.{Rows, next, Assignment, value, row}
use Rattle.steps.specs.Sound.{Sound}
use Rattle.steps.specs.Steps.{Steps, answer, ◌>>=◌, make, sum, product, normals}
use Rattle.steps.proofs.Compare.{Order, less, equal, greater, order}
use Rattle.steps.proofs.Ok.{Is, Ok, is_keeps, is_as, ok_as, ok_answer, ok_by, ok_bind, ok_make}
use Rattle.steps.proofs.Product.{ok_products}
use Rattle.steps.proofs.Put.{put_same, value_put}
use Rattle.steps.proofs.Roots.{root_le}
use Rattle.steps.proofs.Rows.{◌≼◌, ≼_trans, next_grows, value_0, value_1, row_keeps, Node, node}
use Rattle.steps.proofs.Solve.{solve, solve_keeps, solve_const, solve_node, solve_below}
use Rattle.steps.proofs.Sum.{part, ok_sums}

-- s is a system that makes σ a of a
pub record Sys (N : ℕ) (R : Rows) (low : ℕ) (σ : Assignment → Assignment) (s : ℕ) : Type 0 where
  pub used : s < next R
  pub above : low ≤ (row N R s).var
  pub not_0 : s ≡ 0 → ⊥
  pub solves : (a : Assignment) → solve R s a ≡ σ a

module _ (N : ℕ) where
  pub sys_keeps : {R S : Rows} → R ≼ S → {low s : ℕ} {σ : Assignment → Assignment} → Sys N R low σ s → Sys N S low σ s
  sys_keeps q {low} {s} i = record {
    used = let u = i.used in let g = next_grows q in omega arith;
    above = rw (row_keeps N q s i.used) i.above;
    not_0 = i.not_0;
    solves = λ a. solve_keeps q s i.used a ∙ i.solves a;
  }

  pub normals_1 : (k p : ℕ) (S : Rows) → normals N (suc k) p 1 S ≡ answer p S
  unfolding normals
  normals_1 k p S = refl

  pub normals_const : (k p s : ℕ) (S : Rows) → p < 2 → normals N (suc k) p s S ≡ answer p S
  unfolding normals
  normals_const k p s S h = go (eqb s 1) refl
    where
      go : (b : Bool) → eqb s 1 ≡ b → normals N (suc k) p s S ≡ answer p S
      go true e = rw (e, normals)
      go false e = rw (e, lt-ltb p 2 h, normals)

  module _ (p s : ℕ) (s1 : s ≡ 1 → ⊥) (p2 : 2 ≤ p) where
    pub normals_above : (k : ℕ) (S : Rows) → (row N S s).var < (row N S p).var → normals N (suc k) p s S ≡ normals N k p (row N S s).then_part S
    unfolding normals
    normals_above k S h = rw (ne_eqb s 1 s1, le-ltb p 2 p2, lt-ltb (row N S s).var (row N S p).var h, normals)

    pub normals_below : (k : ℕ) (S : Rows) → (row N S p).var < (row N S s).var → normals N (suc k) p s S
        ≡ (normals N k (row N S p).then_part s >>= λ t. normals N k (row N S p).else_part s >>= make (row N S p).var t) S
    unfolding normals
    normals_below k S h = rw (ne_eqb s 1 s1, le-ltb p 2 p2, le-ltb (row N S s).var (row N S p).var (omega arith), lt-ltb (row N S p).var (row N S s).var h, normals)

  abbrev pub normal_step : (k ps pt pe ss : ℕ) → Steps
  normal_step k h l t u = do
    a ← normals N k u t
    b ← normals N k h t
    c ← normals N k l t
    d ← product N a b
    sum N d c

  module _ (p s : ℕ) (s1 : s ≡ 1 → ⊥) (p2 : 2 ≤ p) where
    pub normals_equal : (k : ℕ) (S : Rows) → (row N S p).var ≡ (row N S s).var → normals N (suc k) p s S
        ≡ normal_step k (row N S p).then_part (row N S p).else_part (row N S s).then_part (row N S s).else_part S
    unfolding normals
    normals_equal k S h = rw (ne_eqb s 1 s1, le-ltb p 2 p2, le-ltb (row N S s).var (row N S p).var (omega arith), le-ltb (row N S p).var (row N S s).var (omega arith), normals)

  data NormalCase (R : Rows) (p s : ℕ) : Type 0 where
    empty : s ≡ 1 → NormalCase R p s
    const : p < 2 → NormalCase R p s
    above : Node N R s → (row N R s).var < (row N R p).var
        → ((k : ℕ) (S : Rows) → R ≼ S → normals N (suc k) p s S ≡ normals N k p (row N R s).then_part S) → NormalCase R p s
    below : Node N R p → (row N R p).var < (row N R s).var
        → ((k : ℕ) (S : Rows) → R ≼ S → normals N (suc k) p s S ≡ (normals N k (row N R p).then_part s >>= λ t. normals N k (row N R p).else_part s >>= make (row N R p).var t) S) → NormalCase R p s
    meet : Node N R p → Node N R s → (row N R p).var ≡ (row N R s).var
        → ((k : ℕ) (S : Rows) → R ≼ S → normals N (suc k) p s S ≡ normal_step k (row N R p).then_part (row N R p).else_part (row N R s).then_part (row N R s).else_part S) → NormalCase R p s

  normal_case : (R : Rows) → Sound N R → (p s : ℕ) → p < next R → s < next R → (s ≡ 0 → ⊥) → NormalCase R p s
  normal_case R w p s up us s0 = go (eqb s 1) refl (ltb p 2) refl
    where
      keep : {S : Rows} → R ≼ S → (row N S p ≡ row N R p) × (row N S s ≡ row N R s)
      keep q = (row_keeps N q p up, row_keeps N q s us)

      inner : (s ≡ 1 → ⊥) → 2 ≤ p → Order (row N R p).var (row N R s).var → NormalCase R p s
      inner s1 p2 (less h) = below (node N R w p up p2) h (λ k S q. rw (← (keep q).0) (normals_below p s s1 p2 k S (rw ((keep q).0, (keep q).1) h)))
      inner s1 p2 (greater h) = above (node N R w s us (omega arith)) h (λ k S q. rw (← (keep q).1) (normals_above p s s1 p2 k S (rw ((keep q).0, (keep q).1) h)))
      inner s1 p2 (equal h) = meet (node N R w p up p2) (node N R w s us (omega arith)) h (λ k S q. rw (← (keep q).0, ← (keep q).1) (normals_equal p s s1 p2 k S (rw ((keep q).0, (keep q).1) h)))

      go : (a : Bool) → eqb s 1 ≡ a → (b : Bool) → ltb p 2 ≡ b → NormalCase R p s
      go true x b y = empty (eqb-true s 1 x)
      go false x true y = const (let z = ltb-true p 2 y in omega arith)
      go false x false y = inner (eqb-false s 1 x) (ltb-false p 2 y) (order (row N R p).var (row N R s).var)

  value_const : (R : Rows) (k : ℕ) → k < 2 → (a b : Assignment) → value a R k ≡ value b R k
  value_const R zero h a b = value_0 a R ∙ sym (value_0 b R)
  value_const R (suc zero) h a b = value_1 a R ∙ sym (value_1 b R)
  value_const R (suc (suc k)) h a b = absurd (omega arith)

  abbrev pub NormalsOk : ℕ → Type 0
  NormalsOk k = (j : ℕ) (R : Rows) (low f s : ℕ) (p : Assignment → Bool) (σ : Assignment → Assignment) → N < low + k → N < low + j → Sound N R → Is N R low p f → Sys N R low σ s
      → Ok N (normals N k f s) (normals N j f s) R low (λ a. p (σ a))

  -- the system of the other equations
  pub rest : (R : Rows) (s : ℕ) → Node N R s → Sys N R (suc (row N R s).var) (solve R (row N R s).then_part) (row N R s).then_part
  rest R s n = record { used = n.cut.then_used; above = n.cut.then_above; not_0 = n.then_not_0; solves = λ a. refl }

  meet_means : (R : Rows) → Sound N R → (f s : ℕ) → s < next R → Node N R f → Node N R s → (row N R f).var ≡ (row N R s).var → (a : Assignment)
      → xor (value (solve R (row N R s).then_part a) R (row N R s).else_part && value (solve R (row N R s).then_part a) R (row N R f).then_part) (value (solve R (row N R s).then_part a) R (row N R f).else_part)
      ≡ value (solve R s a) R f
  meet_means R w f s us n m h a =
      let v = (row N R s).var in
      let b = solve R (row N R s).then_part a in
      let c = value b R (row N R s).else_part in
      let x : v < (row N R (row N R f).then_part).var = rw h at n.cut.then_above in
      let y : v < (row N R (row N R f).else_part).var = rw h at n.cut.else_above in
      sym (rw (
        solve_node N R w s us m.inner a,
        n.cut.splits (put b v c),
        h,
        put_same b v c,
        value_put N R w (row N R f).then_part n.cut.then_used b v c x,
        value_put N R w (row N R f).else_part n.cut.else_used b v c y,
      ))

  abbrev pub below_step : (k v h l s : ℕ) → Steps
  below_step k v h l s = normals N k h s >>= λ t. normals N k l s >>= make v t

  pub below_ok : (k j : ℕ) → NormalsOk k → {R : Rows} {f s : ℕ} → N < suc (row N R f).var + k → N < suc (row N R f).var + j → Sound N R → s < next R → (s ≡ 0 → ⊥) → Node N R f
      → (row N R f).var < (row N R s).var → Ok N (below_step k (row N R f).var (row N R f).then_part (row N R f).else_part s) (below_step j (row N R f).var (row N R f).then_part (row N R f).else_part s) R (row N R f).var
      (λ a. value (solve R s a) R f)
  below_ok k j ih {R} {f} {s} d d' w us s0 n h =
      let v = (row N R f).var in
      let h₁ = (row N R f).then_part in
      let l₁ = (row N R f).else_part in
      let c = part N n.cut in
      let y : Sys N R (suc v) (solve R s) s = record { used = us; above = h; not_0 = s0; solves = λ a. refl } in
      ok_as N (omega arith) (λ a. (rw (← solve_below N R w s us a v h) (sym (n.cut.splits (solve R s a)))))
      (ok_bind N (ih j R (suc v) h₁ s (λ a. value a R h₁) (solve R s) d d' w c.0 y) λ t S q₁ s₁ i₁.
      ok_bind N (ih j S (suc v) l₁ s (λ a. value a R l₁) (solve R s) d d' s₁ (is_keeps N q₁ c.1) (sys_keeps q₁ y)) λ e T q₂ s₂ i₂.
      ok_make N s₂ n.var_below (is_keeps N q₂ i₁) i₂)

  pub meet_ok : (k j : ℕ) → NormalsOk k → {R : Rows} {f s : ℕ} → N < suc (row N R s).var + k → N < suc (row N R s).var + j → Sound N R → s < next R → Node N R f → Node N R s
      → (row N R f).var ≡ (row N R s).var
      → Ok N (normal_step k (row N R f).then_part (row N R f).else_part (row N R s).then_part (row N R s).else_part) (normal_step j (row N R f).then_part (row N R f).else_part (row N R s).then_part (row N R s).else_part) R
      (suc (row N R s).var) (λ a. value (solve R s a) R f)
  meet_ok k j ih {R} {f} {s} d d' w us n m h =
      let v = (row N R s).var in
      let c = part N n.cut in
      let e = part N m.cut in
      let τ = solve R (row N R s).then_part in
      let y = rest R s m in
      ok_as N (omega arith) (meet_means R w f s us n m h)
      (ok_bind N (ih j R (suc v) (row N R s).else_part (row N R s).then_part (λ a. value a R (row N R s).else_part) τ d d' w e.1 y) λ x₁ R₁ k₁ s₁ i₁.
      ok_bind N (ih j R₁ (suc v) (row N R f).then_part (row N R s).then_part (λ a. value a R (row N R f).then_part) τ d d' s₁ (is_keeps N k₁ (rw h at c.0)) (sys_keeps k₁ y)) λ x₂ R₂ k₂ s₂ i₂.
      ok_bind N (ih j R₂ (suc v) (row N R f).else_part (row N R s).then_part (λ a. value a R (row N R f).else_part) τ d d' s₂ (is_keeps N (≼_trans k₁ k₂) (rw h at c.1)) (sys_keeps (≼_trans k₁ k₂) y)) λ x₃ R₃ k₃ s₃ i₃.
      ok_bind N (ok_products N (suc N) (suc N) R₃ (suc v) x₁ x₂ _ _ (omega arith) (omega arith) s₃ (is_keeps N (≼_trans k₂ k₃) i₁) (is_keeps N k₃ i₂)) λ x₄ R₄ k₄ s₄ i₄.
      ok_sums N (suc N) (suc N) R₄ (suc v) x₄ x₃ _ _ (omega arith) (omega arith) s₄ i₄ (is_keeps N k₄ i₃))

  normals_ok : (k j : ℕ) → NormalsOk k → (R : Rows) (low f s : ℕ) (p : Assignment → Bool) (σ : Assignment → Assignment) → N < low + suc k → N < low + suc j → Sound N R
      → Is N R low p f → Sys N R low σ s → NormalCase R f s → Ok N (normals N (suc k) f s) (normals N (suc j) f s) R low (λ a. p (σ a))
  normals_ok k j ih R low f s p σ d d' w i i' (empty e) =
      ok_by N (λ S h. rw e (normals_1 k f S)) (λ S h. rw e (normals_1 j f S))
      (ok_answer N w (is_as N (omega arith) (λ a. rw (← i'.solves a, e, solve_const R 1 (omega arith) a)) i))
  normals_ok k j ih R low f s p σ d d' w i i' (const e) =
      ok_by N (λ S h. normals_const k f s S e) (λ S h. normals_const j f s S e)
      (ok_answer N w (is_as N (omega arith) (λ a. sym (i.means a) ∙ value_const R f e a (σ a) ∙ i.means (σ a)) i))
  normals_ok k j ih R low f s p σ d d' w i i' (above n h eq) =
      let l = i'.above in
      ok_by N (eq k) (eq j) (ok_as N (omega arith) (λ a. let b = solve R (row N R s).then_part a in
      sym (i.means b) ∙ sym (value_put N R w f i.used b (row N R s).var (value b R (row N R s).else_part) h)
      ∙ rw (← solve_node N R w s i'.used n.inner a, i'.solves a) (i.means (σ a)))
      (ih j R (suc (row N R s).var) f (row N R s).then_part p (solve R (row N R s).then_part) (omega arith) (omega arith) w
      (record { used = i.used; above = h; means = i.means }) (rest R s n)))
  normals_ok k j ih R low f s p σ d d' w i i' (below n h eq) =
      ok_by N (eq k) (eq j) (ok_as N i.above (λ a. rw (i'.solves a) (i.means (σ a))) (below_ok k j ih (let l = i.above in omega arith) (let l = i.above in omega arith) w i'.used i'.not_0 n h))
  normals_ok k j ih R low f s p σ d d' w i i' (meet n m h eq) =
      ok_by N (eq k) (eq j) (ok_as N (let l = i'.above in omega arith) (λ a. rw (i'.solves a) (i.means (σ a)))
      (meet_ok k j ih (let l = i'.above in omega arith) (let l = i'.above in omega arith) w i'.used n m h))

  pub ok_normals : (k : ℕ) → NormalsOk k
  ok_normals zero j R low f s p σ d d' w i i' = absurd (let h = root_le N R w f i.used in let g = i.above in omega arith)
  ok_normals (suc k) zero R low f s p σ d d' w i i' = absurd (let h = root_le N R w f i.used in let g = i.above in omega arith)
  ok_normals (suc k) (suc j) R low f s p σ d d' w i i' = normals_ok k j (ok_normals k) R low f s p σ d d' w i i' (normal_case R w f s i.used i'.used i'.not_0)
