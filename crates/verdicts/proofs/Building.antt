-- The steps of literals, gates and outputs: the system of a circuit makes of an assignment the circuit's values.
use Prim.Native.Nat.{ℕ, zero, suc, ◌-◌, ◌/◌, ◌%◌, ◌<◌, ◌≤◌}
use mathlib.Core.Path.{◌≡◌, refl, sym, ap, subst, ◌∙◌}
use mathlib.Core.Bool.{Bool, true, false, ◌&&◌, not, xor}
use mathlib.Core.List.{List, [], ◌∷◌}
use native.Mathlib.Omega.{arith}
use lib.Dec.{eqb, ltb}
use borrow.Author.Tests.{ltb-true, ltb-false, lt-ltb, le-ltb}
use Rattle.steps.specs.One.{put}
use Rattle.steps.specs.Rows.{Row, row_of, Rows, none, next, Assignment, value, row}
use Rattle.steps.specs.Sound.{Sound}
use Rattle.steps.specs.Steps.{Answer, Steps, answer, ◌>>=◌, make, product, normal}
use Rattle.steps.specs.System.{equation}
use Rattle.steps.proofs.Equations.{made_row}
use Rattle.steps.proofs.Keeps.{Keeps, keeps_bind, keeps_make, keeps_products, keeps_normals}
use Rattle.steps.proofs.Normal.{Sys, sys_keeps, ok_normals}
use Rattle.steps.proofs.Ok.{Is, Ok, is_keeps, is_as, ok_as, ok_answer, ok_by, ok_make}
use Rattle.steps.proofs.Product.{ok_products}
use Rattle.steps.proofs.Rows.{◌≼◌, stop, ≼_trans, next_2, value_0, value_1, row_const}
use Rattle.steps.proofs.Solve.{solve_node, solve_const}
use Rattle.std.proofs.Common.{if◌then◌else◌}
use Rattle.aiger.specs.Form.{Gate}
use Rattle.aiger.specs.Meaning.{literal, run}
use Rattle.aiger.specs.Accepted.{Ascending}
use Rattle.verdicts.specs.Systems.{literal_steps, gate_steps, build, output_steps}
use Rattle.verdicts.proofs.Rings.{values_at, values_0, values_inside, gate_value, run_ring, values_run}

module _ (N : ℕ) where
  pub literal_small : (l : ℕ) (S : Rows) → l < 2 → literal_steps N l S ≡ answer l S
  unfolding literal_steps
  literal_small l S h = rw (lt-ltb l 2 h)

  pub literal_row : (l : ℕ) (S : Rows) → 2 ≤ l → literal_steps N l S ≡ make (N - l / 2) 1 (l % 2) S
  unfolding literal_steps
  literal_row l S h = rw (le-ltb l 2 h)

  -- the steps only append

  pub keeps_literal : (l : ℕ) → Keeps (literal_steps N l)
  keeps_literal l R = go (ltb l 2) refl
    where
      go : (b : Bool) → ltb l 2 ≡ b → R ≼ (literal_steps N l R).rows
      go true e = rw (literal_small l R (ltb-true l 2 e)) stop
      go false e = rw (literal_row l R (ltb-false l 2 e)) (keeps_make (N - l / 2) 1 (l % 2) R)

  -- what is left of a gate after its literals, and after the first of them
  pub keeps_joined : (l F f h : ℕ) → Keeps (product N f h >>= equation (N - l / 2) F)
  keeps_joined l F f h = keeps_bind (product N f h) (equation (N - l / 2) F) (keeps_products N (suc N) f h) (keeps_make (N - l / 2) F)

  pub keeps_second : (l r F f : ℕ) → Keeps (literal_steps N r >>= λ h. product N f h >>= equation (N - l / 2) F)
  keeps_second l r F f = keeps_bind (literal_steps N r) (λ h. product N f h >>= equation (N - l / 2) F) (keeps_literal r) (keeps_joined l F f)

  pub keeps_gate : (g : Gate) (F : ℕ) → Keeps (gate_steps N g F)
  keeps_gate g F =
      keeps_bind (literal_steps N g.right0) (λ f. literal_steps N g.right1 >>= λ h. product N f h >>= equation (N - g.left / 2) F) (keeps_literal g.right0) (keeps_second g.left g.right1 F)

  pub keeps_build : (gs : List Gate) (F : ℕ) → Keeps (build N gs F)
  unfolding build
  keeps_build [] F R = stop
  keeps_build (g ∷ gs) F R = ≼_trans (keeps_gate g F R) (keeps_build gs _ _)

  pub keeps_reduce : (l F : ℕ) → Keeps (literal_steps N l >>= λ p. normal N p F)
  keeps_reduce l F = keeps_bind (literal_steps N l) (λ p. normal N p F) (keeps_literal l) (λ p. keeps_normals N (suc N) p F)

  -- a literal

  is_const : (R : Rows) (k low : ℕ) → k < 2 → low ≤ N → Is N R low (λ a. eqb k 1) k
  is_const R k low h g = record {
    used = let z = next_2 R in omega arith;
    above = rw (row_const N R k h) g;
    means = λ a. val k h a;
  }
    where
      val : (k : ℕ) → k < 2 → (a : Assignment) → value a R k ≡ eqb k 1
      val zero h a = value_0 a R
      val (suc zero) h a = value_1 a R
      val (suc (suc k)) h a = absurd (omega arith)

  -- x + r is x or its inverse
  parity : (x : Bool) (r : ℕ) → r < 2 → xor (x && true) (eqb r 1) ≡ (if eqb r 0 then x else not x)
  unfolding xor
  parity true zero h = refl
  parity false zero h = refl
  parity true (suc zero) h = refl
  parity false (suc zero) h = refl
  parity x (suc (suc r)) h = absurd (omega arith)

  constant : (l : ℕ) → l < 2 → (a : Assignment) → eqb l 1 ≡ literal (values_at N a) l
  constant zero h a = sym (values_0 N a)
  constant (suc zero) h a = sym (ap not (values_0 N a))
  constant (suc (suc l)) h a = absurd (omega arith)

  pub literal_ok : (R : Rows) → Sound N R → (l low : ℕ) → l / 2 ≤ N → low ≤ N - l / 2 → Ok N (literal_steps N l) (literal_steps N l) R low (λ a. literal (values_at N a) l)
  literal_ok R w l low h g = go (ltb l 2) refl
    where
      go : (b : Bool) → ltb l 2 ≡ b → Ok N (literal_steps N l) (literal_steps N l) R low (λ a. literal (values_at N a) l)
      go true e =
          let q = ltb-true l 2 e in
          ok_by N (λ S z. literal_small l S q) (λ S z. literal_small l S q) (ok_answer N w (is_as N (omega arith) (constant l q) (is_const R l N q (omega arith))))
      go false e =
          let q = ltb-false l 2 e in
          ok_by N (λ S z. literal_row l S q) (λ S z. literal_row l S q) (ok_as N g (λ a. rw (values_inside N a (l / 2) (omega arith) h) (parity (a (N - l / 2)) (l % 2) (omega arith)))
          (ok_make N w (omega arith) (is_const R 1 (suc (N - l / 2)) (omega arith) (omega arith)) (is_const R (l % 2) (suc (N - l / 2)) (omega arith) (omega arith))))

  -- a gate

  -- steps that leave a system, which makes σ a of a
  pub record Leaves (m : Steps) (R : Rows) (low : ℕ) (σ : Assignment → Assignment) : Type 0 where
    pub num : ℕ
    pub rows : Rows
    pub runs : m R ≡ answer num rows
    pub keeps : R ≼ rows
    pub sound : Sound N rows
    pub sys : Sys N rows low σ num

  inner_row : (R : Rows) (k : ℕ) → (row N R k).var < N → 2 ≤ k
  inner_row R zero h = absurd (let z = rw (row_const N R 0 (omega arith)) at h in omega arith)
  inner_row R (suc zero) h = absurd (let z = rw (row_const N R 1 (omega arith)) at h in omega arith)
  inner_row R (suc (suc k)) h = omega arith

  add_equation : (R : Rows) → Sound N R → (i s t : ℕ) (σ : Assignment → Assignment) (p : Assignment → Bool) → i < N → Sys N R (suc i) σ s → Is N R (suc i) p t
      → Leaves (equation i s t) R i (λ a. put (σ a) i (p (σ a)))
  add_equation R w i s t σ p b y j =
      let o = ok_make N w b (record { used = y.used; above = y.above; means = λ a. refl }) j in
      let r : ◌≡◌ {A = Row} (row N o.rows o.num) (row_of i s t) = rw o.runs at (made_row N i s t R y.not_0) in
      let g : 2 ≤ o.num = inner_row o.rows o.num (rw r b) in
      let y' = sys_keeps N o.keeps y in
      let j' = is_keeps N o.keeps j in
      record {
        num = o.num;
        rows = o.rows;
        runs = o.runs;
        keeps = o.keeps;
        sound = o.sound;
        sys = record {
          used = o.is.used;
          above = o.is.above;
          not_0 = λ q. omega arith;
          solves = λ a. solve_node N o.rows o.sound o.num o.is.used g a ∙ rw (r, y'.solves a, j'.means (σ a));
        };
      }

  leaves_bind : (m : Steps) (f : ℕ → Steps) (R : Rows) (low low' : ℕ) (p : Assignment → Bool) (σ : Assignment → Assignment) → Ok N m m R low p
      → ((x : ℕ) (S : Rows) → R ≼ S → Sound N S → Is N S low p x → Leaves (f x) S low' σ) → Leaves (m >>= f) R low' σ
  leaves_bind m f R low low' p σ o go_on = go (go_on o.num o.rows o.keeps o.sound o.is)
    where
      go : Leaves (f o.num) o.rows low' σ → Leaves (m >>= f) R low' σ
      go b = record { num = b.num; rows = b.rows; runs = rw o.runs b.runs; keeps = ≼_trans o.keeps b.keeps; sound = b.sound; sys = b.sys }

  sys_lower : {R : Rows} {low low' s : ℕ} {σ : Assignment → Assignment} → low' ≤ low → Sys N R low σ s → Sys N R low' σ s
  sys_lower h y = record { used = y.used; above = let z = y.above in omega arith; not_0 = y.not_0; solves = y.solves }

  -- a gate that may come next: its variable is one of the ring's, and its rights' variables are below it
  pub record Next (g : Gate) : Type 0 where
    pub positive : 0 < g.left / 2
    pub high : g.left / 2 ≤ N
    pub below0 : g.right0 / 2 < g.left / 2
    pub below1 : g.right1 / 2 < g.left / 2

  pub gate_leaves : (R : Rows) → Sound N R → (g : Gate) (s : ℕ) (σ : Assignment → Assignment) → Next g → Sys N R (suc (N - g.left / 2)) σ s
      → Leaves (gate_steps N g s) R (N - g.left / 2) (λ a. put (σ a) (N - g.left / 2) (gate_value N g (σ a)))
  gate_leaves R w g s σ x y =
      let v = g.left / 2 in
      let h = x.high in
      let q = x.positive in
      let b0 = x.below0 in
      let b1 = x.below1 in
      leaves_bind _ _ R _ _ _ _ (literal_ok R w g.right0 (suc (N - v)) (omega arith) (omega arith)) λ f R₁ k₁ w₁ i₁.
      leaves_bind _ _ R₁ _ _ _ _ (literal_ok R₁ w₁ g.right1 (suc (N - v)) (omega arith) (omega arith)) λ e R₂ k₂ w₂ i₂.
      leaves_bind _ _ R₂ _ _ _ _ (ok_products N (suc N) (suc N) R₂ (suc (N - v)) f e _ _ (omega arith) (omega arith) w₂ (is_keeps N k₂ i₁) i₂) λ t R₃ k₃ w₃ i₃.
      add_equation R₃ w₃ (N - v) s t σ _ (omega arith) (sys_keeps N (≼_trans k₁ (≼_trans k₂ k₃)) y) i₃

  -- all gates

  -- the last gate's variable
  pub last : ℕ → List Gate → ℕ
  last b [] = b
  last b (g ∷ gs) = last (g.left / 2) gs

  pub build_leaves : (gs : List Gate) (R : Rows) → Sound N R → (b s : ℕ) (σ : Assignment → Assignment) → Ascending N b gs → Sys N R (N - b) σ s
      → Leaves (build N gs s) R (N - last b gs) (λ a. run_ring N gs (σ a))
  unfolding build Ascending run_ring last
  build_leaves [] R w b s σ o y = record { num = s; rows = R; runs = refl; keeps = stop; sound = w; sys = y }
  build_leaves (g ∷ gs) R w b s σ o y =
      let z = o.0 in
      let h = o.1.0 in
      let l = gate_leaves R w g s σ (record { positive = omega arith; high = h; below0 = o.1.1.0; below1 = o.1.1.1.0 }) (sys_lower (omega arith) y) in
      let m = build_leaves gs l.rows l.sound (g.left / 2) l.num _ o.1.1.1.1 l.sys in
      record { num = m.num; rows = m.rows; runs = rw l.runs m.runs; keeps = ≼_trans l.keeps m.keeps; sound = m.sound; sys = m.sys }

  -- 1, in an empty table, is the system that changes nothing
  pub empty_system : Sys N none N (λ a. a) 1
  empty_system = record { used = let z = next_2 none in omega arith; above = rw (row_const N none 1 (omega arith)) (omega arith); not_0 = λ q. omega arith; solves = λ a. solve_const none 1 (omega arith) a }

  pub whole_system : (gs : List Gate) → Ascending N 0 gs → Leaves (build N gs 1) none (N - last 0 gs) (run_ring N gs)
  unfolding Sound
  whole_system gs o = build_leaves gs none tt 0 1 (λ a. a) o (sys_lower (omega arith) empty_system)

  -- steps that answered a number that stands for p, in a sound table
  pub record Stands (x : Answer) (p : Assignment → Bool) : Type 0 where
    pub sound : Sound N x.rows
    pub used : x.num < next x.rows
    pub means : (a : Assignment) → value a x.rows x.num ≡ p a

  -- an output's normal form by the whole system, from an empty table, has the output's value at every assignment
  pub reduced : (gs : List Gate) (l : ℕ) → Ascending N 0 gs → l / 2 ≤ N → Stands (output_steps N gs l none) (λ a. literal (run gs (values_at N a)) l)
  reduced gs l o h =
      let b = whole_system gs o in
      let p = literal_ok b.rows b.sound l 0 h (omega arith) in
      let n = ok_normals N (suc N) (suc N) p.rows 0 p.num b.num _ _ (omega arith) (omega arith) p.sound p.is (sys_keeps N p.keeps (sys_lower (omega arith) b.sys)) in
      let e : output_steps N gs l none ≡ answer n.num n.rows = rw (b.runs, p.runs) n.runs in
      subst (λ (x : Answer). Stands x (λ a. literal (run gs (values_at N a)) l)) (sym e) (record {
        sound = n.sound;
        used = n.is.used;
        means = λ a. n.is.means a ∙ ap (λ v. literal v l) (values_run N gs 0 o a);
      })
