-- The theorems that a reader will look for, in the order of the paper.
use Prim.Native.Nat.{ℕ, suc, ◌+◌, ◌<◌, ◌≤◌}
use mathlib.Core.Path.{◌≡◌, refl, sym, ◌∙◌, ap}
use mathlib.Core.Bool.{Bool, true, false, ◌&&◌, xor}
use native.Mathlib.Omega.{arith}
use Rattle.steps.specs.One.{put, one, NotGreater}
use Rattle.steps.specs.Room.{made, within}
use Rattle.steps.specs.Rows.{Rows, count, next, Assignment, value, root}
use Rattle.steps.specs.Sound.{Sound}
use Rattle.steps.specs.Steps.{Answer, Steps, answer, make, sums, sum, products, product, normals, normal}
use Rattle.steps.specs.System.{end_of, holds, leads, occurs}
use Rattle.steps.proofs.Canonical.{canon}
use Rattle.steps.proofs.Laws.{ok_same, itself, sum_ok, product_ok, normal_ok}
use Rattle.steps.proofs.Leads.{solve_holds, holds_solve, solve_lead, solve_unled, ends}
use Rattle.steps.proofs.Normal.{Sys, ok_normals}
use Rattle.steps.proofs.Occurs.{free_occurs, value_occurs, one_absent}
use Rattle.steps.proofs.Ok.{Ok, ok_make}
use Rattle.steps.proofs.One.{found_one, least_one}
use Rattle.steps.proofs.Product.{ok_products}
use Rattle.steps.proofs.Room.{within_more}
use Rattle.steps.proofs.Rows.{◌≼◌, value_0, value_keeps, next_grows}
use Rattle.steps.proofs.Solve.{solve}
use Rattle.steps.proofs.Stepwise.{make_in, does_make, sums_in, does_sums, products_in, does_products, normals_in, does_normals}
use Rattle.steps.proofs.Sum.{ok_sums}

-- What the steps m do to the rows R, where p is what they are to mean and no operand has its root before `low`.
pub record Right (N : ℕ) (m : Steps) (R : Rows) (low : ℕ) (p : Assignment → Bool) : Type 0 where
  -- they only append
  pub appends : R ≼ (m R).rows
  -- they keep the table sound
  pub sound : Sound N (m R).rows
  -- they answer a number in use, whose root is not before the operands' least root
  pub used : (m R).num < next (m R).rows
  pub above : low ≤ root N (m R).rows (m R).num
  -- it has the value that is meant
  pub means : (a : Assignment) → value a (m R).rows (m R).num ≡ p a
  -- done again, on the rows that they left or on more, they append nothing and give the same number
  pub replay : (S : Rows) → (m R).rows ≼ S → m S ≡ answer (m R).num S

pub right : {N : ℕ} {m m' : Steps} {R : Rows} {low : ℕ} {p : Assignment → Bool} → Ok N m m' R low p → Right N m R low p
right o = record {
  appends = rw o.runs o.keeps;
  sound = rw o.runs o.sound;
  used = rw o.runs o.is.used;
  above = rw o.runs o.is.above;
  means = λ a. rw o.runs (o.is.means a);
  replay = λ S h. rw o.runs (o.again S (rw o.runs at h));
}

module _ (N : ℕ) where
  -- what appends nothing to R appends nothing to more rows either: so an answer may be remembered
  pub remembered : {m : Steps} {R : Rows} {low : ℕ} {p : Assignment → Bool} → Right N m R low p → (k : ℕ) → m R ≡ answer k R → (S : Rows) → R ≼ S → m S ≡ answer k S
  remembered d k e S h = rw e at (d.replay S (rw e h))

  module _ (R : Rows) (s : Sound N R) where
    -- "In a sound table two numbers are equal exactly when their polynomials agree at every assignment."
    pub canonical : (f g : ℕ) → f < next R → g < next R → (f ≡ g → (a : Assignment) → value a R f ≡ value a R g) × (((a : Assignment) → value a R f ≡ value a R g) → f ≡ g)
    canonical f g uf ug = (λ e a. rw e, canon N R s f g uf ug)

    -- "x_v·t + e"
    pub make_right : (v t e : ℕ) → v < N → t < next R → e < next R → v < root N R t → v < root N R e → Right N (make v t e) R v (λ a. xor (a v && value a R t) (value a R e))
    make_right v t e b ut ue at ae = right (ok_make N s b (itself N R t (suc v) ut at) (itself N R e (suc v) ue ae))

    module _ (f g : ℕ) (uf : f < next R) (ug : g < next R) (low : ℕ) (lf : low ≤ root N R f) (lg : low ≤ root N R g) where
      pub sum_right : Right N (sum N f g) R low (λ a. xor (value a R f) (value a R g))
      sum_right = right (sum_ok N R s f g uf ug low lf lg)

      pub product_right : Right N (product N f g) R low (λ a. value a R f && value a R g)
      product_right = right (product_ok N R s f g uf ug low lf lg)

      -- g is the system
      pub normal_right : (g ≡ 0 → ⊥) → Right N (normal N f g) R low (λ a. value (solve R g a) R f)
      normal_right g0 = right (normal_ok N R s f g uf ug low lf lg g0)

      -- "a nesting counter bounded by N falls at every call": any counter above N minus the least root gives the same steps
      pub sum_depth : (k : ℕ) → N < low + k → sums N k f g R ≡ sum N f g R
      sum_depth k h = ok_same N (ok_sums N k (suc N) R low f g _ _ h (omega arith) s (itself N R f low uf lf) (itself N R g low ug lg))

      pub product_depth : (k : ℕ) → N < low + k → products N k f g R ≡ product N f g R
      product_depth k h = ok_same N (ok_products N k (suc N) R low f g _ _ h (omega arith) s (itself N R f low uf lf) (itself N R g low ug lg))

      pub normal_depth : (g ≡ 0 → ⊥) → (k : ℕ) → N < low + k → normals N k f g R ≡ normal N f g R
      normal_depth g0 k h =
          let system : Sys N R low (solve R g) g = record { used = ug; above = lg; not_0 = g0; solves = λ a. refl } in
          ok_same N (ok_normals N k (suc N) R low f g (λ a. value a R f) (solve R g) h (omega arith) s (itself N R f low uf lf) system)

    -- "Sums, products, values [..] are those of Boolean polynomials"
    module _ (f g : ℕ) (uf : f < next R) (ug : g < next R) (a : Assignment) where
      pub value_of_sum : value a (sum N f g R).rows (sum N f g R).num ≡ xor (value a R f) (value a R g)
      value_of_sum = (sum_right f g uf ug 0 (omega arith) (omega arith)).means a

      pub value_of_product : value a (product N f g R).rows (product N f g R).num ≡ value a R f && value a R g
      value_of_product = (product_right f g uf ug 0 (omega arith) (omega arith)).means a

    -- "Following then-branches always ends in 1, so every number but 0 is a system."
    pub system_ends : (F : ℕ) → F < next R → (F ≡ 0 → ⊥) → end_of R F ≡ 1
    system_ends F u h = ends N R s F u h

    -- the normal form of p by the system F: "a normal form holds no lead variable and agrees with its input wherever the system holds"
    module _ (p F : ℕ) (up : p < next R) (u_f : F < next R) (F0 : F ≡ 0 → ⊥) where
      reduced : Right N (normal N p F) R 0 (λ a. value (solve R F a) R p)
      reduced = normal_right p F up u_f 0 (omega arith) (omega arith) F0

      pub normal_agrees : (a : Assignment) → holds a R F ≡ true → value a (normal N p F R).rows (normal N p F R).num ≡ value a R p
      normal_agrees a h = reduced.means a ∙ ap (λ b. value b R p) (solve_holds N R s F u_f a h)

      pub normal_no_lead : (v : ℕ) → leads v R F ≡ true → occurs v (normal N p F R).rows (normal N p F R).num ≡ false
      normal_no_lead v l =
          free_occurs N (normal N p F R).rows reduced.sound (normal N p F R).num reduced.used v (λ a b.
          reduced.means (put a v b) ∙ rw (solve_lead N R s F u_f v l a b) (sym (reduced.means a)))

      -- it is the only polynomial with both properties
      pub normal_unique : (S : Rows) → Sound N S → (normal N p F R).rows ≼ S → (q : ℕ) → q < next S
          → ((a : Assignment) → holds a R F ≡ true → value a S q ≡ value a R p)
          → ((v : ℕ) → leads v R F ≡ true → occurs v S q ≡ false)
          → q ≡ (normal N p F R).num
      normal_unique S w k q uq agrees no_lead =
          canon N S w q (normal N p F R).num uq (omega (arith, reduced.used, next_grows k)) (λ a.
          value_occurs S q a (solve R F a) (λ v o. sym (untouched a v o (leads v R F) refl))
          ∙ agrees (solve R F a) (holds_solve N R s F u_f a) ∙ sym (reduced.means a) ∙ sym (value_keeps k a (normal N p F R).num reduced.used))
        where
          -- a variable of q is no lead, so the system leaves it
          untouched : (a : Assignment) (v : ℕ) → occurs v S q ≡ true → (b : Bool) → leads v R F ≡ b → solve R F a v ≡ a v
          untouched a v o true l = let e = no_lead v l in cc
          untouched a v o false l = solve_unled R F v l a

    -- "a one is found exactly when the polynomial isn't zero"; it is "the least one, reading x_0 first"; "Variables not met are 0"
    module _ (k : ℕ) (u : k < next R) where
      pub one_is_one : (k ≡ 0 → ⊥) → value (one R k) R k ≡ true
      one_is_one = found_one N R s k u

      pub one_is_least : (a : Assignment) → value a R k ≡ true → NotGreater (one R k) a
      one_is_least = least_one N R s k u

      pub one_not_met : (v : ℕ) → occurs v R k ≡ false → one R k v ≡ false
      one_not_met = one_absent N R s k u

  pub no_one : (R : Rows) (a : Assignment) → value a R 0 ≡ false
  no_one R a = value_0 a R

  -- "Room has run out when a row must be appended and all R are in use": the steps with that test at each appended row come to what the steps
  -- without it come to, compared with the room at the end
  module _ (room : ℕ) (R : Rows) (h : count R ≤ room) where
    pub make_stepwise : (v t e : ℕ) → make_in room v t e R ≡ within room (make v t e R)
    make_stepwise v t e = does_make room v t e R h

    pub sum_stepwise : (f g : ℕ) → sums_in room N (suc N) f g R ≡ within room (sum N f g R)
    sum_stepwise f g = does_sums room N (suc N) f g R h

    pub product_stepwise : (f g : ℕ) → products_in room N (suc N) f g R ≡ within room (product N f g R)
    product_stepwise f g = does_products room N (suc N) f g R h

    pub normal_stepwise : (p F : ℕ) → normals_in room N (suc N) p F R ≡ within room (normal N p F R)
    normal_stepwise p F = does_normals room N (suc N) p F R h

-- a larger room changes nothing once it is enough
pub larger_table : (room room' : ℕ) (a : Answer) (k : ℕ) (S : Rows) → room ≤ room' → within room a ≡ made k S → within room' a ≡ made k S
larger_table = within_more
