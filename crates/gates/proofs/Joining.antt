-- Literals and gates in a table: how their steps are put together.
use Prim.Native.Nat.{ℕ, suc, ◌-◌, ◌/◌, ◌%◌, ◌<◌, ◌≤◌}
use mathlib.Core.Bool.{Bool, ◌&&◌}
use mathlib.Core.List.{List}
use native.Mathlib.Omega.{arith}
use Rattle.steps.specs.Rows.{root, Assignment, value}
use Rattle.steps.specs.Steps.{Steps, ◌>>=◌, make, product}
use Rattle.steps.specs.System.{equation}
use Rattle.steps.specs.Table.{Slices, rows_of}
use Rattle.steps.proofs.Keeps.{Keeps, keeps_make, keeps_products}
use Rattle.steps.proofs.Rows.{◌≼◌, row_keeps}
use Rattle.steps.proofs.Table.{rows_of_next}
use Rattle.steps.proofs.Theorems.{Right, right, make_right, product_right}
use Rattle.table.specs.declared.Row.{Row}
use Rattle.table.specs.Made.{Made}
use Rattle.table.specs.Made.{At, Full}
use Rattle.table.specs.Index.{Indexed}
use Rattle.table.specs.Inner.{Entered, Kept}
use Rattle.table.specs.Memory.{Live}
use Rattle.table.proofs.Takes.{taken_rows}
use Rattle.sums.proofs.Keeping.{kept_by, kept_nothing, kept_full, kept_then, kept_made}
use Rattle.aiger.specs.Form.{Gate}
use Rattle.aiger.specs.Meaning.{literal}
use Rattle.verdicts.specs.Systems.{literal_steps, gate_steps}
use Rattle.verdicts.proofs.Building.{literal_small, literal_row, literal_ok, keeps_literal, keeps_joined, keeps_second}
use Rattle.verdicts.proofs.Rings.{values_at}
use Rattle.gates.specs.Inner.{joined_steps, LiteralAsked, Behind, JoinedAsked, GateAsked}

-- numbers in a table that has grown

grown : {N : ℕ} {m : Steps} {k : Row} {n c : ℕ} {s s₁ : Slices} {work work₁ : List ℕ} → Keeps m → Kept N m (At k n) c s s₁ work work₁ → rows_of s c ≼ rows_of s₁ n
grown {c = c} {s = s} keeps d = rw (taken_rows d.taken) at (keeps (rows_of s c))

still : {N : ℕ} {m : Steps} {k : Row} {n c : ℕ} {s s₁ : Slices} {work work₁ : List ℕ} {l f : ℕ} → Keeps m → Kept N m (At k n) c s s₁ work work₁ → Behind N c s l f → Behind N n s₁ l f
still {N} {n = n} {c = c} {s = s} {s₁ = s₁} {f = f} keeps d b = record {
  used = omega (arith, d.taken.rest.more, b.used);
  above = rw (root, row_keeps N (grown keeps d) f (omega (arith, b.used, rows_of_next s c))) b.above;
}

-- and a number that was made
answered : {N : ℕ} {m : Steps} {p : Assignment → Bool} {k : Row} {n c : ℕ} {s s₁ : Slices} {work work₁ : List ℕ} {l : ℕ} → Right N m (rows_of s c) (suc (N - l / 2)) p → Kept N m (At k n) c s s₁ work work₁ → Behind N n s₁ l k.0
answered {k = k} {n = n} {s₁ = s₁} r d =
    let made = taken_rows d.taken in
    record {
      used = omega (arith, rw made at r.used, rows_of_next s₁ n);
      above = rw made at r.above;
    }

-- a literal

module _ (N c : ℕ) (s : Slices) (work : List ℕ) (l : ℕ) where
  pub literal_constant : Live N c s work → l < 2 → Kept N (literal_steps N l) (At (record { 0 = l }) c) c s s work work
  literal_constant d h = kept_nothing d (literal_small N l (rows_of s c) h)

  literal_right : Live N c s work → (low : ℕ) → l / 2 ≤ N → low ≤ N - l / 2 → Right N (literal_steps N l) (rows_of s c) low (λ a. literal (values_at N a) l)
  literal_right d low h g = right (literal_ok N (rows_of s c) d.sound l low h g)

  pub literal_made : LiteralAsked N c s work l → 2 ≤ l → {r : Made} {s₁ : Slices} {work₁ : List ℕ} → Entered (make (N - l / 2) 1 (l % 2)) r c s s₁ work work₁ → Kept N (literal_steps N l) r c s s₁ work work₁
  literal_made a h e =
      let q = literal_row N l (rows_of s c) h in
      kept_by q (kept_made a.live e (keeps_make (N - l / 2) 1 (l % 2) (rows_of s c)) (rw q at (literal_right a.live 0 a.low (omega arith)).sound))

-- the product of the rights, and the equation
module _ (N c : ℕ) (s : Slices) (work : List ℕ) (l F f h : ℕ) (a : JoinedAsked N c s work l F f h) where
  pub joined_full : {s₁ : Slices} {work₁ : List ℕ} → Kept N (product N f h) Full c s s₁ work work₁ → Kept N (joined_steps N l F f h) Full c s s₁ work work₁
  joined_full k = kept_full (equation (N - l / 2) F) (keeps_make (N - l / 2) F) k

  module _ (e : Row) (n : ℕ) (s₁ : Slices) (work₁ : List ℕ) (k : Kept N (product N f h) (At e n) c s s₁ work work₁) where
    multiplied : Right N (product N f h) (rows_of s c) (suc (N - l / 2)) (λ x. value x (rows_of s c) f && value x (rows_of s c) h)
    multiplied =
        product_right N (rows_of s c) a.live.sound f h (omega (arith, a.first.used, rows_of_next s c)) (omega (arith, a.second.used, rows_of_next s c)) (suc (N - l / 2)) a.first.above a.second.above

    pub equation_asks : Indexed n s₁ work₁
    equation_asks = k.live.indexed

    pub joined_made : {r : Made} {s₂ : Slices} {work₂ : List ℕ} → Entered (make (N - l / 2) F e.0) r n s₁ s₂ work₁ work₂ → Kept N (joined_steps N l F f h) r c s s₂ work work₂
    joined_made m =
        let v = N - l / 2 in
        let F₁ : Behind N n s₁ l F = still (keeps_products N (suc N) f h) k a.system in
        let e₁ : Behind N n s₁ l e.0 = answered multiplied k in
        let fits = make_right N (rows_of s₁ n) k.live.sound v F e.0 (omega (arith, a.positive, a.high)) (omega (arith, F₁.used, rows_of_next s₁ n)) (omega (arith, e₁.used, rows_of_next s₁ n)) F₁.above e₁.above in
        kept_then (equation v F) (keeps_make v F) k (kept_made k.live m fits.appends fits.sound)

-- a gate

module _ (N c : ℕ) (s : Slices) (work : List ℕ) (g : Gate) (F : ℕ) (a : GateAsked N c s work g F) where
  abbrev v : ℕ
  v = g.left / 2

  abbrev after_second : ℕ → ℕ → Steps
  after_second f h = joined_steps N g.left F f h

  abbrev after_first : ℕ → Steps
  after_first f = literal_steps N g.right1 >>= after_second f

  pub first_asks : LiteralAsked N c s work g.right0
  first_asks = record { live = a.live; low = omega (arith, a.high, a.below0) }

  pub first_full : {s₁ : Slices} {work₁ : List ℕ} → Kept N (literal_steps N g.right0) Full c s s₁ work work₁ → Kept N (gate_steps N g F) Full c s s₁ work work₁
  first_full k = kept_full after_first (keeps_second N g.left g.right1 F) k

  module _ (f : Row) (n : ℕ) (s₁ : Slices) (work₁ : List ℕ) (k : Kept N (literal_steps N g.right0) (At f n) c s s₁ work work₁) where
    pub second_asks : LiteralAsked N n s₁ work₁ g.right1
    second_asks = record { live = k.live; low = omega (arith, a.high, a.below1) }

    pub second_full : {s₂ : Slices} {work₂ : List ℕ} → Kept N (literal_steps N g.right1) Full n s₁ s₂ work₁ work₂ → Kept N (gate_steps N g F) Full c s s₂ work work₂
    second_full l = kept_then after_first (keeps_second N g.left g.right1 F) k (kept_full (after_second f.0) (keeps_joined N g.left F f.0) l)

    module _ (h : Row) (n₂ : ℕ) (s₂ : Slices) (work₂ : List ℕ) (l : Kept N (literal_steps N g.right1) (At h n₂) n s₁ s₂ work₁ work₂) where
      pub third_asks : JoinedAsked N n₂ s₂ work₂ g.left F f.0 h.0
      third_asks =
          let r0 = literal_right N c s work g.right0 a.live (suc (N - v)) (omega (arith, a.high, a.below0)) (omega (arith, a.high, a.below0)) in
          let r1 = literal_right N n s₁ work₁ g.right1 k.live (suc (N - v)) (omega (arith, a.high, a.below1)) (omega (arith, a.high, a.below1)) in
          record {
            live = l.live;
            positive = a.positive;
            high = a.high;
            not_0 = a.not_0;
            system = still (keeps_literal N g.right1) l (still (keeps_literal N g.right0) k a.system);
            first = still (keeps_literal N g.right1) l (answered r0 k);
            second = answered r1 l;
          }

      pub gate_done : {r : Made} {s₃ : Slices} {work₃ : List ℕ} → Kept N (joined_steps N g.left F f.0 h.0) r n₂ s₂ s₃ work₂ work₃ → Kept N (gate_steps N g F) r c s s₃ work work₃
      gate_done m = kept_then after_first (keeps_second N g.left g.right1 F) k (kept_then (after_second f.0) (keeps_joined N g.left F f.0) l m)
