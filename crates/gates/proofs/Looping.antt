-- The system of all gates, one gate after the other.
use Prim.Native.Nat.{ℕ, suc, ◌+◌, ◌-◌, ◌/◌, ◌<◌, ◌≤◌}
use mathlib.Core.Path.{◌≡◌, refl, sym, ap, ◌∙◌}
use mathlib.Core.List.{List, [], ◌∷◌}
use native.Mathlib.Omega.{arith}
use native.Mathlib.Numerals.{add-one}
use Rattle.std.proofs.Math.ListN.{get_or-map}
use Rattle.std.proofs.Math.Seq.{drop-cons}
use lib.ListN.{length, get_or, drop, drop_of_length-le, length-map}
use Rattle.steps.specs.Rows.{Rows, root}
use Rattle.steps.specs.Steps.{Answer, answer, ◌>>=◌}
use Rattle.steps.specs.Table.{Slices, rows_of}
use Rattle.steps.proofs.Normal.{Sys}
use Rattle.steps.proofs.Rows.{row_const}
use Rattle.steps.proofs.Solve.{solve}
use Rattle.steps.proofs.Table.{rows_of_next}
use Rattle.table.specs.declared.Row.{Row}
use Rattle.table.specs.Made.{Made, At, Full}
use Rattle.table.specs.Inner.{Kept}
use Rattle.table.specs.Memory.{Live}
use Rattle.table.proofs.Takes.{taken_rows}
use Rattle.sums.proofs.Keeping.{kept_by, kept_nothing, kept_full, kept_then}
use Rattle.aiger.specs.Answers.{gates_in, lits_of}
use Rattle.aiger.specs.declared.lines.Gate.{Gate as CodeGate}
use Rattle.aiger.specs.Form.{Gate}
use Rattle.aiger.specs.Accepted.{Ascending}
use Rattle.verdicts.specs.Systems.{gate_steps, build}
use Rattle.verdicts.proofs.Building.{Next, gate_leaves, keeps_build}
use Rattle.gates.specs.Inner.{GateAsked, BuildAsked}

-- the gates from place i on begin with the one there
next_gate : (gates : List CodeGate) (i : ℕ) (d : CodeGate) → i < length gates → drop i (gates_in gates) ≡ lits_of (get_or gates i d) ∷ drop (i + 1) (gates_in gates)
next_gate gates i d h = rw (add-one, ← get_or-map lits_of gates i d) (drop-cons (gates_in gates) i (lits_of d) (rw length-map h))

build_none : (N F : ℕ) (R : Rows) → build N [] F R ≡ answer F R
unfolding build
build_none N F R = refl

build_first : (N : ℕ) (g : Gate) (gs : List Gate) (F : ℕ) (R : Rows) → build N (g ∷ gs) F R ≡ (gate_steps N g F >>= build N gs) R
unfolding build
build_first N g gs F R = refl

first_next : (N b : ℕ) (g : Gate) (gs : List Gate) → Ascending N b (g ∷ gs) → (b < g.left / 2) × (Next N g × Ascending N (g.left / 2) gs)
unfolding Ascending
first_next N b g gs o = (o.0, (record { positive = let z = o.0 in omega arith; high = o.1.0; below0 = o.1.1.0; below1 = o.1.1.1.0 }, o.1.1.1.1))

-- the gates left are still to be added to the system F: what they make of it is what all gates make
pub record Left (N : ℕ) (s₀ : Slices) (work₀ : List ℕ) (all left : List Gate) (F c : ℕ) (s : Slices) (work : List ℕ) : Type 0 where
  pub live : Live N c s work
  pub not_0 : F ≡ 0 → ⊥
  pub used : F < c + 2
  -- the variable of the last gate added
  pub last : ℕ
  pub above : N - last ≤ root N (rows_of s c) F
  pub order : Ascending N last left
  pub goes_on : (r : Made) (s' : Slices) (work' : List ℕ) → Kept N (build N left F) r c s s' work work' → Kept N (build N all 1) r 0 s₀ s' work₀ work'

module _ (N : ℕ) (s₀ : Slices) (work₀ : List ℕ) (all : List Gate) where
  left_end : (F : Row) (c : ℕ) (s : Slices) (work : List ℕ) → Left N s₀ work₀ all [] F.0 c s work → Kept N (build N all 1) (At F c) 0 s₀ s work₀ work
  left_end F c s work x = x.goes_on (At F c) s work (kept_nothing x.live (build_none N F.0 (rows_of s c)))

  module _ (F c : ℕ) (s : Slices) (work : List ℕ) (g : Gate) (gs : List Gate) (x : Left N s₀ work₀ all (g ∷ gs) F c s work) where
    left_asks : GateAsked N c s work g F
    left_asks =
        let o = first_next N x.last g gs x.order in
        record {
          live = x.live;
          positive = o.1.0.positive;
          high = o.1.0.high;
          below0 = o.1.0.below0;
          below1 = o.1.0.below1;
          not_0 = x.not_0;
          system = record { used = x.used; above = omega (arith, x.above, o.0, o.1.0.high) };
        }

    left_full : (s₁ : Slices) (work₁ : List ℕ) → Kept N (gate_steps N g F) Full c s s₁ work work₁ → Kept N (build N all 1) Full 0 s₀ s₁ work₀ work₁
    left_full s₁ work₁ k = x.goes_on Full s₁ work₁ (kept_by (build_first N g gs F (rows_of s c)) (kept_full (build N gs) (keeps_build N gs) k))

    left_next : (G : Row) (n : ℕ) (s₁ : Slices) (work₁ : List ℕ) → Kept N (gate_steps N g F) (At G n) c s s₁ work work₁ → Left N s₀ work₀ all gs G.0 n s₁ work₁
    left_next G n s₁ work₁ k =
        let o = first_next N x.last g gs x.order in
        let system : Sys N (rows_of s c) (suc (N - g.left / 2)) (solve (rows_of s c) F) F =
        record { used = omega (arith, x.used, rows_of_next s c); above = left_asks.system.above; not_0 = x.not_0; solves = λ a. refl } in
        let l = gate_leaves N (rows_of s c) x.live.sound g F (solve (rows_of s c) F) o.1.0 system in
        let e : answer l.num l.rows ≡ answer G.0 (rows_of s₁ n) = sym l.runs ∙ taken_rows k.taken in
        let num : l.num ≡ G.0 = ap (λ (a : Answer). a.num) e in
        let y : Sys N (rows_of s₁ n) (N - g.left / 2) _ G.0 = rw (num, ap (λ (a : Answer). a.rows) e) at l.sys in
        record {
          live = k.live;
          not_0 = y.not_0;
          used = omega (arith, y.used, rows_of_next s₁ n);
          last = g.left / 2;
          above = y.above;
          order = o.1.1;
          goes_on = λ r s' work' d. x.goes_on r s' work' (kept_by (build_first N g gs F (rows_of s c)) (kept_then (build N gs) (keeps_build N gs) k d));
        }

-- over the gates of a net, the first i of which are added

module _ (N : ℕ) (s₀ : Slices) (work₀ : List ℕ) (gates : List CodeGate) where
  abbrev pub Behind : ℕ → ℕ → ℕ → Slices → List ℕ → Type 0
  Behind i = Left N s₀ work₀ (gates_in gates) (drop i (gates_in gates))

  pub build_starts : {c : ℕ} → BuildAsked N c s₀ work₀ (gates_in gates) → Behind 0 1 0 s₀ work₀
  build_starts a = record {
    live = rw a.none at a.live;
    not_0 = λ q. omega arith;
    used = omega arith;
    last = 0;
    above = rw (root, row_const N (rows_of s₀ 0) 1 (omega arith)) (omega arith);
    order = a.order;
    goes_on = λ r s' work' d. d;
  }

  module _ (i F c : ℕ) (s : Slices) (work : List ℕ) (x : Behind i F c s work) (h : i < length gates) (d : CodeGate) where
    abbrev g : CodeGate
    g = get_or gates i d

    opened : Left N s₀ work₀ (gates_in gates) (lits_of g ∷ drop (i + 1) (gates_in gates)) F c s work
    opened = rw (next_gate gates i d h) at x

    pub gate_asks : GateAsked N c s work (lits_of (get_or gates i d)) F
    gate_asks = left_asks N s₀ work₀ (gates_in gates) F c s work (lits_of g) (drop (i + 1) (gates_in gates)) opened

    pub gate_full : {s₁ : Slices} {work₁ : List ℕ} → Kept N (gate_steps N (lits_of (get_or gates i d)) F) Full c s s₁ work work₁ → Kept N (build N (gates_in gates) 1) Full 0 s₀ s₁ work₀ work₁
    gate_full {s₁} {work₁} d = left_full N s₀ work₀ (gates_in gates) F c s work (lits_of g) (drop (i + 1) (gates_in gates)) opened s₁ work₁ d

    pub gate_next : {G : Row} {n : ℕ} {s₁ : Slices} {work₁ : List ℕ} → Kept N (gate_steps N (lits_of (get_or gates i d)) F) (At G n) c s s₁ work work₁ → Behind (i + 1) G.0 n s₁ work₁
    gate_next {G} {n} {s₁} {work₁} d = left_next N s₀ work₀ (gates_in gates) F c s work (lits_of g) (drop (i + 1) (gates_in gates)) opened G n s₁ work₁ d

  pub build_ends : {i : ℕ} {F : Row} {c : ℕ} {s : Slices} {work : List ℕ} → Behind i F.0 c s work → length gates ≤ i → Kept N (build N (gates_in gates) 1) (At F c) 0 s₀ s work₀ work
  build_ends {i} {F} {c} {s} {work} x h = left_end N s₀ work₀ (gates_in gates) F c s work (rw (drop_of_length-le (gates_in gates) {i = i} (omega (arith, length-map gates lits_of))) at x)
