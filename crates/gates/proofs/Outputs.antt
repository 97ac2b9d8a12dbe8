-- After the system: an output's literal and its normal form, for the crate above.
use Prim.Native.Nat.{ℕ, suc, ◌+◌, ◌/◌, ◌<◌, ◌≤◌}
use mathlib.Core.Path.{◌≡◌, sym, ap, ◌∙◌}
use mathlib.Core.List.{List}
use native.Mathlib.Omega.{arith}
use Rattle.steps.specs.Steps.{Answer, Steps, answer, ◌>>=◌, normal}
use Rattle.steps.specs.Table.{Slices, rows_of}
use Rattle.steps.proofs.Keeps.{keeps_normals}
use Rattle.steps.proofs.Table.{rows_of_next, rows_of_none}
use Rattle.table.specs.declared.Row.{Row}
use Rattle.table.specs.Made.{Made, At, Full}
use Rattle.table.specs.Inner.{Taken, Kept}
use Rattle.table.proofs.Takes.{taken_rows, taken_full, taken_then}
use Rattle.aiger.specs.Form.{Gate}
use Rattle.verdicts.specs.Systems.{literal_steps, build, output_steps}
use Rattle.verdicts.proofs.Building.{whole_system, literal_ok, keeps_reduce}
use Rattle.steps.proofs.Theorems.{right}
use Rattle.gates.specs.Inner.{LiteralAsked, BuildAsked}

module _ (N : ℕ) (s : Slices) (work : List ℕ) (all : List Gate) (a : BuildAsked N 0 s work all) (l : ℕ) (low : l / 2 ≤ N) where
  abbrev reduce : ℕ → Steps
  reduce F = literal_steps N l >>= λ p. normal N p F

  pub system_full : {s₁ : Slices} {work₁ : List ℕ} → Kept N (build N all 1) Full 0 s s₁ work work₁ → Taken (output_steps N all l) Full 0 s s₁
  system_full k = taken_full reduce (keeps_reduce N l) k.taken

  module _ (F : Row) (c : ℕ) (s₁ : Slices) (work₁ : List ℕ) (k : Kept N (build N all 1) (At F c) 0 s s₁ work work₁) where
    -- the system is in use, and is not 0
    system_there : (F.0 < c + 2) × (F.0 ≡ 0 → ⊥)
    system_there =
        let w = whole_system N all a.order in
        let e : answer w.num w.rows ≡ answer F.0 (rows_of s₁ c) = sym w.runs ∙ ap (build N all 1) (sym (rows_of_none s)) ∙ taken_rows k.taken in
        let y = rw (ap (λ (x : Answer). x.num) e, ap (λ (x : Answer). x.rows) e) at w.sys in
        (omega (arith, y.used, rows_of_next s₁ c), y.not_0)

    pub output_asks : LiteralAsked N c s₁ work₁ l
    output_asks = record { live = k.live; low = low }

    pub output_full : {s₂ : Slices} {work₂ : List ℕ} → Kept N (literal_steps N l) Full c s₁ s₂ work₁ work₂ → Taken (output_steps N all l) Full 0 s s₂
    output_full d = taken_then reduce (keeps_reduce N l) k.taken (taken_full (λ p. normal N p F.0) (λ p. keeps_normals N (suc N) p F.0) d.taken)

    module _ (p : Row) (n : ℕ) (s₂ : Slices) (work₂ : List ℕ) (d : Kept N (literal_steps N l) (At p n) c s₁ s₂ work₁ work₂) where
      -- what the normal form asks
      pub normal_used : p.0 < n + 2
      normal_used = let r = right (literal_ok N (rows_of s₁ c) k.live.sound l 0 low (omega arith)) in omega (arith, rw (taken_rows d.taken) at r.used, rows_of_next s₂ n)

      pub normal_system : (F.0 < n + 2) × (F.0 ≡ 0 → ⊥)
      normal_system = let y = system_there in (omega (arith, y.0, d.taken.rest.more), y.1)

      pub output_done : {r : Made} {s₃ : Slices} → Taken (normal N p.0 F.0) r n s₂ s₃ → Taken (output_steps N all l) r 0 s s₃
      output_done t = taken_then reduce (keeps_reduce N l) k.taken (taken_then (λ p. normal N p F.0) (λ p. keeps_normals N (suc N) p F.0) d.taken t)
