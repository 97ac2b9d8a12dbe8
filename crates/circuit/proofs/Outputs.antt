-- The system, an output's literal and its normal form, one after the other.
use Prim.Native.Nat.{ℕ}
use mathlib.Core.Path.{◌≡◌, subst, ◌∙◌}
use mathlib.Core.List.{List}
use Rattle.std.specs.Prelude.{Result, Ok, Err}
use Rattle.std.specs.Result.{IsErr}
use Rattle.steps.specs.Steps.{Steps, normal}
use Rattle.steps.specs.Table.{Slices}
use Rattle.table.specs.declared.Row.{Row}
use Rattle.table.specs.declared.NoRoom.{NoRoom}
use Rattle.table.specs.declared.Table.{Table}
use Rattle.table.specs.Made.{Made, At, Full}
use Rattle.table.specs.Inner.{Kept}
use Rattle.table.specs.Views.{slices_of, SameLoans}
use Rattle.aiger.specs.Form.{Gate}
use Rattle.reduction.specs.Inner.{Asked, Took, TookIn}
use Rattle.verdicts.specs.Systems.{literal_steps, build, output_steps}
use Rattle.gates.specs.Inner.{BuildAsked}
use Rattle.gates.proofs.Outputs as gates
use Rattle.circuit.specs.Inner.{OutputAsked}

module _ (N c₀ : ℕ) (s : Slices) (work : List ℕ) (all : List Gate) (l : ℕ) (a : OutputAsked N c₀ s work all l) where
  none : c₀ ≡ 0
  none = a.build.none

  empty : BuildAsked N 0 s work all
  empty = subst (λ (c : ℕ). BuildAsked N c s work all) none a.build

  pub system_full : {s₁ : Slices} {work₁ : List ℕ} → Kept N (build N all 1) Full c₀ s s₁ work work₁ → Took N (output_steps N all l) Full c₀ s s₁ work work₁
  system_full k = record { taken = rw none (gates.system_full N s work all empty l a.low (rw none at k)); live = tt; same_length = k.behind.same_length }

  module _ (F : Row) (c : ℕ) (s₁ : Slices) (work₁ : List ℕ) (k : Kept N (build N all 1) (At F c) c₀ s s₁ work work₁) where
    built : Kept N (build N all 1) (At F c) 0 s s₁ work work₁
    built = rw none at k

    pub literal_full : {s₂ : Slices} {work₂ : List ℕ} → Kept N (literal_steps N l) Full c s₁ s₂ work₁ work₂ → Took N (output_steps N all l) Full c₀ s s₂ work work₂
    literal_full d = record { taken = rw none (gates.output_full N s work all empty l a.low F c s₁ work₁ built d); live = tt; same_length = d.behind.same_length ∙ k.behind.same_length }

    module _ (p : Row) (m : ℕ) (s₂ : Slices) (work₂ : List ℕ) (d : Kept N (literal_steps N l) (At p m) c s₁ s₂ work₁ work₂) where
      pub reduce_asks : Asked N m s₂ work₂ p.0 F.0
      reduce_asks =
          let y = gates.normal_system N s work all empty l a.low F c s₁ work₁ built p m s₂ work₂ d in
          record { live = d.live; used = gates.normal_used N s work all empty l a.low F c s₁ work₁ built p m s₂ work₂ d; system = record { used = y.0; not_0 = y.1 } }

      pub output_took : {r : Made} {s₃ : Slices} {work₃ : List ℕ} → Took N (normal N p.0 F.0) r m s₂ s₃ work₂ work₃ → Took N (output_steps N all l) r c₀ s s₃ work work₃
      output_took t = record {
        taken = rw none (gates.output_done N s work all empty l a.low F c s₁ work₁ built p m s₂ work₂ d t.taken);
        live = t.live;
        same_length = t.same_length ∙ d.behind.same_length ∙ k.behind.same_length;
      }

-- an error says that room has run out
pub took_error : {N : ℕ} {m : Steps} {r : Result Row NoRoom} {t t' : Table} → IsErr r → SameLoans t t' → Took N m Full t.count (slices_of t) (slices_of t') t.work.now t'.work.now → TookIn N m r t t'
took_error {r = Ok k} e same d = absurd (cc)
took_error {r = Err x} e same d = record { same = same; took = d }
