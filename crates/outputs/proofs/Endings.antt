-- What the steps from the system come to.
use Prim.Native.Nat.{ℕ, zero, suc}
use mathlib.Core.Path.{◌≡◌, refl, sym, ap, ◌∙◌}
use mathlib.Core.List.{List}
use native.Mathlib.Omega.{arith}
use Rattle.steps.specs.One.{one}
use Rattle.steps.specs.Room.{Ending, made, within}
use Rattle.steps.specs.Steps.{Steps, normal}
use Rattle.steps.specs.Table.{Slices, rows_of}
use Rattle.steps.proofs.Keeps.{Keeps, keeps_normals}
use Rattle.steps.proofs.Table.{rows_of_next, rows_of_count}
use Rattle.steps.proofs.Theorems.{right, normal_right}
use Rattle.table.specs.declared.Row.{Row}
use Rattle.table.specs.Made.{Made, At, Full}
use Rattle.table.specs.Inner.{Taken, Kept}
use Rattle.table.specs.Lent.{room}
use Rattle.table.proofs.Takes.{taken_rows, taken_full, taken_then}
use Rattle.reduction.specs.Inner.{Asked, Took}
use Rattle.verdicts.specs.Calls.{verdict_0, verdict_1}
use Rattle.verdicts.specs.Systems.{literal_steps}
use Rattle.verdicts.proofs.Building.{literal_ok}
use Rattle.endings.specs.Answers.{Never, Can, RoomOut}
use Rattle.endings.specs.Inner.{bytes_at, PatternAsked}
use Rattle.outputs.specs.Inner.{output_from, ending_answer, ending_pattern, FromAsked, Stays, Ended}

taken_stays : {m : Steps} {r : Made} {c : ℕ} {s s' : Slices} → Taken m r c s s' → Stays c s s'
taken_stays t = record { vars = t.vars; thens = t.thens; elses = t.elses; kept = t.kept }

-- taken steps, as a verdict
module _ (m : Steps) (M : ℕ) (ls : List ℕ) (c : ℕ) (s s' : Slices) (p : List ℕ) where
  ended_full : Taken m Full c s s' → Ended m M ls RoomOut c s s' p p
  ended_full t = record { answer = ap ending_answer t.is; pattern = ap (λ (e : Ending). ending_pattern e M ls p) t.is; stays = taken_stays t }

  module _ (k : Row) (n : ℕ) (t : Taken m (At k n) c s s') where
    ended_never : k.0 ≡ 0 → Ended m M ls (Never n) c s s' p p
    ended_never z =
        let e : within (room s) (m (rows_of s c)) ≡ made 0 (rows_of s' n) = t.is ∙ ap (λ (i : ℕ). made i (rows_of s' n)) z in
        record { answer = ap ending_answer e ∙ ap verdict_0 (rows_of_count s' n); pattern = ap (λ (x : Ending). ending_pattern x M ls p) e; stays = taken_stays t }

    ended_can : (k.0 ≡ 0 → ⊥) → (p' : List ℕ) → p' ≡ bytes_at M (one (rows_of s' n) k.0) ls → Ended m M ls (Can n) c s s' p p'
    ended_can z p' q = go k.0 refl
      where
        go : (i : ℕ) → k.0 ≡ i → Ended m M ls (Can n) c s s' p p'
        go zero y = absurd (z y)
        go (suc i) y =
            let e : within (room s) (m (rows_of s c)) ≡ made (suc i) (rows_of s' n) = t.is ∙ ap (λ (j : ℕ). made j (rows_of s' n)) y in
            record {
              answer = ap ending_answer e ∙ ap verdict_1 (rows_of_count s' n);
              pattern = ap (λ (x : Ending). ending_pattern x M ls p) e ∙ ap (λ (j : ℕ). bytes_at M (one (rows_of s' n) j) ls) (sym y) ∙ sym q;
              stays = taken_stays t;
            }

-- the literal, and its normal form
module _ (M c : ℕ) (s : Slices) (work : List ℕ) (l F : ℕ) (ins : List ℕ) (I : ℕ) (a : FromAsked M c s work l F ins I) where
  keeps : (x : ℕ) → Keeps (normal M x F)
  keeps x = keeps_normals M (suc M) x F

  pub from_full : {s₁ : Slices} {work₁ : List ℕ} → Kept M (literal_steps M l) Full c s s₁ work work₁ → (ls p : List ℕ) → Ended (output_from M l F) M ls RoomOut c s s₁ p p
  from_full {s₁} k ls p = ended_full (output_from M l F) M ls c s s₁ p (taken_full (λ x. normal M x F) keeps k.taken)

  module _ (x : Row) (n : ℕ) (s₁ : Slices) (work₁ : List ℕ) (k : Kept M (literal_steps M l) (At x n) c s s₁ work work₁) where
    pub reduce_asks : Asked M n s₁ work₁ x.0 F
    reduce_asks = record {
      live = k.live;
      used = let r = right (literal_ok M (rows_of s c) a.live.sound l 0 a.low (omega arith)) in omega (arith, rw (taken_rows k.taken) at r.used, rows_of_next s₁ n);
      system = record { used = omega (arith, a.system.used, k.taken.rest.more); not_0 = a.system.not_0 };
    }

    module _ (s₂ : Slices) (work₂ : List ℕ) where
      both_taken : {r : Made} → Took M (normal M x.0 F) r n s₁ s₂ work₁ work₂ → Taken (output_from M l F) r c s s₂
      both_taken t = taken_then (λ y. normal M y F) keeps k.taken t.taken

      pub reduce_full : Took M (normal M x.0 F) Full n s₁ s₂ work₁ work₂ → (ls p : List ℕ) → Ended (output_from M l F) M ls RoomOut c s s₂ p p
      reduce_full t ls p = ended_full (output_from M l F) M ls c s s₂ p (both_taken t)

      module _ (y : Row) (n₂ : ℕ) (t : Took M (normal M x.0 F) (At y n₂) n s₁ s₂ work₁ work₂) where
        pub never_done : y.0 ≡ 0 → (ls p : List ℕ) → Ended (output_from M l F) M ls (Never n₂) c s s₂ p p
        never_done z ls p = ended_never (output_from M l F) M ls c s s₂ p y n₂ (both_taken t) z

        pub can_done : (y.0 ≡ 0 → ⊥) → (ls p p' : List ℕ) → p' ≡ bytes_at M (one (rows_of s₂ n₂) y.0) ls → Ended (output_from M l F) M ls (Can n₂) c s s₂ p p'
        can_done z ls p p' q = ended_can (output_from M l F) M ls c s s₂ p y n₂ (both_taken t) z p' q

        pub pattern_asks : PatternAsked M n₂ s₂ y.0 ins I
        pattern_asks =
            let b = reduce_asks in
            let r = normal_right M (rows_of s₁ n) b.live.sound x.0 F (omega (arith, b.used, rows_of_next s₁ n)) (omega (arith, b.system.used, rows_of_next s₁ n)) 0 (omega arith) (omega arith) b.system.not_0 in
            record {
              lent = t.live.indexed.lent;
              sound = t.live.sound;
              used = omega (arith, rw (taken_rows t.taken) at r.used, rows_of_next s₂ n₂);
              vars = a.vars;
              long = a.long;
              positive = a.positive;
              low = a.inputs_low;
            }
