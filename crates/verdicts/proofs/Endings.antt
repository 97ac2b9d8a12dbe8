-- How the circuit call ends: what taken steps leave is what its definition says.
use Prim.Native.Nat.{ℕ, zero, suc}
use mathlib.Core.Path.{◌≡◌, refl, sym, ap, ◌∙◌}
use mathlib.Core.List.{List}
use lib.ListN.{get_or}
use Rattle.steps.specs.One.{one}
use Rattle.steps.specs.Room.{Ending, made, within}
use Rattle.steps.specs.Steps.{Steps}
use Rattle.steps.specs.Table.{Slices, rows_of}
use Rattle.steps.proofs.Table.{rows_of_count}
use Rattle.table.specs.declared.Row.{Row}
use Rattle.table.specs.Made.{At, Full}
use Rattle.table.specs.Calls.{laid, cleared, Left as TableLeft, end_in}
use Rattle.table.specs.Inner.{Taken}
use Rattle.table.specs.Lent.{room, Lent}
use Rattle.table.proofs.Ends.{taken_ends}
use Rattle.aiger.specs.Net.{Net}
use Rattle.verdicts.specs.Calls.{verdict_0, verdict_1, verdict_2, left, end_with}
use Rattle.verdicts.specs.Patterns.{bytes, pattern_of}
use Rattle.verdicts.specs.Systems.{output_steps}
use Rattle.verdicts.specs.Verdicts.{Verdict, judged, verdict_of}

-- from an empty table: the rows in use are those that stand there, and nothing behind them was touched
module _ {m : Steps} (s : Slices) (lent : Lent 0 s) where
  laid_there : {k : Row} {n : ℕ} {s' : Slices} → Taken m (At k n) 0 s s' → laid (rows_of s' n) s ≡ s'
  laid_there d = ap (λ (l : TableLeft). l.table) (sym (ap (λ (x : Ending). end_in x 0 s) d.is) ∙ taken_ends lent d)

  cleared_there : {s' : Slices} → Taken m Full 0 s s' → cleared 0 s ≡ cleared 0 s'
  cleared_there d = ap (λ (l : TableLeft). l.table) (sym (ap (λ (x : Ending). end_in x 0 s) d.is) ∙ taken_ends lent d)

module _ (net : Net) (s : Slices) (o : ℕ) (p : List ℕ) (lent : Lent 0 s) where
  abbrev output : Steps
  output = output_steps net.M net.gates (get_or net.outputs o 0)

  -- what the steps for output o come to
  comes_to : {r : Ending} → within (room s) (output (rows_of s 0)) ≡ r → verdict_of net (room s) o ≡ judged net r
  unfolding rows_of
  comes_to e = ap (judged net) e

  pub ends_at_0 : {k : Row} {n : ℕ} {s' : Slices} → Taken (output_steps net.M net.gates (get_or net.outputs o 0)) (At k n) 0 s s' → k.0 ≡ 0
      → end_with (verdict_of net (room s) o) s p ≡ left (verdict_0 n) s' p
  ends_at_0 {k} {n} {s'} d z =
      ap (λ (v : Verdict). end_with v s p) (comes_to d.is ∙ ap (λ (j : ℕ). judged net (made j (rows_of s' n))) z)
      ∙ (λ i. left (verdict_0 (rows_of_count s' n i)) (laid_there s lent d i) p)

  pub ends_at_1 : {k : Row} {n : ℕ} {s' : Slices} → Taken (output_steps net.M net.gates (get_or net.outputs o 0)) (At k n) 0 s s' → (k.0 ≡ 0 → ⊥)
      → end_with (verdict_of net (room s) o) s p ≡ left (verdict_1 n) s' (bytes (pattern_of net (one (rows_of s' n) k.0)))
  ends_at_1 {k} {n} {s'} d z = go k.0 refl
    where
      go : (j : ℕ) → k.0 ≡ j → end_with (verdict_of net (room s) o) s p ≡ left (verdict_1 n) s' (bytes (pattern_of net (one (rows_of s' n) k.0)))
      go zero e = absurd (z e)
      go (suc j) e =
          ap (λ (v : Verdict). end_with v s p) (comes_to d.is ∙ ap (λ (i : ℕ). judged net (made i (rows_of s' n))) e)
          ∙ (λ i. left (verdict_1 (rows_of_count s' n i)) (laid_there s lent d i) (bytes (pattern_of net (one (rows_of s' n) (sym e i)))))

  pub ends_full : {s' : Slices} → Taken (output_steps net.M net.gates (get_or net.outputs o 0)) Full 0 s s' → end_with (verdict_of net (room s) o) s p ≡ left verdict_2 (cleared 0 s') p
  ends_full d = ap (λ (v : Verdict). end_with v s p) (comes_to d.is) ∙ ap (λ (t : Slices). left verdict_2 t p) (cleared_there s lent d)
