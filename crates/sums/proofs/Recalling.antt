-- Results that are remembered, of any operation.
use Prim.Native.Nat.{ℕ, ◌+◌, ◌*◌, ◌<◌, ◌≤◌}
use mathlib.Core.Path.{◌≡◌, sym, ap, subst, ◌∙◌}
use mathlib.Core.Bool.{Bool}
use mathlib.Core.List.{List}
use native.Mathlib.Omega.{arith}
use lib.ListN.{length, set}
use Rattle.steps.specs.Rows.{Rows, Assignment}
use Rattle.steps.specs.Steps.{Steps, answer}
use Rattle.steps.specs.Table.{Slices, rows_of}
use Rattle.steps.proofs.Rows.{stop}
use Rattle.steps.proofs.Table.{rows_of_next}
use Rattle.steps.proofs.Theorems.{Right}
use Rattle.table.specs.declared.Row.{Row}
use Rattle.table.specs.Made.{At}
use Rattle.std.specs.Prelude.{Option, Some}
use Rattle.table.specs.Lent.{room}
use Rattle.table.specs.Memory.{steps_of, key_of, Live, Remembered, Place, Recalls}
use Rattle.table.specs.Inner.{Kept}
use Rattle.table.proofs.Takes.{taken_rows}
use Rattle.table.proofs.Words.{live_small, live_recalls, live_written, behind_written, behind_trans}

-- the operation op on f and g, whose steps are m, with its key
module _ (N c : ℕ) (s : Slices) (work : List ℕ) (live : Live N c s work) (op f g : ℕ) (known : op < 4) (uf : f < c + 2) (ug : g < c + 2) (key : ℕ) (z : key_of op f g ≡ key) where
  pub key_fits : key < 65536 * 65536 * 4
  key_fits = omega (arith, live_small N c s work live f uf, live_small N c s work live g ug)

  module _ (some : 0 < op) (m : Steps) (is : steps_of N op f g ≡ m) (i : ℕ) (place : Place (room s) (length work) i) where
    pub steps_recalled : {r : Option Row} {k : Row} → r ≡ Some k → Recalls r work i key → m (rows_of s c) ≡ answer k.0 (rows_of s c)
    steps_recalled {r} {k} e h =
        let w = subst (λ (x : Option Row). Recalls x work i key) e h in
        ap (λ (n : Steps). n (rows_of s c)) (sym is) ∙ live_recalls N c s work live op f g k.0 i some known uf ug place (rw z w)

    module _ (system : op ≡ 3 → g ≡ 0 → ⊥) (p : Assignment → Bool) (right : Right N m (rows_of s c) 0 p)
        (k : Row) (n : ℕ) (s' : Slices) (work' : List ℕ) (e : Kept N m (At k n) c s s' work work') where
      abbrev S : Rows
      S = rows_of s' n

      made : m (rows_of s c) ≡ answer k.0 S
      made = taken_rows e.taken

      more : c ≤ n
      more = e.taken.rest.more

      word : Remembered N S op f g k.0
      word = record {
        left = omega (arith, rows_of_next s' n, more);
        right = omega (arith, rows_of_next s' n, more);
        system = system;
        is = ap (λ (x : Steps). x S) is ∙ (rw made at (right.replay S (rw made stop)));
      }

      small : k.0 < 65536
      small = live_small N n s' work' e.live k.0 (omega (arith, rows_of_next s' n, rw made at right.used))

      place' : Place (room s') (length work') i
      place' = rw (e.taken.vars, e.behind.same_length) place

      pub steps_remembered : (work'' : List ℕ) → set work' i (key * 65536 + k.0) ≡ work'' → Kept N m (At k n) c s s' work work''
      steps_remembered work'' w = record {
        taken = e.taken;
        live = rw (← w, ← z) (live_written N n s' work' e.live op f g k.0 (omega (arith, more)) (omega (arith, more)) small word i place');
        behind = behind_trans e.behind (rw (← w) (rw e.taken.vars at (behind_written (room s') work' i (key * 65536 + k.0) place')));
      }
