-- The written steps, taken in a call.
use mathlib.Core.Path.{◌≡◌}
use lib.ListN.{length}
use Rattle.std.specs.Prelude.{Result, Ok, Err}
use Rattle.steps.specs.Steps.{Steps}
use Rattle.table.specs.declared.Row.{Row}
use Rattle.table.specs.declared.Table.{Table}
use Rattle.table.specs.Calls.{take_steps}
use Rattle.table.specs.Inner.{Taken}
use Rattle.table.specs.Lent.{Lent}
use Rattle.table.specs.Made.{Made, At, Full}
use Rattle.table.specs.declared.Refusal.{Refusal}
use Rattle.table.specs.declared.Refusal.TheVariants.{RoomOut}
use Rattle.std.specs.Result.{IsErrAnd}
use Rattle.table.specs.Views.{slices_of, SameLoans}
use Rattle.table.proofs.Ends.{taken_ends}
use Rattle.table.proofs.Takes.{taken_lends}
use Rattle.checks.specs.Steps.{StillLent, StepsTo}

module _ {m : Steps} {t t' : Table} (l : Lent t.count (slices_of t)) (a : SameLoans t t') (w : length t'.work.now ≡ length t.work.now) where
  kept : {r : Made} → Taken m r t.count (slices_of t) (slices_of t') → StillLent t t'
  kept d = record { same = a; lent = taken_lends l d; length = w }

  -- a number was made
  pub made_to : {k : Row} → Taken m (At k t'.count) t.count (slices_of t) (slices_of t') → StepsTo (take_steps m t.count (slices_of t)) (Ok k) t t'
  made_to d = record { kept = kept d; ends = taken_ends l d }

  -- room has run out, and the call's result says so
  pub full_to : (r : Result Row Refusal) → IsErrAnd r (λ why. why ≡ RoomOut) → Taken m Full t.count (slices_of t) (slices_of t') → StepsTo (take_steps m t.count (slices_of t)) r t t'
  full_to (Ok k) h d = absurd h
  full_to (Err why) h d = rw h (record { kept = kept d; ends = taken_ends l d })
