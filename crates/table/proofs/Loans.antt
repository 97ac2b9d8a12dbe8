-- The slices stay those that were lent, and a result that is an error.
use mathlib.Core.Path.{refl, ◌∙◌}
use Prim.Native.Nat.{ℕ}
use Rattle.std.specs.Prelude.{Result, Ok, Err}
use Rattle.std.specs.Result.{IsErr}
use Rattle.steps.specs.Steps.{Steps}
use Rattle.table.specs.declared.Row.{Row}
use Rattle.table.specs.declared.NoRoom.{NoRoom}
use Rattle.table.specs.declared.Table.{Table}
use Rattle.table.specs.Made.{Full}
use Rattle.table.specs.Inner.{Kept}
use Rattle.table.specs.Tables.{KeptIn}
use Rattle.table.specs.Views.{slices_of, SameLoans}

pub same : {t : Table} → SameLoans t t
same = record { vs = refl; ts = refl; es = refl; work = refl }

pub same_then : {t u v : Table} → SameLoans t u → SameLoans u v → SameLoans t v
same_then a b = record { vs = b.vs ∙ a.vs; ts = b.ts ∙ a.ts; es = b.es ∙ a.es; work = b.work ∙ a.work }

-- an error says that room has run out
pub kept_error : {N : ℕ} {m : Steps} {r : Result Row NoRoom} {t t' : Table} → IsErr r → SameLoans t t' → Kept N m Full t.count (slices_of t) (slices_of t') t.work.now t'.work.now → KeptIn N m r t t'
kept_error {r = Ok k} e a d = absurd (cc)
kept_error {r = Err x} e a d = record { same = a; kept = d }
