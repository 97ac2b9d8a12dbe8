use Rattle.table.specs.Views.{viewed}
use Rattle.checks.proofs.Checking.{Checking}
use Rattle.checks.proofs.check.rows_sound.Given as goal

abbrev pub invariant-loop-i : goal.invariant-loop-i
invariant-loop-i l = Checking l.n l.rows.count l.i (viewed l.rows) l.initial.work l.work
