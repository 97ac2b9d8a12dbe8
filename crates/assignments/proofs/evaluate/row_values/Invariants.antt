use Rattle.table.specs.Views.{viewed}
use Rattle.assignments.specs.Inner.{Evaluated}
use Rattle.assignments.proofs.evaluate.row_values.Given as goal

abbrev pub invariant-loop-i : goal.invariant-loop-i
invariant-loop-i l = Evaluated l.rows.count l.i (viewed l.rows) l.bytes l.values
