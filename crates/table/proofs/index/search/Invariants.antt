use Rattle.std.proofs.Common.{◌≡◌}
use Rattle.steps.specs.Rows.{find}
use Rattle.steps.specs.Table.{rows_of}
use Rattle.table.specs.Views.{triple, viewed}
use Rattle.table.proofs.index.search.Given as goal

abbrev pub invariant-loop-i : goal.invariant-loop-i
invariant-loop-i l = find (rows_of (viewed l.rows) l.i) (triple l.x) ≡ 0
