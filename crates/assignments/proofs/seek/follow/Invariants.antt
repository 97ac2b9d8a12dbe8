use Rattle.table.specs.Views.{viewed}
use Rattle.assignments.proofs.Ones.{Following}
use Rattle.assignments.proofs.seek.follow.Given as goal

abbrev pub invariant-loop-k : goal.invariant-loop-k
invariant-loop-k l = Following l.rows.count (viewed l.rows) l.initial.k.0 l.k.0 l.initial.bytes l.bytes

abbrev pub decreases-loop-k : goal.decreases-loop-k
decreases-loop-k l = l.k.0
