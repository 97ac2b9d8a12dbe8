use Rattle.table.specs.Views.{triple, shown}
use Rattle.table.proofs.Walks.{Walk}
use Rattle.table.proofs.index.find.Given as goal

abbrev pub invariant-loop-k : goal.invariant-loop-k
invariant-loop-k l = Walk l.fn.b.words (shown l.rows) (triple l.x) l.k

abbrev pub decreases-loop-k : goal.decreases-loop-k
decreases-loop-k l = l.k
