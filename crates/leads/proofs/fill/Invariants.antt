use Rattle.table.specs.Views.{viewed}
use Rattle.leads.proofs.Filling.{Filling}
use Rattle.leads.proofs.fill.Given as goal

abbrev pub invariant-loop-v : goal.invariant-loop-v
invariant-loop-v l = Filling l.n l.rows.count (viewed l.rows) l.initial.work l.work l.initial.g.0 l.g.0 l.v
