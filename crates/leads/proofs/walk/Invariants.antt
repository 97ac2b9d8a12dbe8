use Prim.Native.Nat.{◌-◌}
use Rattle.table.specs.Views.{shown}
use Rattle.leads.proofs.Walking.{Walked}
use Rattle.leads.proofs.walk.Given as goal

abbrev pub invariant-loop-g : goal.invariant-loop-g
invariant-loop-g l = Walked l.n (shown l.rows) l.v.0 l.initial.g.0 l.g.0 l.a.v.0 l.a.t.0 l.a.e.0

abbrev pub decreases-loop-g : goal.decreases-loop-g
decreases-loop-g l = l.n - l.a.v.0
