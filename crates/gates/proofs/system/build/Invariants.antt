use Rattle.table.specs.Views.{slices_of, SameLoans}
use Rattle.gates.proofs.Looping.{Behind}
use Rattle.gates.proofs.system.build.Given as goal

abbrev pub invariant-loop-i : goal.invariant-loop-i
invariant-loop-i l = record {
  same : SameLoans l.initial.t l.t;
  left : Behind l.n (slices_of l.initial.t) l.initial.t.work.now l.gates l.i l.system.0 l.t.count (slices_of l.t) l.t.work.now;
}
