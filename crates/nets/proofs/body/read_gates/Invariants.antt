-- The first k gates are read and marked, and the rest of the lines is left.
use Rattle.std.proofs.Common.{◌≡◌}
use Rattle.aiger.proofs.GateLines.{GatesInv}
use Rattle.nets.proofs.body.read_gates.Given as goal

abbrev pub invariant-loop-k : goal.invariant-loop-k
invariant-loop-k l = record {
  same : l.defined.highest ≡ l.fn.defined.highest;
  lines : GatesInv l.s l.from l.fn.defined.highest l.n l.count l.fn.gates l.gates l.fn.defined.marks l.defined.marks l.at l.k l.last.0;
}
