-- The first k literals are read and marked, there is room for all, and the rest of the lines is left.
use Prim.Native.Nat.{◌≤◌}
use lib.ListN.{length}
use Rattle.std.proofs.Common.{◌≡◌}
use Rattle.aiger.proofs.LiteralLines.{InputsInv}
use Rattle.nets.proofs.body.read_inputs.Given as goal

abbrev pub invariant-loop-k : goal.invariant-loop-k
invariant-loop-k l = record {
  same : l.defined.highest ≡ l.fn.defined.highest;
  room : l.count ≤ length l.inputs;
  lines : InputsInv l.s l.from l.fn.defined.highest l.count l.fn.inputs l.inputs l.defined.marks l.at l.k;
}
