-- The first k literals are read, there is room for all, and the rest of the lines is left.
use Prim.Native.Nat.{◌≤◌}
use lib.ListN.{length}
use Rattle.aiger.proofs.LiteralLines.{OutputsInv}
use Rattle.nets.proofs.body.read_outputs.Given as goal

abbrev pub invariant-loop-k : goal.invariant-loop-k
invariant-loop-k l = record {
  room : l.count ≤ length l.outputs;
  lines : OutputsInv l.s l.from l.n l.count l.fn.outputs l.outputs l.at l.k;
}
