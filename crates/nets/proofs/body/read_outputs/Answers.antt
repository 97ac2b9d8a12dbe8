use lib.ListN.{length-set}
use Rattle.std.proofs.Common.{sym}
use Rattle.aiger.proofs.LiteralLines.{outputs_next}
use Rattle.nets.proofs.body.read_outputs.Goals as goal

pub loop-k-preserved : goal.loop-k-preserved
loop-k-preserved c = let i = c.loop-k.invariant in record {
  room = rw length-set i.room;
  lines = outputs_next i.lines i.room c.loop-k-test.true (sym c.in_ok-number.ensures);
}
