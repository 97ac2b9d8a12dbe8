use lib.ListN.{length-set}
use Rattle.std.proofs.Common.{sym, ◌∙◌}
use Rattle.aiger.proofs.LiteralLines.{inputs_next}
use Rattle.nets.proofs.body.read_inputs.Goals as goal

pub loop-k-preserved : goal.loop-k-preserved
loop-k-preserved c =
    let lines = c.loop-k.invariant.lines in
    record {
      same = c.define.ensures.same ∙ c.loop-k.invariant.same;
      room = rw length-set c.loop-k.invariant.room;
      lines = inputs_next lines c.loop-k.invariant.room c.loop-k-test.true (sym c.in_ok-number.ensures)
          (sym (rw c.loop-k.invariant.same at (c.allows.ensures.is _ lines.marked)) ∙ c.if-not-allows.false)
          (c.define.ensures.more _ lines.marked);
    }
