use Rattle.std.proofs.Common.{length, arith, length-take}
use Rattle.table.proofs.Words.{reach_fits}
use Rattle.checks.proofs.check.check.Goals as goal

pub slice_bounds-fill-end-2 : goal.slice_bounds-fill-end-2
slice_bounds-fill-end-2 c = omega (arith, c.words_used-used.ensures, reach_fits (length c.in_ok-rows.rows.vs.now) (length c.args.work.now), length-take c.words_used-used.result c.args.work.now)
