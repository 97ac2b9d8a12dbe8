use Rattle.std.proofs.Common.{rules}
use Rattle.leads.proofs.Walking.{walk_starts, walk_ends, walk_on_asks, walk_falls, walk_goes_on}
use Rattle.leads.proofs.walk.Goals as goal

pub loop-g-init : goal.loop-g-init
loop-g-init c = walk_starts _ _ _ _ _ c.requires _ _ _ c.row-a.ensures

pub row-a-requires-in-loop-g : goal.row-a-requires-in-loop-g
row-a-requires-in-loop-g c = (walk_on_asks _ _ _ _ _ c.requires _ _ _ _ c.loop-g.invariant (search (rules, c.loop-g-test.ensures))).used

pub loop-g-smaller : goal.loop-g-smaller
loop-g-smaller c = walk_falls _ _ _ _ _ c.requires _ _ _ _ c.loop-g.invariant (search (rules, c.loop-g-test.ensures)) _ _ _ c.row-a-in-loop-g.ensures

pub loop-g-preserved : goal.loop-g-preserved
loop-g-preserved c = walk_goes_on _ _ _ _ _ c.requires _ _ _ _ c.loop-g.invariant (search (rules, c.loop-g-test.ensures)) _ _ _ c.row-a-in-loop-g.ensures

pub returns : goal.returns
returns c = walk_ends _ _ _ _ _ c.requires _ _ _ _ c.loop-g.invariant (search (rules, c.loop-g-test.ensures))
