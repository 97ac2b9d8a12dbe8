use Rattle.leads.proofs.Filling.{from_fits, table_fits, fill_starts, fill_asks, fill_goes_on}
use Rattle.leads.proofs.fill.Goals as goal

pub overflow_sub-work : goal.overflow_sub-work
overflow_sub-work c = from_fits _ _ _ c.words_used-from.ensures

pub loop-v-init : goal.loop-v-init
loop-v-init c = fill_starts _ _ _ _ _ c.requires.0 c.requires.1

pub past-g-requires : goal.past-g-requires
past-g-requires c = fill_asks _ _ _ _ _ c.requires.0 c.requires.1 _ _ _ c.loop-v.invariant

pub loop-v-preserved : goal.loop-v-preserved
loop-v-preserved c = fill_goes_on _ _ _ _ _ c.requires.0 c.requires.1 _ _ _ c.loop-v.invariant _ c.words_used-from.ensures (table_fits _ _ _ c.words_used-from.ensures _ c.if-work-from.false) c.loop-v-test.true _ c.past-g.ensures
