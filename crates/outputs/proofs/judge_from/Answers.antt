use Rattle.outputs.proofs.Endings.{from_full, reduce_asks, reduce_full, never_done, can_done, pattern_asks}
use Rattle.outputs.proofs.judge_from.Goals as goal

pub returns-in_default-clause-ended : goal.returns-in_default-clause-ended
returns-in_default-clause-ended c = from_full _ _ _ _ _ _ _ _ c.requires c.in_default.ensures.steps.kept _ _

pub reduce-requires : goal.reduce-requires
reduce-requires c = reduce_asks _ _ _ _ _ _ _ _ c.requires _ _ _ _ c.in-Ok.ensures.steps.kept

pub returns-in_default-reduce-clause-ended : goal.returns-in_default-reduce-clause-ended
returns-in_default-reduce-clause-ended c = reduce_full _ _ _ _ _ _ _ _ c.requires _ _ _ _ c.in-Ok.ensures.steps.kept _ _ c.in_default-reduce.ensures.took _ _

pub returns-then-k-eq0-clause-ended : goal.returns-then-k-eq0-clause-ended
returns-then-k-eq0-clause-ended c = never_done _ _ _ _ _ _ _ _ c.requires _ _ _ _ c.in-Ok.ensures.steps.kept _ _ _ _ c.in-Ok-reduce.ensures.took c.if-k-eq0.true _ _

pub write_pattern-requires : goal.write_pattern-requires
write_pattern-requires c = rw (c.rows.ensures.count, c.rows.ensures.rows) (pattern_asks _ _ _ _ _ _ _ _ c.requires _ _ _ _ c.in-Ok.ensures.steps.kept _ _ _ _ c.in-Ok-reduce.ensures.took)

pub returns-clause-ended : goal.returns-clause-ended
returns-clause-ended c = can_done _ _ _ _ _ _ _ _ c.requires _ _ _ _ c.in-Ok.ensures.steps.kept _ _ _ _ c.in-Ok-reduce.ensures.took c.if-k-eq0.false _ _ _ (rw c.rows.ensures.shown at c.write_pattern.ensures)
