use Rattle.std.proofs.Common.{rules}
use Rattle.sums.proofs.Splits.{is_less, is_more, is_both}
use Rattle.sums.proofs.parts.split.Goals as goal

pub returns-in-Less : goal.returns-in-Less
returns-in-Less c = is_less _ _ _ _ c.row-a.ensures c.row-b.ensures (search (rules, c.in-Less.ensures))

pub returns-in-Greater : goal.returns-in-Greater
returns-in-Greater c = is_more _ _ _ _ c.row-a.ensures c.row-b.ensures (search (rules, c.in-Greater.ensures))

pub returns-in-Equal : goal.returns-in-Equal
returns-in-Equal c = is_both _ _ _ _ c.row-a.ensures c.row-b.ensures (search (rules, c.in-Equal.ensures))
