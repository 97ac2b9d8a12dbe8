use mathlib.Core.Path.{◌∙◌}
use Rattle.steps.proofs.Rows.{row_const}
use Rattle.steps.proofs.Table.{rows_of_number}
use Rattle.table.proofs.rows.Rows.row.Goals as goal

pub returns-then-k-lt2 : goal.returns-then-k-lt2
returns-then-k-lt2 c = row_const _ _ _ c.if-k-lt2.true

pub returns : goal.returns
returns c = rows_of_number _ _ _ _ c.if-k-lt2.false c.requires ∙ c.node.ensures
