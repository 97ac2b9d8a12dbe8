use mathlib.Core.Path.{refl, ◌∙◌}
use native.Mathlib.Omega.{arith}
use Rattle.steps.specs.Rows.{find}
use Rattle.steps.specs.Table.{rows_of}
use Rattle.table.proofs.Walks.{search_here, search_on}
use Rattle.table.proofs.index.search.Goals as goal

pub loop-i-init : goal.loop-i-init
unfolding rows_of find
loop-i-init c = refl

pub returns-then-is : goal.returns-then-is
returns-then-is c = record { is = search_here _ _ _ _ c.loop-i.invariant c.loop-i-test.true (c.is.ensures ∙ c.if-is.true); some = omega arith }

pub loop-i-preserved : goal.loop-i-preserved
loop-i-preserved c = search_on _ 0 _ _ c.loop-i.invariant (c.is.ensures ∙ c.if-is.false)
