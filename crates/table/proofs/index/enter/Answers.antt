use Rattle.table.specs.Index.{link}
use Rattle.table.proofs.Links.{enter_not, enter_is}
use Rattle.table.proofs.index.enter.Goals as goal

pub returns-then-b-eq0 : goal.returns-then-b-eq0
returns-then-b-eq0 c = λ r q. enter_not _ _ r _ c.if-b-eq0.true

pub returns : goal.returns
unfolding link
returns c = λ r q. enter_is _ _ _ r _ c.if-b-eq0.false q
