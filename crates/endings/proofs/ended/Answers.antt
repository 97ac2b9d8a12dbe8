use Rattle.endings.proofs.Ends.{ends_never}
use Rattle.endings.proofs.ended.Goals as goal

-- written out, so that a wrong count is refused at once
pub returns-then-k-eq0-clause-answered : goal.returns-then-k-eq0-clause-answered
returns-then-k-eq0-clause-answered c = rw c.in-Ok.is (ends_never _ _ _ _ c.if-k-eq0.true)
