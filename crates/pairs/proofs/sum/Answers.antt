use Rattle.steps.specs.Steps.{sum}
use Rattle.pairs.proofs.PairCalls.{sum_answered}
use Rattle.pairs.proofs.sum.Goals as goal

pub pair-requires-clause-takes : goal.pair-requires-clause-takes
pair-requires-clause-takes c = (sum c.args.n c.args.f.0 c.args.g.0, λ p q r a d. d.2)

pub returns-clause-answered : goal.returns-clause-answered
returns-clause-answered c = sum_answered _ _ _ _ _ (c.pair.ensures.call (sum c.args.n c.args.f.0 c.args.g.0) (λ p q r a d. d.2))
