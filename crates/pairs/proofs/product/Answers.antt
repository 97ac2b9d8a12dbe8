use Rattle.steps.specs.Steps.{product}
use Rattle.pairs.proofs.PairCalls.{product_answered}
use Rattle.pairs.proofs.product.Goals as goal

pub pair-requires-clause-takes : goal.pair-requires-clause-takes
pair-requires-clause-takes c = (product c.args.n c.args.f.0 c.args.g.0, λ p q r a d. d.2)

pub returns-clause-answered : goal.returns-clause-answered
returns-clause-answered c = product_answered _ _ _ _ _ (c.pair.ensures.call (product c.args.n c.args.f.0 c.args.g.0) (λ p q r a d. d.2))
