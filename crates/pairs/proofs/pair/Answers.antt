use Rattle.pairs.specs.Calls.{pair_checked, pair_call}
use Rattle.pairs.proofs.pair.Goals as goal

pub returns-clause-call : goal.returns-clause-call
unfolding pair_call
returns-clause-call g c = λ m k. c.call.ensures.call (λ n s. pair_checked m n s c.args.f.0 c.args.g.0) (λ p q r l d. d.1 m k)
