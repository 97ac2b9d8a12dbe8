use Rattle.normal.specs.Calls.{equation_checked, equation_call}
use Rattle.normal.proofs.CallLaws.{equation_does}
use Rattle.normal.proofs.equation.Goals as goal

pub returns-clause-does : goal.returns-clause-does
unfolding equation_call
returns-clause-does c =
    equation_does _ _ _ _ _ _ (c.call.ensures.call (λ n s. equation_checked c.args.n n s c.args.lead.0 c.args.system.0 c.args.tail.0) (λ p q r l d. d))
