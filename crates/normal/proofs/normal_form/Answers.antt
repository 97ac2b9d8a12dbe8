use Rattle.normal.specs.Calls.{normal_checked, normal_call}
use Rattle.normal.proofs.CallLaws.{normal_does}
use Rattle.normal.proofs.normal_form.Goals as goal

pub returns-clause-does : goal.returns-clause-does
unfolding normal_call
returns-clause-does c = normal_does _ _ _ _ _ (c.call.ensures.call (λ n s. normal_checked c.args.n n s c.args.p.0 c.args.f.0) (λ p q r l d. d))
