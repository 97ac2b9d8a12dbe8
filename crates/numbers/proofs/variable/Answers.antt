use Rattle.numbers.specs.Calls.{variable_call, variable_checked}
use Rattle.numbers.proofs.variable.Goals as goal

pub returns-clause-v_value : goal.returns-clause-v_value
unfolding variable_call
returns-clause-v_value c = c.call.ensures.call (λ n s. variable_checked c.args.n n s c.args.v.0) (λ p q r l d. d)
