use Rattle.std.proofs.Common.{arith}
use Rattle.aiger.proofs.Marking.{marked}
use Rattle.nets.proofs.defined.Defined.define.Goals as goal

pub returns-clause-more : goal.returns-clause-more
returns-clause-more c = λ ls m. marked _ ls _ m (omega arith)
