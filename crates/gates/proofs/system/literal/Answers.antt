use Rattle.gates.proofs.Joining.{literal_constant, literal_made}
use Rattle.table.proofs.Loans.{same}
use Rattle.gates.proofs.system.literal.Goals as goal

pub returns-then-l-lt2-clause-steps : goal.returns-then-l-lt2-clause-steps
returns-then-l-lt2-clause-steps c = record { same = same; kept = literal_constant _ _ _ _ _ c.requires.live c.if-l-lt2.true }

pub returns-clause-steps : goal.returns-clause-steps
returns-clause-steps c = record { same = c.make.ensures.same; kept = literal_made _ _ _ _ _ c.requires c.if-l-lt2.false c.make.ensures.entered }
