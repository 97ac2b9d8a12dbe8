use Rattle.table.proofs.Loans.{same_then, kept_error}
use Rattle.gates.proofs.Joining.{joined_full, equation_asks, joined_made}
use Rattle.gates.proofs.system.joined.Goals as goal

pub returns-in_err-tail : goal.returns-in_err-tail
returns-in_err-tail c = kept_error c.from_residual.ensures.0 c.in_err-tail.ensures.same (joined_full _ _ _ _ _ _ _ _ c.requires c.in_err-tail.ensures.kept)

pub make-requires : goal.make-requires
make-requires c = equation_asks _ _ _ _ _ _ _ _ c.requires _ _ _ _ c.in_ok-tail.ensures.kept

pub returns : goal.returns
returns c = record { same = same_then c.in_ok-tail.ensures.same c.make.ensures.same; kept = joined_made _ _ _ _ _ _ _ _ c.requires _ _ _ _ c.in_ok-tail.ensures.kept c.make.ensures.entered }
