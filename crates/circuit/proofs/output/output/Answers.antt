use Rattle.table.proofs.Loans.{same_then}
use Rattle.circuit.proofs.Outputs.{system_full, literal_full, reduce_asks, output_took, took_error}
use Rattle.circuit.proofs.output.output.Goals as goal

pub returns-in_err-system : goal.returns-in_err-system
returns-in_err-system c = took_error c.from_residual.ensures.0 c.in_err-system.ensures.same (system_full _ _ _ _ _ _ c.requires c.in_err-system.ensures.kept)

pub returns-in_err-p : goal.returns-in_err-p
returns-in_err-p c = took_error c.from_residual-in_err-p.ensures.0 (same_then c.in_ok-system.ensures.same c.in_err-p.ensures.steps.same) (literal_full _ _ _ _ _ _ c.requires _ _ _ _ c.in_ok-system.ensures.kept c.in_err-p.ensures.steps.kept)

pub reduce-requires : goal.reduce-requires
reduce-requires c = reduce_asks _ _ _ _ _ _ c.requires _ _ _ _ c.in_ok-system.ensures.kept _ _ _ _ c.in_ok-p.ensures.steps.kept

pub returns : goal.returns
returns c = record {
  same = same_then c.in_ok-system.ensures.same (same_then c.in_ok-p.ensures.steps.same c.reduce.ensures.same);
  took = output_took _ _ _ _ _ _ c.requires _ _ _ _ c.in_ok-system.ensures.kept _ _ _ _ c.in_ok-p.ensures.steps.kept c.reduce.ensures.took;
}
