use Rattle.table.proofs.Loans.{same_then, kept_error}
use Rattle.gates.proofs.Joining.{first_asks, first_full, second_asks, second_full, third_asks, gate_done}
use Rattle.gates.proofs.system.gate.Goals as goal

pub literal-requires : goal.literal-requires
literal-requires c = first_asks _ _ _ _ _ _ c.requires

pub returns-in_err-f : goal.returns-in_err-f
returns-in_err-f c = kept_error c.from_residual.ensures.0 c.in_err-f.ensures.steps.same (first_full _ _ _ _ _ _ c.requires c.in_err-f.ensures.steps.kept)

pub literal-requires-2 : goal.literal-requires-2
literal-requires-2 c = second_asks _ _ _ _ _ _ c.requires _ _ _ _ c.in_ok-f.ensures.steps.kept

pub returns-in_err-h : goal.returns-in_err-h
returns-in_err-h c = kept_error c.from_residual-in_err-h.ensures.0 (same_then c.in_ok-f.ensures.steps.same c.in_err-h.ensures.steps.same) (second_full _ _ _ _ _ _ c.requires _ _ _ _ c.in_ok-f.ensures.steps.kept c.in_err-h.ensures.steps.kept)

pub joined-requires : goal.joined-requires
joined-requires c = third_asks _ _ _ _ _ _ c.requires _ _ _ _ c.in_ok-f.ensures.steps.kept _ _ _ _ c.in_ok-h.ensures.steps.kept

pub returns : goal.returns
returns c = record {
  same = same_then c.in_ok-f.ensures.steps.same (same_then c.in_ok-h.ensures.steps.same c.joined.ensures.same);
  kept = gate_done _ _ _ _ _ _ c.requires _ _ _ _ c.in_ok-f.ensures.steps.kept _ _ _ _ c.in_ok-h.ensures.steps.kept c.joined.ensures.kept;
}
