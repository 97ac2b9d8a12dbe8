use Rattle.table.proofs.Loans.{same_then, kept_error}
use Rattle.reduction.proofs.Deep.{join_full, join_asks_2, join_done}
use Rattle.reduction.proofs.join.Goals as goal

pub returns-in_err-d : goal.returns-in_err-d
returns-in_err-d c = kept_error c.from_residual.ensures.0 c.in_err-d.ensures.same (join_full _ _ _ _ _ _ _ c.requires c.in_err-d.ensures.kept)

pub sum-requires : goal.sum-requires
sum-requires c = join_asks_2 _ _ _ _ _ _ _ c.requires _ _ _ _ c.in_ok-d.ensures.kept

pub returns : goal.returns
returns c = record {
  same = same_then c.in_ok-d.ensures.same c.sum.ensures.same;
  kept = join_done _ _ _ _ _ _ _ c.requires _ _ _ _ c.in_ok-d.ensures.kept c.sum.ensures.kept;
}
