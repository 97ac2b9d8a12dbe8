use Rattle.table.proofs.Loans.{same_then, kept_error}
use Rattle.products.proofs.Deep.{three_asks, three_full, three_asks_2, three_done}
use Rattle.products.proofs.written.sum_three.Goals as goal

pub sum-requires : goal.sum-requires
sum-requires c = three_asks _ _ _ _ _ _ _ c.requires

pub returns-in_err-d : goal.returns-in_err-d
returns-in_err-d c = kept_error c.from_residual.ensures.0 c.in_err-d.ensures.same (three_full _ _ _ _ _ _ _ c.requires c.in_err-d.ensures.kept)

pub sum-requires-2 : goal.sum-requires-2
sum-requires-2 c = three_asks_2 _ _ _ _ _ _ _ c.requires _ _ _ _ c.in_ok-d.ensures.kept

pub returns : goal.returns
returns c = record { same = same_then c.in_ok-d.ensures.same c.sum-2.ensures.same; kept = three_done _ _ _ _ _ _ _ c.requires _ _ _ _ c.in_ok-d.ensures.kept c.sum-2.ensures.kept }
