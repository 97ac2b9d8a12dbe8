use Rattle.steps.specs.Table.{rows_of}
use Rattle.table.specs.Views.{slices_of}
use Rattle.sums.specs.Inner.{depth}
use Prim.Native.Nat.{◌*◌, ◌+◌}
use Rattle.sums.proofs.written.+sum_sum_deep.Given as goal

abbrev pub decreases-sum : goal.decreases-sum
decreases-sum l = 2 * depth l.n (rows_of (slices_of l.t.now) l.t.now.count) l.f.0 l.g.0 + 1

abbrev pub decreases-sum_deep : goal.decreases-sum_deep
decreases-sum_deep l = 2 * depth l.n (rows_of (slices_of l.t.now) l.t.now.count) l.f.0 l.g.0
