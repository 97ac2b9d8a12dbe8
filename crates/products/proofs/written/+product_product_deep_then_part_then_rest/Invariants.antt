use Rattle.steps.specs.Table.{rows_of}
use Rattle.table.specs.Views.{slices_of}
use Rattle.sums.specs.Inner.{depth}
use Rattle.products.specs.Inner.{depth_rest, depth_then}
use Prim.Native.Nat.{◌*◌, ◌+◌}
use Rattle.products.proofs.written.+product_product_deep_then_part_then_rest.Given as goal

abbrev pub decreases-product : goal.decreases-product
decreases-product l = 4 * depth l.n (rows_of (slices_of l.t.now) l.t.now.count) l.f.0 l.g.0 + 1

abbrev pub decreases-product_deep : goal.decreases-product_deep
decreases-product_deep l = 4 * depth l.n (rows_of (slices_of l.t.now) l.t.now.count) l.f.0 l.g.0

abbrev pub decreases-then_part : goal.decreases-then_part
decreases-then_part l = 4 * depth_then l.n (rows_of (slices_of l.t.now) l.t.now.count) l.p.ft.0 l.p.fe.0 l.p.gt.0 l.p.ge.0 + 3

abbrev pub decreases-then_rest : goal.decreases-then_rest
decreases-then_rest l = 4 * depth_rest l.n (rows_of (slices_of l.t.now) l.t.now.count) l.p.ft.0 l.p.gt.0 l.p.ge.0 + 2
