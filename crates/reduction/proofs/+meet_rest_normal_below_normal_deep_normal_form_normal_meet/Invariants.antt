use Rattle.steps.specs.Table.{rows_of}
use Rattle.table.specs.Views.{slices_of}
use Rattle.sums.specs.Inner.{depth}
use Prim.Native.Nat.{◌*◌, ◌+◌, ◌-◌}
use Rattle.reduction.proofs.+meet_rest_normal_below_normal_deep_normal_form_normal_meet.Given as goal

abbrev pub decreases-meet_rest : goal.decreases-meet_rest
decreases-meet_rest l = 4 * (l.n - l.x.v.0)

abbrev pub decreases-normal_below : goal.decreases-normal_below
decreases-normal_below l = 4 * (l.n - l.x.v.0) + 1

abbrev pub decreases-normal_deep : goal.decreases-normal_deep
decreases-normal_deep l = 4 * depth l.n (rows_of (slices_of l.t.now) l.t.now.count) l.p.0 l.f.0 + 2

abbrev pub decreases-normal_form : goal.decreases-normal_form
decreases-normal_form l = 4 * depth l.n (rows_of (slices_of l.t.now) l.t.now.count) l.p.0 l.f.0 + 3

abbrev pub decreases-normal_meet : goal.decreases-normal_meet
decreases-normal_meet l = 4 * (l.n - l.x.v.0) + 1
