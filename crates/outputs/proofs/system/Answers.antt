use Rattle.checks.proofs.Never.{never_refused, empty_sound}
use Rattle.outputs.proofs.Judging.{vars_few, build_asks, builds}
use Rattle.outputs.proofs.system.Goals as goal

pub returns-in_default : goal.returns-in_default
returns-in_default c = absurd (never_refused _ _ _ (vars_few _ c.args.net.now c.requires) c.requires (empty_sound _ _) _ c.in_default.ensures.checked)

pub build-requires : goal.build-requires
build-requires c = let w = c.check_table.ensures.only_work in rw (w.count, w.slices, c.gates.ensures.are) (build_asks _ c.args.net.now c.requires _ c.in-Ok.ensures.checked.live)

pub returns-clause-builds : goal.returns-clause-builds
returns-clause-builds c = let w = c.check_table.ensures.only_work in builds _ c.args.net.now c.requires _ _ _ _ (rw (w.count, w.slices, c.gates.ensures.are) at c.build.ensures.kept)
