use mathlib.Core.Path.{refl}
use Rattle.checks.proofs.Never.{never_refused}
use Rattle.outputs.proofs.Judging.{judge_few, judge_lent, judge_sound, from_asked, judged_as}
use Rattle.outputs.proofs.judge.Goals as goal

pub returns-in_default : goal.returns-in_default
returns-in_default c = absurd (never_refused _ _ _ (judge_few _ c.args.net.now _ _ _ _ c.requires) (judge_lent _ c.args.net.now _ _ _ _ c.requires) (judge_sound _ c.args.net.now _ _ _ _ c.requires) _ c.in_default.ensures.checked)

pub judge_from-verdict-requires : goal.judge_from-verdict-requires
judge_from-verdict-requires c =
    let w = c.check_table.ensures.only_work in
    rw (w.count, w.slices) (from_asked _ c.args.net.now _ _ _ _ c.requires _ _ c.inputs.ensures.are c.inputs.ensures.counted c.outputs.ensures.are c.outputs.ensures.counted _ c.in-Ok.ensures.checked.live)

pub returns-clause-judged : goal.returns-clause-judged
returns-clause-judged c =
    let w = c.check_table.ensures.only_work in
    judged_as _ c.args.net.now _ _ _ _ c.requires _ _ c.inputs.ensures.are c.inputs.ensures.counted c.outputs.ensures.are c.outputs.ensures.counted _ refl (rw (w.count, w.slices) at c.judge_from-verdict.ensures.ended)
