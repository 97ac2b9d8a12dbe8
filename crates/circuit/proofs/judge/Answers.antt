use mathlib.Core.Path.{refl}
use Rattle.circuit.proofs.Verdicts.{check_passes, judgeable, output_asks, end_asks, judge_done}
use Rattle.circuit.proofs.judge.Goals as goal

pub returns-in_err-check_table : goal.returns-in_err-check_table
returns-in_err-check_table c = absurd (check_passes _ c.args.net.now c.requires _ c.in_err-check_table.ensures.checked)

pub output-made-requires : goal.output-made-requires
output-made-requires c =
    let w = c.in_ok-check_table.ensures.only_work in
    let a = judgeable c.args.net.now _ _ _ c.requires c.outputs.ensures.are c.inputs-inputs.ensures.are c.get.ensures.lookup.0 c.get.ensures.lookup.1 c.in_ok-l.ensures.ok_part c.if-pattern-inputs.false in
    output_asks _ _ _ _ _ a w.count w.slices c.gates.ensures.are c.in_ok-check_table.ensures.checked.live

pub ended-requires : goal.ended-requires
ended-requires c =
    let w = c.in_ok-check_table.ensures.only_work in
    let a = judgeable c.args.net.now _ _ _ c.requires c.outputs.ensures.are c.inputs-inputs.ensures.are c.get.ensures.lookup.0 c.get.ensures.lookup.1 c.in_ok-l.ensures.ok_part c.if-pattern-inputs.false in
    end_asks _ _ _ _ _ a _ w.count w.slices c.gates.ensures.are c.inputs-inputs.ensures.are c.output-made.ensures.took

pub returns-clause-answered : goal.returns-clause-answered
returns-clause-answered c =
    let w = c.in_ok-check_table.ensures.only_work in
    let a = judgeable c.args.net.now _ _ _ c.requires c.outputs.ensures.are c.inputs-inputs.ensures.are c.get.ensures.lookup.0 c.get.ensures.lookup.1 c.in_ok-l.ensures.ok_part c.if-pattern-inputs.false in
    judge_done _ _ _ _ _ a _ w.count w.slices c.gates.ensures.are c.inputs-inputs.ensures.are c.output-made.ensures.took _ refl c.ended.ensures.answered
