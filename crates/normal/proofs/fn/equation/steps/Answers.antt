use mathlib.Core.Path.{◌∙◌}
use Rattle.checks.proofs.Steps.{made_to, full_to}
use Rattle.normal.proofs.CallLaws.{system_fine}
use Rattle.normal.proofs.fn.equation.steps.Goals as goal

pub returns-in_err-make : goal.returns-in_err-make
returns-in_err-make c =
    let u = rw c.rows-rows.ensures.count at c.in_ok-questions.ensures in
    let e = rw c.rows-rows.ensures.shown at (c.in_order.ensures ∙ c.if-not-in_order.false) in
    let d = c.in_err-make.ensures in
    rw (← system_fine _ _ _ _ _ u, e) (full_to c.requires.indexed.lent d.same d.entered.front.same_length _ c.from_residual-in_err-make.ensures.1 d.entered.taken)

pub returns : goal.returns
returns c =
    let u = rw c.rows-rows.ensures.count at c.in_ok-questions.ensures in
    let e = rw c.rows-rows.ensures.shown at (c.in_order.ensures ∙ c.if-not-in_order.false) in
    let d = c.in_ok-make.ensures in
    rw (← system_fine _ _ _ _ _ u, e) (made_to c.requires.indexed.lent d.same d.entered.front.same_length d.entered.taken)
