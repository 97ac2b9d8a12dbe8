use borrow.Author.Tests.{lt-ltb}
use Rattle.checks.proofs.Steps.{made_to, full_to}
use Rattle.numbers.proofs.fn.variable.steps.Goals as goal

pub returns-in_err-make : goal.returns-in_err-make
returns-in_err-make c =
    let d = c.in_err-make.ensures in
    simp (lt-ltb _ _ c.if-n.false) (full_to c.requires.indexed.lent d.same d.entered.front.same_length _ c.from_residual.ensures.1 d.entered.taken)

pub returns : goal.returns
returns c =
    let d = c.in_ok-make.ensures in
    simp (lt-ltb _ _ c.if-n.false) (made_to c.requires.indexed.lent d.same d.entered.front.same_length d.entered.taken)
