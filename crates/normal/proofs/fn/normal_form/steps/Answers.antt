use native.Mathlib.Omega.{arith}
use Rattle.checks.proofs.Steps.{made_to, full_to}
use Rattle.normal.specs.Calls.{SystemInUse}
use Rattle.normal.proofs.CallLaws.{system_fine, same_system}
use Rattle.normal.proofs.fn.normal_form.steps.Goals as goal

-- The system that the questions were asked of is stated, so that the edit `system_0_accepted`, which asks them of another, is refused for that fact.

pub returns-in_err-reduce : goal.returns-in_err-reduce
returns-in_err-reduce c =
    let u : SystemInUse _ _ c.captures.f.0 = same_system (rw c.rows.ensures.count at c.in_ok-questions.ensures) (omega arith) in
    let d = c.in_err-reduce.ensures in
    rw (← system_fine _ _ _ _ _ u) (full_to c.requires.indexed.lent d.same d.took.same_length _ c.from_residual-in_err-reduce.ensures.1 d.took.taken)

pub returns : goal.returns
returns c =
    let u : SystemInUse _ _ c.captures.f.0 = same_system (rw c.rows.ensures.count at c.in_ok-questions.ensures) (omega arith) in
    let d = c.in_ok-reduce.ensures in
    rw (← system_fine _ _ _ _ _ u) (made_to c.requires.indexed.lent d.same d.took.same_length d.took.taken)
