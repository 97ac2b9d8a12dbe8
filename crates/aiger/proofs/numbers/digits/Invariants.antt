-- The digits before the position make the number so far.
use Rattle.std.proofs.Common.{◌≡◌, drop, ◌≤◌}
use Rattle.aiger.specs.Form as form
use Rattle.aiger.proofs.numbers.digits.Given as goal

abbrev pub invariant-loop-at : goal.invariant-loop-at
invariant-loop-at l = (l.n ≤ 65535) × (form.digits l.first (drop l.from l.s) ≡ form.digits l.n (drop l.at l.s))
