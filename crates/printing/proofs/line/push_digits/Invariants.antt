use Rattle.std.proofs.Common.{◌≡◌, ◌++◌, take, map}
use Rattle.printing.specs.Text.{digit}
use Rattle.printing.proofs.line.push_digits.Given as goal

abbrev pub invariant-loop-value : goal.invariant-loop-value
invariant-loop-value l = l.line.bytes ≡ l.initial.line.bytes ++ map digit (take l.value-index l.pattern)
