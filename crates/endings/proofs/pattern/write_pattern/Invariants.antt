use Rattle.aiger.specs.Answers.{literals_in}
use Rattle.endings.proofs.Patterns.{Written}
use Rattle.endings.proofs.pattern.write_pattern.Given as goal

abbrev pub invariant-loop-i : goal.invariant-loop-i
invariant-loop-i l = Written l.n (literals_in l.inputs) l.initial.pattern l.pattern l.ones l.i
