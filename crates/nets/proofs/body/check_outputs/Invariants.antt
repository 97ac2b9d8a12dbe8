-- The first k outputs are known.
use Rattle.std.proofs.Common.{ℕ, List}
use Rattle.aiger.specs.Answers.{literals_in}
use Rattle.aiger.specs.Marked.{Marks}
use Rattle.aiger.proofs.KnownOutputs.{Passed}
use Rattle.nets.proofs.body.check_outputs.Given as goal

abbrev pub invariant-loop-k : goal.invariant-loop-k
invariant-loop-k l = (ls : List ℕ) → Marks l.defined.marks ls → Passed l.defined.highest l.n (literals_in l.outputs) l.k ls
