use Rattle.aiger.specs.Circuit.{circuit_of}
use Rattle.mullagrane.proofs.line_of.Goals as goal

pub returns-in-Err-clause-prints : goal.returns-in-Err-clause-prints
returns-in-Err-clause-prints c = c.print-in-Err.ensures.prints_full (circuit_of c.args.net.now) (rw c.in-Err.is at c.requires.ready.built)
