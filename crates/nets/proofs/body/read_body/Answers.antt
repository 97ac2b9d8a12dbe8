use Rattle.std.proofs.Common.{◌≡◌, drop, arith}
use Rattle.std.proofs.lemmas.Grind.{common_steps}
use Rattle.aiger.specs.Net as net
use Rattle.aiger.specs.Net.{Got, got}
use Rattle.aiger.specs.Answers.{sizes_of, net_in}
use Rattle.aiger.proofs.Accepted.{body_ok}
use Rattle.aiger.proofs.WholeNet.{within}
use Rattle.nets.proofs.body.read_body.Goals as goal

pub invariant_of-net : goal.invariant_of-net
unfolding net.body
invariant_of-net c =
    let h = sizes_of c.args.sizes in
    let read = net_in c.args.sizes c.read_inputs.new.inputs c.read_outputs.new.outputs c.read_gates.new.gates in
    let e : ◌≡◌ {A = Got net.Net} (net.body h (drop c.args.from c.args.s.now)) (got read (drop c.in_ok-end.end c.args.s.now)) = grind (arith, common_steps) in
    record { small = c.requires; accepted = body_ok h _ read _ (within h c.requires) e }
