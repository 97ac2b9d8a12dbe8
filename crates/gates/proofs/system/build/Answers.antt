use native.Mathlib.Omega.{arith}
use Rattle.table.proofs.Loans.{same, same_then}
use Rattle.gates.proofs.Looping.{build_starts, gate_asks, gate_full, gate_next, build_ends}
use Rattle.gates.proofs.system.build.Goals as goal

pub loop-i-init : goal.loop-i-init
loop-i-init c = record { same = same; left = rw c.requires.none (build_starts _ _ _ _ c.requires) }

pub gate-requires : goal.gate-requires
gate-requires c = gate_asks _ _ _ _ _ _ _ _ _ c.loop-i.invariant.left c.loop-i-test.true _

pub returns-in_default : goal.returns-in_default
returns-in_default c = record {
  same = same_then c.loop-i.invariant.same c.in_default.ensures.same;
  kept = rw c.requires.none (gate_full _ _ _ _ _ _ _ _ _ c.loop-i.invariant.left c.loop-i-test.true _ c.in_default.ensures.kept);
}

pub loop-i-preserved : goal.loop-i-preserved
loop-i-preserved c = record {
  same = same_then c.loop-i.invariant.same c.in-Ok.ensures.same;
  left = gate_next _ _ _ _ _ _ _ _ _ c.loop-i.invariant.left c.loop-i-test.true _ c.in-Ok.ensures.kept;
}

pub returns : goal.returns
returns c = record { same = c.loop-i.invariant.same; kept = rw c.requires.none (build_ends _ _ _ _ c.loop-i.invariant.left (omega (arith, c.loop-i-test.false))) }
