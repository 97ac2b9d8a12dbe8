use native.Mathlib.Omega.{arith}
use Rattle.assignments.proofs.Ones.{follow_var, follow_then_less, follow_else_less, follow_then, follow_else, follow_end}
use Rattle.assignments.proofs.seek.follow.Goals as goal

pub bounds-bytes-x : goal.bounds-bytes-x
bounds-bytes-x c = omega (arith, follow_var _ _ _ _ _ _ c.requires.lasting c.loop-k.invariant c.loop-k-test.true _ _ _ c.node-x.ensures)

pub loop-k-smaller-then-x-eq0 : goal.loop-k-smaller-then-x-eq0
loop-k-smaller-then-x-eq0 c = follow_then_less _ _ _ _ _ _ c.requires.lasting c.loop-k.invariant c.loop-k-test.true _ _ _ c.node-x.ensures

pub loop-k-preserved-then-x-eq0 : goal.loop-k-preserved-then-x-eq0
loop-k-preserved-then-x-eq0 c = follow_then _ _ _ _ _ _ c.requires.lasting c.loop-k.invariant c.loop-k-test.true _ _ _ c.node-x.ensures c.if-x-eq0.true

pub loop-k-smaller : goal.loop-k-smaller
loop-k-smaller c = follow_else_less _ _ _ _ _ _ c.requires.lasting c.loop-k.invariant c.loop-k-test.true _ _ _ c.node-x.ensures

pub loop-k-preserved : goal.loop-k-preserved
loop-k-preserved c = follow_else _ _ _ _ _ _ c.requires.lasting c.loop-k.invariant c.loop-k-test.true _ _ _ c.node-x.ensures c.if-x-eq0.false

pub returns : goal.returns
returns c = follow_end _ _ _ _ _ _ c.requires.lasting c.loop-k.invariant (omega (arith, c.loop-k-test.false))
