use Prim.Native.Nat.{◌<◌}
use lib.ListN.{length}
use mathlib.Core.Path.{refl}
use native.Mathlib.Omega.{arith}
use Rattle.endings.proofs.Patterns.{literal_at, one_asks, written_next, written_end}
use Rattle.endings.proofs.pattern.write_pattern.Goals as goal

pub one_of-requires-clause-lasting : goal.one_of-requires-clause-lasting
one_of-requires-clause-lasting c = (one_asks c.requires refl).0

pub overflow_sub-v : goal.overflow_sub-v
overflow_sub-v c = rw (← literal_at c.args.inputs.now c.loop-i.i) (c.requires.low c.loop-i.i (omega (arith, c.loop-i.invariant.same_length)))

pub bounds-ones-v : goal.bounds-ones-v
bounds-ones-v c =
    let h : c.loop-i.i < length c.args.pattern.now = omega (arith, c.loop-i.invariant.same_length) in
    rw (← literal_at c.args.inputs.now c.loop-i.i) (omega (arith, c.requires.vars, c.requires.positive c.loop-i.i h, c.requires.low c.loop-i.i h))

pub loop-i-preserved : goal.loop-i-preserved
loop-i-preserved c = rw (← literal_at c.args.inputs.now c.loop-i.i) (written_next _ _ _ _ c.loop-i.invariant (omega (arith, c.loop-i.invariant.same_length)))

pub returns : goal.returns
returns c = written_end _ _ _ _ _ _ c.requires c.loop-i.invariant (omega (arith, c.loop-i.invariant.same_length, c.loop-i-test.false)) c.one_of.ensures
