use native.Mathlib.Omega.{arith}
use Rattle.assignments.proofs.Values.{var_in, then_in, else_in, without, with_same, with_apart}
use Rattle.assignments.proofs.evaluate.row_value.Goals as goal

pub bit_of-e-requires : goal.bit_of-e-requires
bit_of-e-requires c = omega (arith, else_in _ _ _ _ _ c.requires _ _ _ c.node-x.ensures, c.requires.evaluated.long, c.requires.there, c.requires.lasting.lent.used, c.requires.lasting.lent.small)

pub bounds-bytes-x : goal.bounds-bytes-x
bounds-bytes-x c = omega (arith, var_in _ _ _ _ _ c.requires _ _ _ c.node-x.ensures)

pub returns-then-bytes-x-ne1 : goal.returns-then-bytes-x-ne1
returns-then-bytes-x-ne1 c = without _ _ _ _ _ c.requires _ _ _ c.node-x.ensures _ c.bit_of-e.ensures c.if-bytes-x-ne1.true

pub bit_of-t-requires : goal.bit_of-t-requires
bit_of-t-requires c = omega (arith, then_in _ _ _ _ _ c.requires _ _ _ c.node-x.ensures, c.requires.evaluated.long, c.requires.there, c.requires.lasting.lent.used, c.requires.lasting.lent.small)

pub returns-then-t-e : goal.returns-then-t-e
returns-then-t-e c = with_same _ _ _ _ _ c.requires _ _ _ c.node-x.ensures _ c.bit_of-e.ensures c.if-bytes-x-ne1.false _ c.bit_of-t.ensures c.if-t-e.true

pub returns-else-t-e : goal.returns-else-t-e
returns-else-t-e c = with_apart _ _ _ _ _ c.requires _ _ _ c.node-x.ensures _ c.bit_of-e.ensures c.if-bytes-x-ne1.false _ c.bit_of-t.ensures c.if-t-e.false
