use native.Mathlib.Omega.{arith}
use Rattle.table.proofs.Words.{index_fits, place_size, place_fits, place_at}
use Rattle.table.proofs.memory.Slot.of.Goals as goal

pub overflow_sub-len : goal.overflow_sub-len
overflow_sub-len c = omega (arith, c.index_words-h.ensures, index_fits (c.args.rows) (c.args.len))

pub overflow_add-at : goal.overflow_add-at
overflow_add-at c = omega (arith, c.word.ensures (place_size _ _ _ _ c.index_words-h.ensures c.memory_size-m.ensures c.if-m-eq0.false), place_fits _ _ _ _ c.index_words-h.ensures c.memory_size-m.ensures)

pub returns-else-m-eq0-clause-place : goal.returns-else-m-eq0-clause-place
returns-else-m-eq0-clause-place c = place_at _ _ _ _ c.index_words-h.ensures c.memory_size-m.ensures _ (c.word.ensures (place_size _ _ _ _ c.index_words-h.ensures c.memory_size-m.ensures c.if-m-eq0.false))
