use native.Mathlib.Omega.{arith}
use Rattle.table.proofs.Words.{index_fits, reach_is, place_fits}
use Rattle.table.proofs.memory.words_used.Goals as goal

pub overflow_sub-len : goal.overflow_sub-len
overflow_sub-len c = omega (arith, c.index_words-h.ensures, index_fits c.args.rows c.args.len)

pub overflow_add-result : goal.overflow_add-result
overflow_add-result c = omega (arith, place_fits _ _ _ _ c.index_words-h.ensures c.memory_size.ensures)

pub returns : goal.returns
returns c = reach_is _ _ _ _ c.index_words-h.ensures c.memory_size.ensures
