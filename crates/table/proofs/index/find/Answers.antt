use mathlib.Core.Path.{◌∙◌}
use native.Mathlib.Omega.{arith}
use Rattle.steps.specs.Rows.{row_of}
use Rattle.table.proofs.Walks.{walk_inner, walk_used, walk_found, walk_less, walk_on, walk_end, find_fits, find_room, find_bucket, find_follows, find_start}
use Rattle.table.proofs.index.find.Goals as goal

pub head-k-requires : goal.head-k-requires
head-k-requires c = omega (arith, find_fits _ _ _ (row_of 0 0 0) (c.requires.indexed) _ c.requires.belongs.words (c.if-b-eq0.false), find_bucket _ _ _ _ (c.requires.indexed) _ c.requires.belongs.words (c.if-b-eq0.false) _ c.requires.belongs.place)

pub loop-k-init : goal.loop-k-init
loop-k-init c = find_start _ _ _ _ (c.requires.indexed) _ c.requires.belongs.words (c.if-b-eq0.false) _ _ c.requires.belongs.place (c.head-k.ensures)

pub overflow_sub-i : goal.overflow_sub-i
overflow_sub-i c = omega (arith, walk_inner _ _ _ _ _ (c.loop-k.invariant) (c.loop-k-test.true))

pub is-requires : goal.is-requires
is-requires c = walk_used _ _ _ _ _ c.loop-k.invariant c.loop-k-test.true

pub overflow_cast-result : goal.overflow_cast-result
overflow_cast-result c = omega (arith, walk_used _ _ _ _ _ (c.loop-k.invariant) (c.loop-k-test.true), c.requires.indexed.lent.used, c.requires.indexed.lent.small)

pub returns-then-is : goal.returns-then-is
returns-then-is c = record { is = walk_found _ _ _ _ _ (c.loop-k.invariant) (c.loop-k-test.true) c.requires.indexed.apart ((c.is.ensures) ∙ (c.if-is.true)); some = (c.loop-k-test.true) }

pub older-k-requires : goal.older-k-requires
older-k-requires c = omega (arith, walk_used _ _ _ _ _ (c.loop-k.invariant) (c.loop-k-test.true), find_fits _ _ _ (row_of 0 0 0) (c.requires.indexed) _ c.requires.belongs.words (c.if-b-eq0.false), find_room _ _ _ (row_of 0 0 0) (c.requires.indexed) _ c.requires.belongs.words (c.if-b-eq0.false))

pub loop-k-smaller : goal.loop-k-smaller
loop-k-smaller c = walk_less _ _ _ _ _ (c.loop-k.invariant) (c.loop-k-test.true) _ (find_follows _ _ _ (row_of 0 0 0) (c.requires.indexed) _ c.requires.belongs.words (c.if-b-eq0.false)) _ (c.older-k.ensures)

pub loop-k-preserved : goal.loop-k-preserved
loop-k-preserved c = walk_on _ _ _ _ _ (c.loop-k.invariant) (c.loop-k-test.true) _ (find_follows _ _ _ (row_of 0 0 0) (c.requires.indexed) _ c.requires.belongs.words (c.if-b-eq0.false)) _ (c.older-k.ensures) ((c.is.ensures) ∙ (c.if-is.false))

pub returns : goal.returns
returns c = record { is = walk_end (c.loop-k.invariant) (c.loop-k-test.false); some = tt }
