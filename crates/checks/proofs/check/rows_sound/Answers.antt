use mathlib.Core.Path.{sym, ◌∙◌}
use Rattle.table.proofs.Links.{bucket_in}
use Rattle.checks.proofs.Checking.{checking_start, checking_linkable, checking_fails, checking_again, checking_end}
use Rattle.checks.proofs.check.rows_sound.Goals as goal

pub loop-i-init : goal.loop-i-init
loop-i-init c = checking_start _ _ _ _ c.requires

pub returns-then-not-row_fits : goal.returns-then-not-row_fits
returns-then-not-row_fits c = checking_fails _ _ _ _ c.requires _ _ c.loop-i.invariant c.loop-i-test.true _ c.node-x.ensures (rw (c.before-in-loop-i.ensures.rows, c.before-in-loop-i.ensures.count) at c.row_fits.ensures ∙ c.if-not-row_fits.true)

pub enter-requires : goal.enter-requires
enter-requires c = let l = checking_linkable _ _ _ _ c.requires _ _ c.loop-i.invariant c.loop-i-test.true _ (c.index_words-words.ensures ∙ sym c.of-b.ensures.words) in record { linkable = l; inside = bucket_in l _ (rw (← c.of-b.ensures.words) at c.of-b.ensures.number) }

pub loop-i-preserved : goal.loop-i-preserved
loop-i-preserved c = checking_again _ _ _ _ c.requires _ _ c.loop-i.invariant c.loop-i-test.true _ c.node-x.ensures _ (c.index_words-words.ensures ∙ sym c.of-b.ensures.words) _ (rw (c.before-in-loop-i.ensures.rows, c.before-in-loop-i.ensures.count) at c.row_fits.ensures ∙ c.if-not-row_fits.false) (c.enter.ensures _ (rw (← c.of-b.ensures.words) at c.of-b.ensures.number))

pub returns : goal.returns
returns c = checking_end _ _ _ _ c.requires _ _ c.loop-i.invariant c.loop-i-test.false
