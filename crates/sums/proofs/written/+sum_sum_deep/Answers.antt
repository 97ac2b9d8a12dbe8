use mathlib.Core.Path.{refl}
use Rattle.std.proofs.Common.{rules}
use native.Mathlib.Omega.{arith}
use Rattle.table.proofs.Loans.{same_then, kept_error}
use Rattle.sums.proofs.Keeping.{unchanged}
use Rattle.sums.proofs.Remembering.{sum_left, sum_right_0, sum_same, pair_key, recalled, kept_remembered}
use Rattle.sums.proofs.Deep.{first_asks, first_full, second_asks, second_full, make_asks, sum_made}
use Rattle.sums.proofs.written.+sum_sum_deep.Goals as goal

pub sum-returns-then-f-eq0 : goal.sum-returns-then-f-eq0
sum-returns-then-f-eq0 t c = unchanged c.requires.live (sum_left _ _ _ _ c.if-f-eq0.true)

pub sum-returns-then-g-eq0 : goal.sum-returns-then-g-eq0
sum-returns-then-g-eq0 t c = unchanged c.requires.live (sum_right_0 _ _ _ _ c.if-g-eq0.true)

pub sum-returns-then-eq : goal.sum-returns-then-eq
sum-returns-then-eq t c = unchanged c.requires.live (sum_same _ _ _ _ (search (rules, c.if-eq.ensures)))

pub sum-returns-in-Some : goal.sum-returns-in-Some
sum-returns-in-Some t c = unchanged c.requires.live (recalled _ _ _ _ _ _ c.requires _ (rw c.slot-slot.ensures.key c.sum_key.ensures) _ c.slot-slot.ensures.place c.in-Some.is c.recall.ensures)

pub sum-sum_deep-requires : goal.sum-sum_deep-requires
sum-sum_deep-requires t c = (omega (arith, c.decreases), (c.requires, record { left = c.if-f-eq0.false; right = c.if-g-eq0.false; two = search (rules, c.if-eq.ensures) }))

pub sum-returns-in_err-k : goal.sum-returns-in_err-k
sum-returns-in_err-k t c = kept_error c.from_residual.ensures.0 c.in_err-k.ensures.same c.in_err-k.ensures.kept

pub sum-remember-requires : goal.sum-remember-requires
sum-remember-requires t c = pair_key _ _ _ _ _ _ c.requires _ (rw c.slot-slot.ensures.key c.sum_key.ensures)

pub sum-returns : goal.sum-returns
sum-returns t c = record {
  same = same_then c.in_ok-k.ensures.same (record { vs = refl; ts = refl; es = refl; work = refl });
  kept = kept_remembered _ _ _ _ _ _ c.requires _ (rw c.slot-slot.ensures.key c.sum_key.ensures) _ c.slot-slot.ensures.place _ _ _ _ c.in_ok-k.ensures.kept _ c.remember.ensures;
}

pub sum_deep-sum-requires : goal.sum_deep-sum-requires
sum_deep-sum-requires t c = first_asks _ _ _ _ _ _ c.requires.pair c.requires.apart _ _ _ _ _ (rw c.rows.ensures.shown at c.split-p.ensures) _ c.decreases

pub sum_deep-returns-in_err-then_part : goal.sum_deep-returns-in_err-then_part
sum_deep-returns-in_err-then_part t c = kept_error c.from_residual.ensures.0 c.in_err-then_part.ensures.same (first_full _ _ _ _ _ _ c.requires.pair c.requires.apart _ _ _ _ _ (rw c.rows.ensures.shown at c.split-p.ensures) c.in_err-then_part.ensures.kept)

pub sum_deep-sum-requires-2 : goal.sum_deep-sum-requires-2
sum_deep-sum-requires-2 t c = second_asks _ _ _ _ _ _ c.requires.pair c.requires.apart _ _ _ _ _ (rw c.rows.ensures.shown at c.split-p.ensures) _ _ _ _ c.in_ok-then_part.ensures.kept _ c.decreases

pub sum_deep-returns-in_err-else_part : goal.sum_deep-returns-in_err-else_part
sum_deep-returns-in_err-else_part t c = kept_error c.from_residual-in_err-else_part.ensures.0 (same_then c.in_ok-then_part.ensures.same c.in_err-else_part.ensures.same)
    (second_full _ _ _ _ _ _ c.requires.pair c.requires.apart _ _ _ _ _ (rw c.rows.ensures.shown at c.split-p.ensures) _ _ _ _ c.in_ok-then_part.ensures.kept c.in_err-else_part.ensures.kept)

pub sum_deep-make-requires : goal.sum_deep-make-requires
sum_deep-make-requires t c = make_asks _ _ _ _ _ _ c.requires.pair c.requires.apart _ _ _ _ _ (rw c.rows.ensures.shown at c.split-p.ensures) _ _ _ _ c.in_ok-then_part.ensures.kept _ _ _ _ c.in_ok-else_part.ensures.kept

pub sum_deep-returns : goal.sum_deep-returns
sum_deep-returns t c = record {
  same = same_then c.in_ok-then_part.ensures.same (same_then c.in_ok-else_part.ensures.same c.make.ensures.same);
  kept = sum_made _ _ _ _ _ _ c.requires.pair c.requires.apart _ _ _ _ _ (rw c.rows.ensures.shown at c.split-p.ensures) _ _ _ _ c.in_ok-then_part.ensures.kept _ _ _ _ c.in_ok-else_part.ensures.kept c.make.ensures.entered;
}
