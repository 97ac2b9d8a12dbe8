use mathlib.Core.Path.{refl}
use native.Mathlib.Omega.{arith}
use Rattle.std.proofs.Common.{rules}
use Rattle.table.proofs.Loans.{same_then, kept_error}
use Rattle.sums.proofs.Keeping.{kept_by, unchanged}
use Rattle.products.proofs.Parts.{product_left_1, product_left_0, product_right_0, product_right_1, product_same, then_second, then_first}
use Rattle.products.proofs.Remembering.{key_small, recalled, kept_remembered}
use Rattle.products.proofs.Deep.{rest_full, rest_asks_2, rest_full_2, rest_asks_3, rest_done, then_asks_second, then_full, then_asks_2, then_done, deep_asks, deep_full, deep_asks_2, deep_full_2, make_asks, product_made}
use Rattle.products.proofs.written.+product_product_deep_then_part_then_rest.Goals as goal

pub product-returns-then-f-eq1 : goal.product-returns-then-f-eq1
product-returns-then-f-eq1 t c = unchanged c.requires.live (product_left_1 _ _ _ _ c.if-f-eq1.true)

pub product-returns-then-f-eq0 : goal.product-returns-then-f-eq0
product-returns-then-f-eq0 t c = unchanged c.requires.live (product_left_0 _ _ _ _ c.if-f-eq0.true)

pub product-returns-then-g-eq0 : goal.product-returns-then-g-eq0
product-returns-then-g-eq0 t c = unchanged c.requires.live (product_right_0 _ _ _ _ c.if-g-eq0.true)

pub product-returns-then-g-eq1 : goal.product-returns-then-g-eq1
product-returns-then-g-eq1 t c = unchanged c.requires.live (product_right_1 _ _ _ _ c.if-g-eq1.true)

pub product-returns-then-eq : goal.product-returns-then-eq
product-returns-then-eq t c = unchanged c.requires.live (product_same _ _ _ _ (search (rules, c.if-eq.ensures)))

pub product-returns-in-Some : goal.product-returns-in-Some
product-returns-in-Some t c = unchanged c.requires.live (recalled _ _ _ _ _ _ c.requires _ (rw c.slot-slot.ensures.key c.key.ensures) _ c.slot-slot.ensures.place c.in-Some.is c.recall.ensures)

pub product-product_deep-requires : goal.product-product_deep-requires
product-product_deep-requires t c = (omega (arith, c.decreases), (c.requires, record { left_1 = c.if-f-eq1.false; left_0 = c.if-f-eq0.false; right_0 = c.if-g-eq0.false; right_1 = c.if-g-eq1.false; two = search (rules, c.if-eq.ensures) }))

pub product-returns-in_err-k : goal.product-returns-in_err-k
product-returns-in_err-k t c = kept_error c.from_residual.ensures.0 c.in_err-k.ensures.same c.in_err-k.ensures.kept

pub product-remember-requires : goal.product-remember-requires
product-remember-requires t c = key_small _ _ _ _ _ _ c.requires _ (rw c.slot-slot.ensures.key c.key.ensures)

pub product-returns : goal.product-returns
product-returns t c = record {
  same = same_then c.in_ok-k.ensures.same (record { vs = refl; ts = refl; es = refl; work = refl });
  kept = kept_remembered _ _ _ _ _ _ c.requires _ (rw c.slot-slot.ensures.key c.key.ensures) _ c.slot-slot.ensures.place _ _ _ _ c.in_ok-k.ensures.kept _ c.remember.ensures;
}

pub product_deep-then_part-requires : goal.product_deep-then_part-requires
product_deep-then_part-requires t c = deep_asks _ _ _ _ _ _ c.requires.pair c.requires.proper _ _ _ _ _ (rw c.rows.ensures.shown at c.split-p.ensures) _ c.decreases

pub product_deep-returns-in_err-then_row : goal.product_deep-returns-in_err-then_row
product_deep-returns-in_err-then_row t c = kept_error c.from_residual.ensures.0 c.in_err-then_row.ensures.same (deep_full _ _ _ _ _ _ c.requires.pair c.requires.proper _ _ _ _ _ (rw c.rows.ensures.shown at c.split-p.ensures) c.in_err-then_row.ensures.kept)

pub product_deep-product-requires : goal.product_deep-product-requires
product_deep-product-requires t c = deep_asks_2 _ _ _ _ _ _ c.requires.pair c.requires.proper _ _ _ _ _ (rw c.rows.ensures.shown at c.split-p.ensures) _ _ _ _ c.in_ok-then_row.ensures.kept _ c.decreases

pub product_deep-returns-in_err-else_row : goal.product_deep-returns-in_err-else_row
product_deep-returns-in_err-else_row t c = kept_error c.from_residual-in_err-else_row.ensures.0 (same_then c.in_ok-then_row.ensures.same c.in_err-else_row.ensures.same)
    (deep_full_2 _ _ _ _ _ _ c.requires.pair c.requires.proper _ _ _ _ _ (rw c.rows.ensures.shown at c.split-p.ensures) _ _ _ _ c.in_ok-then_row.ensures.kept c.in_err-else_row.ensures.kept)

pub product_deep-make-requires : goal.product_deep-make-requires
product_deep-make-requires t c = make_asks _ _ _ _ _ _ c.requires.pair c.requires.proper _ _ _ _ _ (rw c.rows.ensures.shown at c.split-p.ensures) _ _ _ _ c.in_ok-then_row.ensures.kept _ _ _ _ c.in_ok-else_row.ensures.kept

pub product_deep-returns : goal.product_deep-returns
product_deep-returns t c = record {
  same = same_then c.in_ok-then_row.ensures.same (same_then c.in_ok-else_row.ensures.same c.make.ensures.same);
  kept = product_made _ _ _ _ _ _ c.requires.pair c.requires.proper _ _ _ _ _ (rw c.rows.ensures.shown at c.split-p.ensures) _ _ _ _ c.in_ok-then_row.ensures.kept _ _ _ _ c.in_ok-else_row.ensures.kept c.make.ensures.entered;
}

pub then_part-product-requires : goal.then_part-product-requires
then_part-product-requires t c = then_asks_second _ _ _ _ _ _ _ _ c.requires _ c.decreases

pub then_part-returns-then-p-eq0 : goal.then_part-returns-then-p-eq0
then_part-returns-then-p-eq0 t c = record { same = c.product.ensures.same; kept = kept_by (then_second _ _ _ _ _ _ c.if-p-eq0.true) c.product.ensures.kept }

pub then_part-returns-then-p-eq0-2 : goal.then_part-returns-then-p-eq0-2
then_part-returns-then-p-eq0-2 t c = record { same = c.product-then-p-eq0-2.ensures.same; kept = kept_by (then_first _ _ _ _ _ _ c.if-p-eq0-2.true) c.product-then-p-eq0-2.ensures.kept }

pub then_part-returns-in_err-a : goal.then_part-returns-in_err-a
then_part-returns-in_err-a t c = kept_error c.from_residual.ensures.0 c.in_err-a.ensures.same (then_full _ _ _ _ _ _ _ _ c.requires c.in_err-a.ensures.kept)

pub then_part-then_rest-requires : goal.then_part-then_rest-requires
then_part-then_rest-requires t c = then_asks_2 _ _ _ _ _ _ _ _ c.requires _ _ _ _ c.in_ok-a.ensures.kept _ c.decreases

pub then_part-returns : goal.then_part-returns
then_part-returns t c = record { same = same_then c.in_ok-a.ensures.same c.then_rest.ensures.same; kept = then_done _ _ _ _ _ _ _ _ c.requires _ _ _ _ c.in_ok-a.ensures.kept c.then_rest.ensures.kept }

pub then_rest-returns-in_err-b : goal.then_rest-returns-in_err-b
then_rest-returns-in_err-b t c = kept_error c.from_residual.ensures.0 c.in_err-b.ensures.same (rest_full _ _ _ _ _ _ _ _ c.requires c.in_err-b.ensures.kept)

pub then_rest-product-requires-2 : goal.then_rest-product-requires-2
then_rest-product-requires-2 t c = rest_asks_2 _ _ _ _ _ _ _ _ c.requires _ _ _ _ c.in_ok-b.ensures.kept _ c.decreases

pub then_rest-returns-in_err-c : goal.then_rest-returns-in_err-c
then_rest-returns-in_err-c t c = kept_error c.from_residual-in_err-c.ensures.0 (same_then c.in_ok-b.ensures.same c.in_err-c.ensures.same) (rest_full_2 _ _ _ _ _ _ _ _ c.requires _ _ _ _ c.in_ok-b.ensures.kept c.in_err-c.ensures.kept)

pub then_rest-sum_three-requires : goal.then_rest-sum_three-requires
then_rest-sum_three-requires t c = rest_asks_3 _ _ _ _ _ _ _ _ c.requires _ _ _ _ c.in_ok-b.ensures.kept _ _ _ _ c.in_ok-c.ensures.kept

pub then_rest-returns : goal.then_rest-returns
then_rest-returns t c = record {
  same = same_then c.in_ok-b.ensures.same (same_then c.in_ok-c.ensures.same c.sum_three.ensures.same);
  kept = rest_done _ _ _ _ _ _ _ _ c.requires _ _ _ _ c.in_ok-b.ensures.kept _ _ _ _ c.in_ok-c.ensures.kept c.sum_three.ensures.kept;
}
