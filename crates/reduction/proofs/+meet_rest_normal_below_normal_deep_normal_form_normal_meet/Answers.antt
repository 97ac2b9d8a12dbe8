use mathlib.Core.Path.{refl}
use Rattle.std.proofs.Common.{rules}
use Rattle.table.proofs.Loans.{same_then, kept_error}
use Rattle.sums.proofs.Keeping.{unchanged}
use Rattle.reduction.proofs.Deep.{form_const, form_below, form_empty, form_deep, form_full, form_key, form_recalled, form_remembered, below_asks, below_done, meet_asks, meet_done, then_full, else_asks, else_full, below_made, rest_full, rest_joins, rest_done, a_full, b_asks, b_full, rest_follows, meet_made}
use Rattle.reduction.proofs.+meet_rest_normal_below_normal_deep_normal_form_normal_meet.Goals as goal

pub meet_rest-returns-in_err-c : goal.meet_rest-returns-in_err-c
meet_rest-returns-in_err-c t c = kept_error c.from_residual.ensures.0 c.in_err-c.ensures.same (rest_full _ _ _ _ _ _ _ _ _ c.requires c.in_err-c.ensures.kept)

pub meet_rest-join-requires : goal.meet_rest-join-requires
meet_rest-join-requires t c = rest_joins _ _ _ _ _ _ _ _ _ c.requires _ _ _ _ c.in_ok-c.ensures.kept

pub meet_rest-returns : goal.meet_rest-returns
meet_rest-returns t c = record {
  same = same_then c.in_ok-c.ensures.same c.join.ensures.same;
  kept = rest_done _ _ _ _ _ _ _ _ _ c.requires _ _ _ _ c.in_ok-c.ensures.kept c.join.ensures.kept;
}

pub normal_below-returns-in_err-then_part : goal.normal_below-returns-in_err-then_part
normal_below-returns-in_err-then_part t c = kept_error c.from_residual.ensures.0 c.in_err-then_part.ensures.same (then_full _ _ _ _ _ _ _ _ c.requires c.in_err-then_part.ensures.kept)

pub normal_below-normal_form-requires-2 : goal.normal_below-normal_form-requires-2
normal_below-normal_form-requires-2 t c = else_asks _ _ _ _ _ _ _ _ c.requires _ _ _ _ c.in_ok-then_part.ensures.kept _ c.decreases

pub normal_below-returns-in_err-else_part : goal.normal_below-returns-in_err-else_part
normal_below-returns-in_err-else_part t c = kept_error c.from_residual-in_err-else_part.ensures.0 (same_then c.in_ok-then_part.ensures.same c.in_err-else_part.ensures.same)
    (else_full _ _ _ _ _ _ _ _ c.requires _ _ _ _ c.in_ok-then_part.ensures.kept c.in_err-else_part.ensures.kept)

pub normal_below-returns : goal.normal_below-returns
normal_below-returns t c = record {
  same = same_then c.in_ok-then_part.ensures.same (same_then c.in_ok-else_part.ensures.same c.make.ensures.same);
  kept = below_made _ _ _ _ _ _ _ _ c.requires _ _ _ _ c.in_ok-then_part.ensures.kept _ _ _ _ c.in_ok-else_part.ensures.kept c.make.ensures.entered;
}

pub normal_deep-normal_below-requires : goal.normal_deep-normal_below-requires
normal_deep-normal_below-requires t c = below_asks _ _ _ _ _ _ c.requires.reduces c.requires.proper _ _ _ _ _ _ (rw c.rows-rows.ensures.shown at c.row-x.ensures) (rw c.rows-rows.ensures.shown at c.row-y.ensures) (search (rules, c.if-lt.ensures)) _ c.decreases

pub normal_deep-returns-then-lt : goal.normal_deep-returns-then-lt
normal_deep-returns-then-lt t c = record { same = c.normal_below.ensures.same; kept = below_done _ _ _ _ _ _ c.requires.reduces c.requires.proper _ _ _ _ _ _ (rw c.rows-rows.ensures.shown at c.row-x.ensures) (rw c.rows-rows.ensures.shown at c.row-y.ensures) (search (rules, c.if-lt.ensures)) c.normal_below.ensures.kept }

pub normal_deep-normal_meet-requires : goal.normal_deep-normal_meet-requires
normal_deep-normal_meet-requires t c = meet_asks _ _ _ _ _ _ c.requires.reduces c.requires.proper _ _ _ _ _ _ (rw c.rows-rows.ensures.shown at c.row-x.ensures) (rw c.rows-rows.ensures.shown at c.row-y.ensures) (search (rules, c.if-lt.ensures)) _ c.decreases

pub normal_deep-returns : goal.normal_deep-returns
normal_deep-returns t c = record { same = c.normal_meet.ensures.same; kept = meet_done _ _ _ _ _ _ c.requires.reduces c.requires.proper _ _ _ _ _ _ (rw c.rows-rows.ensures.shown at c.row-x.ensures) (rw c.rows-rows.ensures.shown at c.row-y.ensures) (search (rules, c.if-lt.ensures)) c.normal_meet.ensures.kept }

pub normal_form-returns-then-p-lt2 : goal.normal_form-returns-then-p-lt2
normal_form-returns-then-p-lt2 t c = unchanged c.requires.by.live (form_const _ _ _ _ _ _ c.requires c.if-p-lt2.true)

pub normal_form-lead_at-g-requires : goal.normal_form-lead_at-g-requires
normal_form-lead_at-g-requires t c = rw (c.rows-rows.ensures.count, c.rows-rows.ensures.rows) (c.requires.by, form_below _ _ _ _ _ _ c.requires c.if-p-lt2.false _ _ _ (rw c.rows-rows.ensures.shown at c.row.ensures))

pub normal_form-returns-then-g-eq1 : goal.normal_form-returns-then-g-eq1
normal_form-returns-then-g-eq1 t c = unchanged c.requires.by.live (form_empty _ _ _ _ _ _ c.requires c.if-p-lt2.false _ _ _ (rw c.rows-rows.ensures.shown at c.row.ensures) _ (rw c.rows-rows.ensures.shown at c.lead_at-g.ensures) c.if-g-eq1.true)

pub normal_form-returns-in-Some : goal.normal_form-returns-in-Some
normal_form-returns-in-Some t c = unchanged c.requires.by.live (form_recalled _ _ _ _ _ _ c.requires c.if-p-lt2.false _ _ _ (rw c.rows-rows.ensures.shown at c.row.ensures) _ (rw c.rows-rows.ensures.shown at c.lead_at-g.ensures) _ (rw c.slot-slot.ensures.key c.key.ensures) _ c.slot-slot.ensures.place c.in-Some.is c.recall.ensures)

pub normal_form-normal_deep-requires : goal.normal_form-normal_deep-requires
normal_form-normal_deep-requires t c = form_deep _ _ _ _ _ _ c.requires c.if-p-lt2.false _ _ _ (rw c.rows-rows.ensures.shown at c.row.ensures) _ (rw c.rows-rows.ensures.shown at c.lead_at-g.ensures) c.if-g-eq1.false _ c.decreases

pub normal_form-returns-in_err-k : goal.normal_form-returns-in_err-k
normal_form-returns-in_err-k t c = kept_error c.from_residual.ensures.0 c.in_err-k.ensures.same (form_full _ _ _ _ _ _ c.requires c.if-p-lt2.false _ _ _ (rw c.rows-rows.ensures.shown at c.row.ensures) _ (rw c.rows-rows.ensures.shown at c.lead_at-g.ensures) c.in_err-k.ensures.kept)

pub normal_form-remember-requires : goal.normal_form-remember-requires
normal_form-remember-requires t c = form_key _ _ _ _ _ _ c.requires c.if-p-lt2.false _ _ _ (rw c.rows-rows.ensures.shown at c.row.ensures) _ (rw c.rows-rows.ensures.shown at c.lead_at-g.ensures) _ (rw c.slot-slot.ensures.key c.key.ensures)

pub normal_form-returns : goal.normal_form-returns
normal_form-returns t c = record {
  same = same_then c.in_ok-k.ensures.same (record { vs = refl; ts = refl; es = refl; work = refl });
  kept = form_remembered _ _ _ _ _ _ c.requires c.if-p-lt2.false _ _ _ (rw c.rows-rows.ensures.shown at c.row.ensures) _ (rw c.rows-rows.ensures.shown at c.lead_at-g.ensures) _ (rw c.slot-slot.ensures.key c.key.ensures) _ c.slot-slot.ensures.place _ _ _ _ c.in_ok-k.ensures.kept _ c.remember.ensures;
}

pub normal_meet-returns-in_err-a : goal.normal_meet-returns-in_err-a
normal_meet-returns-in_err-a t c = kept_error c.from_residual.ensures.0 c.in_err-a.ensures.same (a_full _ _ _ _ _ _ _ _ _ c.requires c.in_err-a.ensures.kept)

pub normal_meet-normal_form-requires-2 : goal.normal_meet-normal_form-requires-2
normal_meet-normal_form-requires-2 t c = b_asks _ _ _ _ _ _ _ _ _ c.requires _ _ _ _ c.in_ok-a.ensures.kept _ c.decreases

pub normal_meet-returns-in_err-b : goal.normal_meet-returns-in_err-b
normal_meet-returns-in_err-b t c = kept_error c.from_residual-in_err-b.ensures.0 (same_then c.in_ok-a.ensures.same c.in_err-b.ensures.same)
    (b_full _ _ _ _ _ _ _ _ _ c.requires _ _ _ _ c.in_ok-a.ensures.kept c.in_err-b.ensures.kept)

pub normal_meet-meet_rest-requires : goal.normal_meet-meet_rest-requires
normal_meet-meet_rest-requires t c = rest_follows _ _ _ _ _ _ _ _ _ c.requires _ _ _ _ c.in_ok-a.ensures.kept _ _ _ _ c.in_ok-b.ensures.kept _ c.decreases

pub normal_meet-returns : goal.normal_meet-returns
normal_meet-returns t c = record {
  same = same_then c.in_ok-a.ensures.same (same_then c.in_ok-b.ensures.same c.meet_rest.ensures.same);
  kept = meet_made _ _ _ _ _ _ _ _ _ c.requires _ _ _ _ c.in_ok-a.ensures.kept _ _ _ _ c.in_ok-b.ensures.kept c.meet_rest.ensures.kept;
}
