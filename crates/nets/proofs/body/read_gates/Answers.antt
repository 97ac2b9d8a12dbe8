use Rattle.std.proofs.Common.{sym, ◌∙◌}
use Rattle.aiger.proofs.GateLines.{gates_stop, gates_defined, gates_unordered, gates_unknown, gates_next, gates_end}
use Rattle.std.proofs.lemmas.Result.{err_from_is_err_and}
use Rattle.nets.proofs.body.read_gates.Goals as goal

pub returns-in_err-g-clause-read : goal.returns-in_err-g-clause-read
returns-in_err-g-clause-read c =
    let p = err_from_is_err_and c.from_residual.result c.from_residual.ensures.1 in
    rw (p.1, p.2) (gates_stop c.loop-k.invariant.lines c.loop-k-test.true (sym c.in_err-g.ensures))

pub returns-then-not-is_new-clause-read : goal.returns-then-not-is_new-clause-read
returns-then-not-is_new-clause-read c =
    gates_defined c.loop-k.invariant.lines c.loop-k-test.true (sym c.in_ok-g.ensures)
    (λ ls m. sym (rw c.loop-k.invariant.same at (c.allows-is_new.ensures.is ls m)) ∙ c.if-not-is_new.true)

pub returns-then-not-is_ordered-clause-read : goal.returns-then-not-is_ordered-clause-read
returns-then-not-is_ordered-clause-read c =
    gates_unordered c.loop-k.invariant.lines c.loop-k-test.true (sym c.in_ok-g.ensures)
    (λ ls m. sym (rw c.loop-k.invariant.same at (c.allows-is_new.ensures.is ls m)) ∙ (cc))
    (sym c.in_order-is_ordered.ensures ∙ c.if-not-is_ordered.true)

pub returns-then-not-has_rights-clause-read : goal.returns-then-not-has_rights-clause-read
returns-then-not-has_rights-clause-read c =
    gates_unknown c.loop-k.invariant.lines c.loop-k-test.true (sym c.in_ok-g.ensures)
    (λ ls m. sym (rw c.loop-k.invariant.same at (c.allows-is_new.ensures.is ls m)) ∙ c.if-not-is_new.false)
    (sym c.in_order-is_ordered.ensures ∙ c.if-not-is_ordered.false)
    (λ ls m. sym (c.has_rights.ensures ls m) ∙ c.if-not-has_rights.true)

pub loop-k-preserved : goal.loop-k-preserved
loop-k-preserved c = record {
  same = c.define.ensures.same ∙ c.loop-k.invariant.same;
  lines = gates_next c.loop-k.invariant.lines c.loop-k-test.true (sym c.in_ok-g.ensures)
      (λ ls m. sym (rw c.loop-k.invariant.same at (c.allows-is_new.ensures.is ls m)) ∙ c.if-not-is_new.false)
      (sym c.in_order-is_ordered.ensures ∙ c.if-not-is_ordered.false)
      (λ ls m. sym (c.has_rights.ensures ls m) ∙ c.if-not-has_rights.false)
      c.define.ensures.more;
}

pub returns-clause-read : goal.returns-clause-read
returns-clause-read c = gates_end c.loop-k.invariant.lines c.loop-k-test.false
