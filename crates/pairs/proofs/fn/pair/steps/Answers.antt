use mathlib.Core.Path.{◌∙◌}
use Rattle.checks.proofs.Steps.{made_to, full_to}
use Rattle.pairs.proofs.PairCalls.{pair_in}
use Rattle.pairs.proofs.fn.pair.steps.Goals as goal

pub returns-in_err-written : goal.returns-in_err-written
returns-in_err-written g c =
    let f_in = rw c.rows-rows.ensures.count at (c.has.ensures ∙ c.if-not-has.false) in
    let g_in = rw c.rows-rows.ensures.count at (c.has-else-not-has.ensures ∙ c.if-not-has-2.false) in
    let pair = pair_in c.requires.live f_in g_in in
    let lent = c.requires.live.indexed.lent in
    let d = c.requires.takes.1 _ _ _ pair c.in_err-written.ensures in
    record {
      kept = (full_to lent d.same d.kept.behind.same_length _ c.from_residual.ensures.1 d.kept.taken).kept;
      steps = λ m k.
          let e = k _ _ _ pair c.in_err-written.ensures in
          simp (f_in, g_in) (full_to lent e.same e.kept.behind.same_length _ c.from_residual.ensures.1 e.kept.taken);
    }

pub returns : goal.returns
returns g c =
    let f_in = rw c.rows-rows.ensures.count at (c.has.ensures ∙ c.if-not-has.false) in
    let g_in = rw c.rows-rows.ensures.count at (c.has-else-not-has.ensures ∙ c.if-not-has-2.false) in
    let pair = pair_in c.requires.live f_in g_in in
    let lent = c.requires.live.indexed.lent in
    let d = c.requires.takes.1 _ _ _ pair c.in_ok-written.ensures in
    record {
      kept = (made_to lent d.same d.kept.behind.same_length d.kept.taken).kept;
      steps = λ m k.
          let e = k _ _ _ pair c.in_ok-written.ensures in
          simp (f_in, g_in) (made_to lent e.same e.kept.behind.same_length e.kept.taken);
    }
