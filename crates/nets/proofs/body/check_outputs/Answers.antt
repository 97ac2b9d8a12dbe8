-- `body::check_outputs` by whether the next output is known.
use Rattle.std.proofs.Common.{sym, ap, ◌∙◌}
use Rattle.std.proofs.lemmas.List.{get_or-map, length-map}
use Rattle.aiger.specs.Net.{known}
use Rattle.aiger.specs.Marked.{checked_of}
use Rattle.aiger.specs.declared.lines.Lit.{Lit}
use Rattle.aiger.proofs.KnownOutputs.{passed_stop, passed_next, passed_end}
use Rattle.nets.proofs.body.check_outputs.Goals as goal

pub returns-then-not-knows : goal.returns-then-not-knows
returns-then-not-knows c = λ ls m. sym (ap checked_of (passed_stop (c.loop-k.invariant ls m) (rw length-map c.loop-k-test.true)
    (ap (known c.args.defined.now.highest ls) (get_or-map (λ (l : Lit). l.0) c.args.outputs.now c.loop-k.k _ 0 c.loop-k-test.true) ∙ sym (c.knows.ensures ls m) ∙ c.if-not-knows.true)))

pub loop-k-preserved : goal.loop-k-preserved
loop-k-preserved c = λ ls m. passed_next (c.loop-k.invariant ls m) (rw length-map c.loop-k-test.true)
    (ap (known c.args.defined.now.highest ls) (get_or-map (λ (l : Lit). l.0) c.args.outputs.now c.loop-k.k _ 0 c.loop-k-test.true) ∙ sym (c.knows.ensures ls m) ∙ c.if-not-knows.false)

pub returns : goal.returns
returns c = λ ls m. sym (ap checked_of (passed_end (c.loop-k.invariant ls m) (rw length-map c.loop-k-test.false)))
