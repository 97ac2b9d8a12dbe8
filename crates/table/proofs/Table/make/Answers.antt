use mathlib.Core.Path.{◌∙◌, ap, subst}
use Rattle.table.specs.Inner.{number_of, IfFound}
use Rattle.table.proofs.Enters.{entered_by, entered_nothing, make_else, make_at, make_append}
use Rattle.table.proofs.Loans.{same}
use Rattle.table.proofs.Table.make.Goals as goal

pub returns-then-x-eq0 : goal.returns-then-x-eq0
returns-then-x-eq0 c = record { same = same; entered = entered_nothing c.requires (make_else _ _ _ _ c.if-x-eq0.true); count = tt }

pub returns-in-Some : goal.returns-in-Some
returns-in-Some c = record { same = same; entered = entered_nothing c.requires (make_at _ _ _ _ _ c.if-x-eq0.false (c.find.ensures.is ∙ ap number_of c.in-Some.is) (subst IfFound c.in-Some.is c.find.ensures.some)); count = tt }

pub returns-in-None : goal.returns-in-None
returns-in-None c = record { same = c.add.ensures.same; entered = entered_by (make_append _ _ _ _ c.if-x-eq0.false (c.find.ensures.is ∙ ap number_of c.in-None.is)) c.add.ensures.entered; count = c.add.ensures.count }
