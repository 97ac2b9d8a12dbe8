use Rattle.leads.proofs.Walking.{is_past, is_at_lead}
use Rattle.std.proofs.Common.{rules}
use Rattle.leads.proofs.past.Goals as goal

pub returns-then-lt : goal.returns-then-lt
returns-then-lt c = is_past _ _ _ _ _ _ _ c.row-a.ensures (search (rules, c.if-lt.ensures))

pub returns : goal.returns
returns c = is_at_lead _ _ _ _ _ _ _ c.row-a.ensures (search (rules, c.if-lt.ensures))
