use borrow.Author.Rules.{rules}
use Rattle.leads.proofs.Filling.{from_fits, table_fits}
use Rattle.leads.proofs.Tabling.{lead_stays, lead_small}
use Rattle.leads.proofs.lead_at.Goals as goal

pub returns-then-le : goal.returns-then-le
returns-then-le c = lead_stays _ _ _ _ _ c.requires.0 _ c.requires.1 _ _ _ c.row.ensures (search (rules, c.if-le.ensures))

pub overflow_sub-work : goal.overflow_sub-work
overflow_sub-work c = from_fits _ _ _ c.words_used-from.ensures

pub overflow_cast-result-2 : goal.overflow_cast-result-2
overflow_cast-result-2 c = search (rules, lead_small _ _ _ _ _ c.requires.0 _ c.requires.1 _ _ _ c.row.ensures (search (rules, c.if-le.ensures)) _ c.words_used-from.ensures (table_fits _ _ _ c.words_used-from.ensures _ c.if-work-from.false))
