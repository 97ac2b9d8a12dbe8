use mathlib.Core.Path.{refl}
use Rattle.table.proofs.Enters.{add_full, add_linkable, add_room}
use Rattle.table.proofs.Links.{bucket_in}
use Rattle.table.proofs.Loans.{same_then}
use Rattle.table.proofs.Table.add.Goals as goal

pub returns-then-self-i : goal.returns-then-self-i
returns-then-self-i c = record { same = record { vs = refl; ts = refl; es = refl; work = refl }; entered = add_full _ _ _ _ _ _ _ _ c.requires.indexed c.if-self-i.true; count = refl }

pub enter-requires : goal.enter-requires
enter-requires c = let l = add_linkable _ _ _ _ 0 0 0 _ c.requires.indexed c.if-self-i.false _ c.requires.belongs.words in record { linkable = l; inside = bucket_in l _ c.requires.belongs.place }

pub returns : goal.returns
returns c = record {
  same = same_then (record { vs = refl; ts = refl; es = refl; work = refl }) c.append.ensures.same;
  entered = rw c.append.ensures.work (add_room _ _ _ _ _ _ _ _ c.requires.indexed c.if-self-i.false _ c.requires.belongs.words _ (c.enter.ensures _ c.requires.belongs.place) _ _ c.requires.is_new c.append.ensures.taken);
  count = c.append.ensures.count;
}
