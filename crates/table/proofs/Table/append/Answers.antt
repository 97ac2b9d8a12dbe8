use mathlib.Core.Path.{refl}
use Rattle.table.proofs.Takes.{append_full, append_room}
use Rattle.table.proofs.Table.append.Goals as goal

pub returns-then-self-i : goal.returns-then-self-i
returns-then-self-i c = record { same = record { vs = refl; ts = refl; es = refl; work = refl }; taken = append_full _ _ _ _ _ _ _ c.requires c.if-self-i.true; work = refl; count = refl }

pub returns : goal.returns
returns c = record { same = record { vs = refl; ts = refl; es = refl; work = refl }; taken = append_room _ _ _ _ _ _ _ c.requires c.if-self-i.false; work = refl; count = tt }
