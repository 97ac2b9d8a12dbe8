use lib.ListN.{length}
use Rattle.table.specs.Made.{made_of}
use Rattle.table.specs.Views.{slices_of}
use Rattle.mullagrane.specs.Inner.{Ready}
use Rattle.mullagrane.proofs.print_all.Given as goal

abbrev pub invariant-loop-o : goal.invariant-loop-o
invariant-loop-o g l = Ready (made_of l.made l.t.count) (slices_of l.t) l.net (length l.pattern)
