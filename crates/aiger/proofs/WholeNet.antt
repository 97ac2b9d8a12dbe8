-- The whole text: what the code's answers say of the net. Assumes nothing.
use Prim.Native.Nat.{◌+◌, ◌≤◌}
use mathlib.Core.Path.{◌≡◌}
use mathlib.Core.Bool.{true, ◌&&◌}
use lib.Dec.{eqb, leb}
use borrow.Author.Tests.{leb-true}
use Rattle.aiger.specs.Form.{Header}
use Rattle.aiger.specs.Net.{limits}
use Rattle.aiger.proofs.Bools.{split_and}

-- the limits as facts
pub record Within (h : Header) : Type 0 where
  pub vars : h.M ≤ 1024
  pub outs : h.O ≤ 1024
  pub sum : h.I + h.A ≤ h.M

pub within : (h : Header) → limits h ≡ true → Within h
within h e =
    let p = split_and (leb h.M 1024 && leb h.O 1024 && eqb h.L 0) (leb (h.I + h.A) h.M) e in
    let q = split_and (leb h.M 1024 && leb h.O 1024) (eqb h.L 0) p.0 in
    let r = split_and (leb h.M 1024) (leb h.O 1024) q.0 in
    record { vars = leb-true h.M 1024 r.0; outs = leb-true h.O 1024 r.1; sum = leb-true (h.I + h.A) h.M p.1 }
