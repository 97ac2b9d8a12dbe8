-- Roots in a sound table.
use Prim.Native.Nat.{ℕ, ◌<◌, ◌≤◌}
use mathlib.Core.Path.{sym}
use native.Mathlib.Omega.{arith}
use Rattle.steps.specs.Rows.{Rows, next, value, row}
use Rattle.steps.specs.Sound.{Sound}
use Rattle.steps.proofs.Bools.{and_false, xor_false}
use Rattle.steps.proofs.Compare.{Kind, const, inner, kind}
use Rattle.steps.proofs.Rows.{next_2, value_0, row_const, Node, node, Cut}

module _ (N : ℕ) where
  pub root_le : (R : Rows) → Sound N R → (k : ℕ) → k < next R → (row N R k).var ≤ N
  root_le R s k u = go (kind k)
    where
      go : Kind k → (row N R k).var ≤ N
      go (const h) = rw (row_const N R k h) (omega arith)
      go (inner h) = let n = (node N R s k u h).var_below in omega arith

  -- a number whose root lies before N is a row
  pub node_below : {R : Rows} → Sound N R → (k : ℕ) → k < next R → (row N R k).var < N → Node N R k
  node_below {R} s k u b = go (kind k)
    where
      go : Kind k → Node N R k
      go (const h) = absurd (let c = rw (row_const N R k h) at b in omega arith)
      go (inner h) = node N R s k u h

  -- x_v does not stand in what has its root beyond it
  pub cut_absent : {R : Rows} {v k : ℕ} → v < N → k < next R → v < (row N R k).var → Cut N R v k 0 k
  cut_absent {R} {v} {k} b u h = record {
    then_used = let z = next_2 R in omega arith;
    else_used = u;
    then_above = rw (row_const N R 0 (omega arith)) b;
    else_above = h;
    splits = λ a. sym (rw (value_0 a R, and_false (a v), xor_false (value a R k)));
  }
