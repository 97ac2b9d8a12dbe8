-- Walking through the leads of a system.
use Prim.Native.Nat.{ℕ, ◌+◌, ◌-◌, ◌<◌, ◌≤◌}
use mathlib.Core.Path.{◌≡◌, ap, subst}
use native.Mathlib.Omega.{arith}
use Rattle.steps.specs.Rows.{Row, row_of, Rows, next, row, root}
use Rattle.steps.specs.Table.{Slices, rows_of}
use Rattle.steps.proofs.Roots.{node_below}
use Rattle.steps.proofs.Rows.{Node}
use Rattle.steps.proofs.Table.{rows_of_next}
use Rattle.table.specs.Lent.{Numbered}
use Rattle.leads.specs.Inner.{Skips, stays, skips, Past, no_lead, at_lead, Walking}

-- walking through the leads: what is left of f so far is g, whose row is (u, t, e)
pub record Walked (N : ℕ) (R : Rows) (v f g u t e : ℕ) : Type 0 where
  pub used : g < next R
  pub not_0 : g ≡ 0 → ⊥
  pub is : row N R g ≡ row_of u t e
  pub leads_on : (G : ℕ) → Skips N R v g G → Skips N R v f G

module _ (N c : ℕ) (s : Slices) (f v : ℕ) (d : Walking N c s f v) where
  abbrev R : Rows
  R = rows_of s c

  used : (k : ℕ) → k < c + 2 → k < next R
  used k h = omega (arith, rows_of_next s c)

  pub walk_starts : (u t e : ℕ) → row N (rows_of s c) f ≡ row_of u t e → Walked N (rows_of s c) v f f u t e
  walk_starts u t e q = record { used = used f d.system.used; not_0 = d.system.not_0; is = q; leads_on = λ G h. h }

  module _ (g u t e : ℕ) (w : Walked N (rows_of s c) v f g u t e) where
    pub walk_ends : v ≤ u → Skips N (rows_of s c) v f g
    walk_ends h = w.leads_on g (stays g (rw (root, w.is) h))

    module _ (h : u < v) where
      lead : Node N R g
      lead = node_below N d.sound g w.used (rw w.is (omega (arith, d.var_below)))

      then_is : (row N R g).then_part ≡ t
      then_is = ap (λ (r : Row). r.then_part) w.is

      pub walk_on_asks : Numbered c s t
      walk_on_asks = record { lent = d.lent; used = omega (arith, rows_of_next s c, lead.cut.then_used, then_is) }

      module _ (u' t' e' : ℕ) (q : row N (rows_of s c) t ≡ row_of u' t' e') where
        above : u < u'
        above = rw (w.is, q) at lead.cut.then_above

        pub walk_falls : N - u' < N - u
        walk_falls = omega (arith, above, d.var_below)

        pub walk_goes_on : Walked N (rows_of s c) v f t u' t' e'
        walk_goes_on = record {
          used = rw then_is at lead.cut.then_used;
          not_0 = rw then_is at lead.then_not_0;
          is = q;
          leads_on = λ G k. w.leads_on G (skips g G (rw (root, w.is) h) (rw then_is k));
        }

-- a lead at v, or none
module _ (N : ℕ) (R : Rows) (v F u t e : ℕ) (q : row N R F ≡ row_of u t e) where
  pub is_past : v < u → Past N R v F F
  is_past h = no_lead (rw (root, q) h)

  pub is_at_lead : (v < u → ⊥) → Past N R v F t
  is_at_lead h = subst (Past N R v F) (ap (λ (r : Row). r.then_part) q) (at_lead (rw (root, q) (omega arith)))
