-- Leads that are skipped without a row: what is left of a system, and that it gives the same normal forms.
use Prim.Native.Nat.{ℕ, suc, ◌<◌, ◌≤◌}
use mathlib.Core.Path.{◌≡◌, refl, ◌∙◌}
use native.Mathlib.Omega.{arith}
use Rattle.steps.specs.Rows.{Rows, next, row, root}
use Rattle.steps.specs.Sound.{Sound}
use Rattle.steps.specs.Steps.{answer, normal}
use Rattle.steps.proofs.Laws.{normal_above}
use Rattle.steps.proofs.Normal.{normals_1}
use Rattle.steps.proofs.Roots.{node_below}
use Rattle.steps.proofs.Rows.{◌≼◌, Node, row_keeps, row_const}
use Rattle.leads.specs.Inner.{Skips, stays, skips}

module _ (N : ℕ) (R : Rows) (w : Sound N R) (v : ℕ) (b : v ≤ N) where
  -- a system whose lead is before v has an equation
  lead : (F : ℕ) → F < next R → root N R F < v → Node N R F
  lead F u h = node_below N w F u (omega arith)

  no_one : (F : ℕ) → root N R F < v → F ≡ 1 → ⊥
  no_one F h e = let z : root N R F ≡ N = rw (e, root, row_const N R 1 (omega arith)) in omega arith

  -- what is left is a system in use, whose lead is not before v nor before the first system's
  pub record Left (F G : ℕ) : Type 0 where
    pub used : G < next R
    pub not_0 : G ≡ 0 → ⊥
    pub reached : v ≤ root N R G
    pub behind : root N R F ≤ root N R G

  pub skips_left : (F G : ℕ) → F < next R → (F ≡ 0 → ⊥) → Skips N R v F G → Left F G
  skips_left F G u F0 (stays _ h) = record { used = u; not_0 = F0; reached = h; behind = omega arith }
  skips_left F G u F0 (skips _ _ h s) =
      let n = lead F u h in
      let l = skips_left (row N R F).then_part G n.cut.then_used n.then_not_0 s in
      record { used = l.used; not_0 = l.not_0; reached = l.reached; behind = omega (arith, l.behind, n.cut.then_above) }

  -- "Root of p above F's in index: normal form of p by then(F)."
  pub skips_normal : (p F G : ℕ) → p < next R → 2 ≤ p → v ≤ root N R p → F < next R → (F ≡ 0 → ⊥) → Skips N R v F G → normal N p F R ≡ normal N p G R
  skips_normal p F G up p2 h u F0 (stays _ _) = refl
  skips_normal p F G up p2 h u F0 (skips _ _ l s) =
      let n = lead F u l in
      normal_above N R w p F up u F0 (no_one F l) p2 (omega arith) ∙ skips_normal p (row N R F).then_part G up p2 h n.cut.then_used n.then_not_0 s

  -- rows that are appended change nothing
  pub skips_keeps : (S : Rows) → R ≼ S → (F G : ℕ) → F < next R → Skips N R v F G → Skips N S v F G
  skips_keeps S k F G u (stays _ h) = stays F (rw (root, row_keeps N k F u) h)
  skips_keeps S k F G u (skips _ _ h s) =
      let n = lead F u h in
      skips F G (rw (root, row_keeps N k F u) h) (rw (row_keeps N k F u) (skips_keeps S k (row N R F).then_part G n.cut.then_used s))

-- what is left of a system is left of its other equations
pub skips_inside : (N : ℕ) (R : Rows) (v F G : ℕ) → root N R F < v → Skips N R v F G → Skips N R v (row N R F).then_part G
skips_inside N R v F G h (stays _ l) = absurd (omega arith)
skips_inside N R v F G h (skips _ _ l s) = s

-- and of what is left where fewer leads are skipped
pub skips_through : (N : ℕ) (R : Rows) (v u : ℕ) → v ≤ u → (F H G : ℕ) → Skips N R v F H → Skips N R u F G → Skips N R u H G
skips_through N R v u h F H G (stays _ l) k = k
skips_through N R v u h F H G (skips _ _ l s) k = skips_through N R v u h (row N R F).then_part H G s (skips_inside N R u F G (omega arith) k)

-- one variable further
module _ (N : ℕ) (R : Rows) (w : Sound N R) (v : ℕ) (b : v < N) where
  pub skips_same : (F G : ℕ) → v < root N R G → Skips N R v F G → Skips N R (suc v) F G
  skips_same F G h (stays _ l) = stays F (omega arith)
  skips_same F G h (skips _ _ l s) = skips F G (omega arith) (skips_same (row N R F).then_part G h s)

  pub skips_lead : (F G : ℕ) → F < next R → root N R G ≤ v → Skips N R v F G → Skips N R (suc v) F (row N R G).then_part
  skips_lead F G u h (stays _ l) =
      let n = node_below N w F u (omega arith) in
      skips F (row N R F).then_part (omega arith) (stays (row N R F).then_part (omega (arith, n.cut.then_above)))
  skips_lead F G u h (skips _ _ l s) =
      let n = node_below N w F u (omega arith) in
      skips F (row N R G).then_part (omega arith) (skips_lead (row N R F).then_part G n.cut.then_used h s)

-- "F = 1 or p constant gives p."
pub normal_empty : (N : ℕ) (R : Rows) (p F : ℕ) → F ≡ 1 → normal N p F R ≡ answer p R
normal_empty N R p F e = rw e (normals_1 N N p R)
