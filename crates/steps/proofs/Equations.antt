-- An equation added to a system.
use Prim.Native.Nat.{ℕ, zero, suc, ◌<◌, ◌≤◌}
use mathlib.Core.Path.{◌≡◌, refl, ◌∙◌}
use mathlib.Core.Bool.{◌&&◌, beq}
use native.Mathlib.Omega.{arith}
use Rattle.steps.specs.Rows.{row_of, Rows, none, ◌▹◌, next, Assignment, value, row, find}
use Rattle.steps.specs.Sound.{Sound}
use Rattle.steps.specs.Steps.{make}
use Rattle.steps.specs.System.{InOrder, equation, holds}
use Rattle.steps.proofs.Found.{found}
use Rattle.steps.proofs.Leads.{holds_older, holds_newest}
use Rattle.steps.proofs.Ok.{make_found, make_new}
use Rattle.steps.proofs.Roots.{node_below}
use Rattle.steps.proofs.Rows.{◌≼◌, stop, more, next_grows, Newest, newest, older, newest?, value_older, value_keeps, row_older, row_newest, node}
use Rattle.steps.proofs.Theorems.{make_right}

-- a row that was made is the row that was asked for
pub made_row : (N v t e : ℕ) (R : Rows) → (t ≡ 0 → ⊥) → row N (make v t e R).rows (make v t e R).num ≡ row_of v t e
made_row N v t e R h = go (find R (row_of v t e)) refl
  where
    go : (n : ℕ) → find R (row_of v t e) ≡ n → row N (make v t e R).rows (make v t e R).num ≡ row_of v t e
    go zero f = rw (make_new N v t e R h f) (row_newest N R (row_of v t e))
    go (suc k) f = rw (make_found N v t e k R h f) (found N R (row_of v t e) k f).is

holds_keeps : {R S : Rows} → R ≼ S → (a : Assignment) (k : ℕ) → k < next R → holds a S k ≡ holds a R k
holds_keeps stop a k h = refl
holds_keeps (more {S} {r} q) a k h = let g = next_grows q in holds_older a S r k (omega arith) ∙ holds_keeps q a k h

module _ (N : ℕ) where
  -- what the equation of the system's root asks
  pub holds_node : (R : Rows) → Sound N R → (k : ℕ) → k < next R → 2 ≤ k → (a : Assignment)
      → holds a R k ≡ beq (a (row N R k).var) (value a R (row N R k).else_part) && holds a R (row N R k).then_part
  unfolding Sound next
  holds_node none s k u g a = absurd (omega arith)
  holds_node (R ▹ r) s k u g a = go (newest? R r k u) (λ w. holds_node R s.0 k w g a)
    where
      go : Newest R k → (k < next R → holds a R k ≡ beq (a (row N R k).var) (value a R (row N R k).else_part) && holds a R (row N R k).then_part)
          → holds a (R ▹ r) k ≡ beq (a (row N (R ▹ r) k).var) (value a (R ▹ r) (row N (R ▹ r) k).else_part) && holds a (R ▹ r) (row N (R ▹ r) k).then_part
      go (older w) ih =
          let c = (node N R s.0 k w g).cut in
          rw (row_older N R r k w, holds_older a R r k w, holds_older a R r (row N R k).then_part c.then_used, value_older a R r (row N R k).else_part c.else_used) (ih w)
      go (newest e) ih =
          let c = s.1 in
          rw (e, row_newest N R r, holds_older a R r r.then_part c.then_used, value_older a R r r.else_part c.else_used) (holds_newest a R r)

  -- "Row (i, F, t) is the system F with the equation x_i + t = 0 added."
  pub equation_holds : (R : Rows) → Sound N R → (i F t : ℕ) → F < next R → t < next R → (F ≡ 0 → ⊥) → InOrder N R i F t → (a : Assignment)
      → holds a (equation i F t R).rows (equation i F t R).num ≡ beq (a i) (value a R t) && holds a R F
  equation_holds R s i F t u_f ut F0 o a =
      let m = make_right N R s i F t o.lead_below u_f ut o.system_above o.tail_above in
      let r = made_row N i F t R F0 in
      let n = node_below N m.sound (make i F t R).num m.used (rw r o.lead_below) in
      holds_node (make i F t R).rows m.sound (make i F t R).num m.used n.inner a ∙ rw (r, value_keeps m.appends a t ut, holds_keeps m.appends a F u_f)
