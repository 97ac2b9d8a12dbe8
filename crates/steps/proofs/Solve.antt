-- What a system makes of an assignment. With it the meaning of a normal form is one formula: its value at a is p's value at solve F a.
use Prim.Native.Nat.{ℕ, ◌<◌, ◌≤◌}
use mathlib.Core.Path.{◌≡◌, refl, ◌∙◌}
use mathlib.Core.Bool.{true, false}
use native.Mathlib.Omega.{arith}
use lib.Dec.{eqb}
use borrow.Author.Tests.{eq-eqb, ne_eqb}
use Rattle.steps.specs.One.{put}
use Rattle.steps.specs.Rows.{Row, Rows, none, ◌▹◌, next, Assignment, value, row}
use Rattle.steps.specs.Sound.{Sound}
use Rattle.steps.proofs.Put.{put_other}
use Rattle.steps.proofs.Rows.{◌≼◌, stop, more, next_grows, next_2, Newest, newest, older, newest?, value_older, row_older, row_newest, node}

-- a, with each lead's value set to what the system asks, the last lead first
unfoldable pub solve : Rows → ℕ → Assignment → Assignment
solve none F a = a
solve (R ▹ r) F a = elim (eqb F (next R)) [
  | true ↦ let b = solve R r.then_part a in put b r.var (value b R r.else_part)
  | false ↦ solve R F a
]

pub solve_older : (R : Rows) (r : Row) (k : ℕ) → k < next R → (a : Assignment) → solve (R ▹ r) k a ≡ solve R k a
unfolding solve
solve_older R r k h a = rw (ne_eqb k (next R) (λ q. omega arith), solve)

pub solve_newest : (R : Rows) (r : Row) (a : Assignment) → solve (R ▹ r) (next R) a ≡ put (solve R r.then_part a) r.var (value (solve R r.then_part a) R r.else_part)
unfolding solve
solve_newest R r a = rw (eq-eqb (next R) (next R) refl, solve)

pub solve_keeps : {R S : Rows} → R ≼ S → (k : ℕ) → k < next R → (a : Assignment) → solve S k a ≡ solve R k a
solve_keeps stop k h a = refl
solve_keeps (more {S} {r} q) k h a = let g = next_grows q in solve_older S r k (omega arith) a ∙ solve_keeps q k h a

pub solve_const : (R : Rows) (k : ℕ) → k < 2 → (a : Assignment) → solve R k a ≡ a
unfolding solve
solve_const none k h a = refl
solve_const (R ▹ r) k h a = let g = next_2 R in solve_older R r k (omega arith) a ∙ solve_const R k h a

module _ (N : ℕ) where
  -- what the equation of the system's root sets
  pub solve_node : (R : Rows) → Sound N R → (k : ℕ) → k < next R → 2 ≤ k → (a : Assignment)
      → solve R k a ≡ put (solve R (row N R k).then_part a) (row N R k).var (value (solve R (row N R k).then_part a) R (row N R k).else_part)
  unfolding Sound next
  solve_node none s k u g a = absurd (omega arith)
  solve_node (R ▹ r) s k u g a = go (newest? R r k u) (λ w. solve_node R s.0 k w g a)
    where
      Goal : ℕ → Type 0
      Goal k = solve (R ▹ r) k a ≡ put (solve (R ▹ r) (row N (R ▹ r) k).then_part a) (row N (R ▹ r) k).var (value (solve (R ▹ r) (row N (R ▹ r) k).then_part a) (R ▹ r) (row N (R ▹ r) k).else_part)

      go : Newest R k → (k < next R → solve R k a ≡ put (solve R (row N R k).then_part a) (row N R k).var (value (solve R (row N R k).then_part a) R (row N R k).else_part)) → Goal k
      go (older w) ih =
          let c = (node N R s.0 k w g).cut in
          rw (row_older N R r k w, solve_older R r k w a, solve_older R r (row N R k).then_part c.then_used a, value_older _ R r (row N R k).else_part c.else_used) (ih w)
      go (newest e) ih =
          let c = s.1 in
          rw (e, row_newest N R r, solve_older R r r.then_part c.then_used a, value_older (solve R r.then_part a) R r r.else_part c.else_used) (solve_newest R r a)

  -- a system leaves what stands before its root
  pub solve_below : (R : Rows) → Sound N R → (k : ℕ) → k < next R → (a : Assignment) (v : ℕ) → v < (row N R k).var → solve R k a v ≡ a v
  unfolding Sound next solve
  solve_below none s k u a v h = refl
  solve_below (R ▹ r) s k u a v h = go (newest? R r k u) (solve_below R s.0)
    where
      go : Newest R k → ((k : ℕ) → k < next R → (a : Assignment) (v : ℕ) → v < (row N R k).var → solve R k a v ≡ a v) → solve (R ▹ r) k a v ≡ a v
      go (older w) ih = rw (solve_older R r k w a) (ih k w a v (rw (row_older N R r k w) at h))
      go (newest e) ih =
          let c = s.1 in
          let h' : v < r.var = rw (e, row_newest N R r) at h in
          rw (e, solve_newest R r a, put_other (solve R r.then_part a) r.var (value (solve R r.then_part a) R r.else_part) v (λ q. omega arith))
          (ih r.then_part c.then_used a v (let z = c.then_above in omega arith))
