-- What a system makes of an assignment: it holds there, it changes nothing where it holds, and no lead counts.
use Prim.Native.Nat.{ℕ, ◌<◌}
use mathlib.Core.Path.{◌≡◌, refl, sym, ◌∙◌}
use mathlib.Core.Bool.{Bool, true, false, ◌&&◌, ◌||◌, beq}
use native.Mathlib.Omega.{arith}
use lib.Dec.{eqb}
use borrow.Author.Tests.{eqb-true, eqb-false, eq-eqb, ne_eqb}
use Rattle.steps.specs.One.{put}
use Rattle.steps.specs.Rows.{Row, Rows, none, ◌▹◌, next, Assignment, value, row}
use Rattle.steps.specs.Sound.{Fits, Sound}
use Rattle.steps.specs.System.{holds, leads, end_of}
use Rattle.steps.proofs.Bools.{both_true, both_false}
use Rattle.steps.proofs.Put.{put_same, put_other, value_put, put_put, put_self, put_comm}
use Rattle.steps.proofs.Rows.{Newest, newest, older, newest?, row_older, row_newest}
use Rattle.steps.proofs.Solve.{solve, solve_older, solve_newest}

beq_true : (a b : Bool) → beq a b ≡ true → a ≡ b
beq_true true true e = refl
beq_true true false e = sym e
beq_true false true e = e
beq_true false false e = refl

beq_refl : (a : Bool) → beq a a ≡ true
beq_refl true = refl
beq_refl false = refl

pub holds_older : (a : Assignment) (R : Rows) (r : Row) (k : ℕ) → k < next R → holds a (R ▹ r) k ≡ holds a R k
unfolding holds
holds_older a R r k h = rw (ne_eqb k (next R) (λ q. omega arith), holds)

pub holds_newest : (a : Assignment) (R : Rows) (r : Row) → holds a (R ▹ r) (next R) ≡ beq (a r.var) (value a R r.else_part) && holds a R r.then_part
unfolding holds
holds_newest a R r = rw (eq-eqb (next R) (next R) refl, holds)

leads_older : (v : ℕ) (R : Rows) (r : Row) (k : ℕ) → k < next R → leads v (R ▹ r) k ≡ leads v R k
unfolding leads
leads_older a R r k h = rw (ne_eqb k (next R) (λ q. omega arith), leads)

leads_newest : (v : ℕ) (R : Rows) (r : Row) → leads v (R ▹ r) (next R) ≡ eqb v r.var || leads v R r.then_part
unfolding leads
leads_newest a R r = rw (eq-eqb (next R) (next R) refl, leads)

-- where the system holds it changes nothing
pub solve_holds : (N : ℕ) (R : Rows) → Sound N R → (s : ℕ) → s < next R → (a : Assignment) → holds a R s ≡ true → solve R s a ≡ a
unfolding Sound next solve
solve_holds N none w s u a h = refl
solve_holds N (R ▹ r) w s u a h = go (solve_holds N R w.0) (newest? R r s u)
  where
    go : ((s : ℕ) → s < next R → (a : Assignment) → holds a R s ≡ true → solve R s a ≡ a) → Newest R s → solve (R ▹ r) s a ≡ a
    go ih (older x) = solve_older R r s x a ∙ ih s x a (rw (holds_older a R r s x) at h)
    go ih (newest e) =
        let q = both_true (beq (a r.var) (value a R r.else_part)) (holds a R r.then_part) (rw (e, holds_newest a R r) at h) in
        rw (e, solve_newest R r a, ih r.then_part w.1.then_used a q.1, ← beq_true (a r.var) (value a R r.else_part) q.0) (put_self a r.var)

-- and a variable that is no lead it leaves
pub solve_unled : (R : Rows) (F v : ℕ) → leads v R F ≡ false → (a : Assignment) → solve R F a v ≡ a v
unfolding solve leads
solve_unled none F v l a = refl
solve_unled (R ▹ r) F v l a = go (eqb F (next R)) refl (solve_unled R)
  where
    Unled : Type 0
    Unled = (F v : ℕ) → leads v R F ≡ false → (a : Assignment) → solve R F a v ≡ a v

    go : (b : Bool) → eqb F (next R) ≡ b → Unled → solve (R ▹ r) F a v ≡ a v
    go true e ih =
        let q = both_false (eqb v r.var) (leads v R r.then_part) (rw (e, leads) at l) in
        rw (e, solve) (put_other (solve R r.then_part a) r.var (value (solve R r.then_part a) R r.else_part) v (eqb-false v r.var q.0) ∙ ih r.then_part v q.1 a)
    go false e ih = rw (e, solve) (ih F v (rw (e, leads) at l) a)

module _ (N : ℕ) where
  holds_put : (R : Rows) → Sound N R → (s : ℕ) → s < next R → (a : Assignment) (v : ℕ) (b : Bool) → v < (row N R s).var → holds (put a v b) R s ≡ holds a R s
  unfolding Sound next holds
  holds_put none w s u a v b h = refl
  holds_put (R ▹ r) w s u a v b h = go (holds_put R w.0) (newest? R r s u)
    where
      c : Fits N R r
      c = w.1

      go : ((s : ℕ) → s < next R → (a : Assignment) (v : ℕ) (b : Bool) → v < (row N R s).var → holds (put a v b) R s ≡ holds a R s) → Newest R s → holds (put a v b) (R ▹ r) s ≡ holds a (R ▹ r) s
      go ih (older x) = holds_older (put a v b) R r s x ∙ ih s x a v b (rw (row_older N R r s x) at h) ∙ sym (holds_older a R r s x)
      go ih (newest e) =
          let h' : v < r.var = rw (e, row_newest N R r) at h in
          rw (
            e,
            holds_newest (put a v b) R r,
            holds_newest a R r,
            put_other a v b r.var (λ q. omega arith),
            value_put N R w.0 r.else_part c.else_used a v b (omega (arith, c.else_above)),
            ih r.then_part c.then_used a v b (omega (arith, c.then_above)),
          )

  -- the system holds at what it makes
  pub holds_solve : (R : Rows) → Sound N R → (s : ℕ) → s < next R → (a : Assignment) → holds (solve R s a) R s ≡ true
  unfolding Sound next holds
  holds_solve none w s u a = refl
  holds_solve (R ▹ r) w s u a = go (holds_solve R w.0) (newest? R r s u)
    where
      c : Fits N R r
      c = w.1

      go : ((s : ℕ) → s < next R → (a : Assignment) → holds (solve R s a) R s ≡ true) → Newest R s → holds (solve (R ▹ r) s a) (R ▹ r) s ≡ true
      go ih (older x) = rw (solve_older R r s x a) (holds_older (solve R s a) R r s x ∙ ih s x a)
      go ih (newest e) =
          let v = r.var in
          let x = solve R r.then_part a in
          let y = value x R r.else_part in
          rw (
            e,
            solve_newest R r a,
            holds_newest (put x v y) R r,
            put_same x v y,
            value_put N R w.0 r.else_part c.else_used x v y c.else_above,
            beq_refl y,
            holds_put R w.0 r.then_part c.then_used x v y c.then_above,
          ) (ih r.then_part c.then_used a)

  solve_put : (R : Rows) → Sound N R → (s : ℕ) → s < next R → (a : Assignment) (v : ℕ) (b : Bool) → v < (row N R s).var → solve R s (put a v b) ≡ put (solve R s a) v b
  unfolding Sound next solve
  solve_put none w s u a v b h = refl
  solve_put (R ▹ r) w s u a v b h = go (solve_put R w.0) (newest? R r s u)
    where
      c : Fits N R r
      c = w.1

      go : ((s : ℕ) → s < next R → (a : Assignment) (v : ℕ) (b : Bool) → v < (row N R s).var → solve R s (put a v b) ≡ put (solve R s a) v b) → Newest R s → solve (R ▹ r) s (put a v b) ≡ put (solve (R ▹ r) s a) v b
      go ih (older x) = rw (solve_older R r s x (put a v b), solve_older R r s x a) (ih s x a v b (rw (row_older N R r s x) at h))
      go ih (newest e) =
          let h' : v < r.var = rw (e, row_newest N R r) at h in
          let x = solve R r.then_part a in
          rw (
            e,
            solve_newest R r (put a v b),
            solve_newest R r a,
            ih r.then_part c.then_used a v b (omega (arith, c.then_above)),
            value_put N R w.0 r.else_part c.else_used x v b (omega (arith, c.else_above)),
          ) (put_comm x v r.var b (value x R r.else_part) (λ q. omega arith))

  -- what a lead was does not count
  pub solve_lead : (R : Rows) → Sound N R → (s : ℕ) → s < next R → (v : ℕ) → leads v R s ≡ true → (a : Assignment) (b : Bool) → solve R s (put a v b) ≡ solve R s a
  unfolding Sound next
  solve_lead none w s u v l a b = unfold leads in cc
  solve_lead (R ▹ r) w s u v l a b = go (solve_lead R w.0) (newest? R r s u)
    where
      c : Fits N R r
      c = w.1

      top : (t : Bool) → eqb v r.var ≡ t → (leads v R r.then_part ≡ true → solve R r.then_part (put a v b) ≡ solve R r.then_part a) → leads v (R ▹ r) (next R) ≡ true → solve (R ▹ r) (next R) (put a v b) ≡ solve (R ▹ r) (next R) a
      top true e ih g =
          let q = eqb-true v r.var e in
          let x = solve R r.then_part a in
          rw (
            q,
            solve_newest R r (put a r.var b),
            solve_newest R r a,
            solve_put R w.0 r.then_part c.then_used a r.var b c.then_above,
            value_put N R w.0 r.else_part c.else_used x r.var b c.else_above,
          ) (put_put x r.var b (value x R r.else_part))
      top false e ih g = rw (solve_newest R r (put a v b), solve_newest R r a, ih (rw (leads_newest v R r, e) at g))

      go : ((s : ℕ) → s < next R → (v : ℕ) → leads v R s ≡ true → (a : Assignment) (b : Bool) → solve R s (put a v b) ≡ solve R s a) → Newest R s → solve (R ▹ r) s (put a v b) ≡ solve (R ▹ r) s a
      go ih (older x) = rw (solve_older R r s x (put a v b), solve_older R r s x a) (ih s x v (rw (leads_older v R r s x) at l) a b)
      go ih (newest e) = rw e (top (eqb v r.var) refl (λ g. ih r.then_part c.then_used v g a b) (rw e at l))

  -- following then-branches ends in 1
  pub ends : (R : Rows) → Sound N R → (F : ℕ) → F < next R → (F ≡ 0 → ⊥) → end_of R F ≡ 1
  unfolding Sound next end_of
  ends none w F u h = omega arith
  ends (R ▹ r) w F u h = go (ends R w.0) (newest? R r F u)
    where
      go : ((F : ℕ) → F < next R → (F ≡ 0 → ⊥) → end_of R F ≡ 1) → Newest R F → end_of (R ▹ r) F ≡ 1
      go ih (older x) = rw (ne_eqb F (next R) (λ q. omega arith), end_of) (ih F x h)
      go ih (newest e) = rw (eq-eqb F (next R) e, end_of) (ih r.then_part w.1.then_used w.1.then_not_0)
