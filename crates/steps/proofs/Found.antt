-- What find finds.
use Prim.Native.Nat.{ℕ, zero, suc, ◌<◌, ◌≤◌}
use mathlib.Core.Path.{◌≡◌, refl, sym, ◌∙◌}
use mathlib.Core.Bool.{Bool, true, false, ◌&&◌}
use native.Mathlib.Omega.{arith}
use lib.Dec.{eqb}
use borrow.Author.Tests.{eqb-true, eq-eqb}
use Rattle.steps.specs.Rows.{Row, Rows, none, ◌▹◌, next, alike, find, row}
use Rattle.steps.proofs.Bools.{both_true}
use Rattle.steps.proofs.Rows.{◌≼◌, stop, more, next_2, row_newest, row_older}

-- equality of rows by the test
pub alike_true : (r s : Row) → alike r s ≡ true → r ≡ s
alike_true r s e =
    let h = both_true (eqb r.var s.var && eqb r.then_part s.then_part) (eqb r.else_part s.else_part) e in
    let g = both_true (eqb r.var s.var) (eqb r.then_part s.then_part) h.0 in
    λ i. record {
      var = eqb-true r.var s.var g.0 i;
      then_part = eqb-true r.then_part s.then_part g.1 i;
      else_part = eqb-true r.else_part s.else_part h.1 i;
    }

pub alike_refl : (r : Row) → alike r r ≡ true
alike_refl r = rw (eq-eqb r.var r.var refl, eq-eqb r.then_part r.then_part refl, eq-eqb r.else_part r.else_part refl)

-- a found row stays found
find_older : (R : Rows) (s r : Row) {k : ℕ} → find R r ≡ suc k → find (R ▹ s) r ≡ suc k
unfolding find
find_older R s r e = rw (e, find)

pub find_keeps : {R S : Rows} → R ≼ S → (r : Row) {k : ℕ} → find R r ≡ suc k → find S r ≡ suc k
find_keeps stop r e = e
find_keeps (more {S} {r = s} q) r e = find_older S s r (find_keeps q r e)

pub find_newest : (R : Rows) (r : Row) → find R r ≡ 0 → find (R ▹ r) r ≡ next R
unfolding find
find_newest R r e = rw (e, find, alike_refl r)

-- a row that is not alike changes nothing
pub find_other : (R : Rows) (s r : Row) → alike s r ≡ false → find (R ▹ s) r ≡ find R r
unfolding find
find_other R s r e = go (find R r) refl
  where
    go : (n : ℕ) → find R r ≡ n → find (R ▹ s) r ≡ find R r
    go zero q = rw (q, find, e)
    go (suc n) q = rw (q, find)

-- what is found is a row in use, and is alike
pub record Found (N : ℕ) (R : Rows) (r : Row) (k : ℕ) : Type 0 where
  pub used : k < next R
  pub inner : 2 ≤ k
  pub is : row N R k ≡ r

module _ (N : ℕ) where
  found_more : {R : Rows} (s : Row) {r : Row} {k : ℕ} → Found N R r k → Found N (R ▹ s) r k
  unfolding next
  found_more {R} s {r} {k} f = record { used = let u = f.used in omega arith; inner = f.inner; is = row_older N R s k f.used ∙ f.is }

  found_step : (R : Rows) (s r : Row) (j k : ℕ) → find R r ≡ j → ((i : ℕ) → find R r ≡ suc i → Found N R r (suc i)) → find (R ▹ s) r ≡ suc k → Found N (R ▹ s) r (suc k)
  unfolding find next
  found_step R s r (suc j) k e old h = let q : suc k ≡ suc j = sym h ∙ find_older R s r e in rw q (found_more s (old j e))
  found_step R s r zero k e old h = go (alike s r) refl (rw (e, find) at h)
    where
      go : (b : Bool) → alike s r ≡ b → elim (alike s r) as (λ x. ℕ) [ true ↦ next R | false ↦ 0 ] ≡ suc k → Found N (R ▹ s) r (suc k)
      go true t g =
          let q : suc k ≡ next R = sym (rw t at g) in
          let z = next_2 R in
          rw q (record { used = omega arith; inner = next_2 R; is = row_newest N R s ∙ alike_true s r t })
      go false t g = absurd (let q : 0 ≡ suc k = rw t at g in omega arith)

  pub found : (R : Rows) (r : Row) (k : ℕ) → find R r ≡ suc k → Found N R r (suc k)
  unfolding find
  found none r k e = absurd (omega arith)
  found (R ▹ s) r k e = found_step R s r (find R r) k refl (λ i. found R r i) e
