-- Soundness as a statement and as a test say the same.
use Prim.Native.Nat.{ℕ}
use mathlib.Core.Path.{◌≡◌, refl}
use mathlib.Core.Bool.{true, not}
use lib.Dec.{eqb, ltb}
use borrow.Author.Tests.{eqb-true, eqb-false, eq-eqb, ne_eqb, ltb-true, lt-ltb, not-true}
use Rattle.steps.specs.Rows.{Row, Rows, none, ◌▹◌, next, find, row}
use Rattle.steps.specs.Sound.{Fits, Sound, fits, sound}
use Rattle.steps.proofs.Bools.{both_true}
use Rattle.steps.proofs.Rows.{◌≼◌, stop, more}

module _ (N : ℕ) where
  pub fits_true : (R : Rows) (r : Row) → fits N R r ≡ true → Fits N R r
  unfolding fits
  fits_true R r e =
      let e₆ = both_true _ (eqb (find R r) 0) e in
      let e₅ = both_true _ (ltb r.var (row N R r.else_part).var) e₆.0 in
      let e₄ = both_true _ (ltb r.var (row N R r.then_part).var) e₅.0 in
      let e₃ = both_true _ (not (eqb r.then_part 0)) e₄.0 in
      let e₂ = both_true _ (ltb r.else_part (next R)) e₃.0 in
      let e₁ = both_true (ltb r.var N) (ltb r.then_part (next R)) e₂.0 in
      record {
        var_below = ltb-true r.var N e₁.0;
        then_used = ltb-true r.then_part (next R) e₁.1;
        else_used = ltb-true r.else_part (next R) e₂.1;
        then_not_0 = eqb-false r.then_part 0 (not-true (eqb r.then_part 0) e₃.1);
        then_above = ltb-true r.var (row N R r.then_part).var e₄.1;
        else_above = ltb-true r.var (row N R r.else_part).var e₅.1;
        new = eqb-true (find R r) 0 e₆.1;
      }

  true_fits : (R : Rows) (r : Row) → Fits N R r → fits N R r ≡ true
  unfolding fits
  true_fits R r c = rw (
    lt-ltb r.var N c.var_below,
    lt-ltb r.then_part (next R) c.then_used,
    lt-ltb r.else_part (next R) c.else_used,
    ne_eqb r.then_part 0 c.then_not_0,
    lt-ltb r.var (row N R r.then_part).var c.then_above,
    lt-ltb r.var (row N R r.else_part).var c.else_above,
    eq-eqb (find R r) 0 c.new,
    fits,
  )

  pub sound_true : (R : Rows) → sound N R ≡ true → Sound N R
  unfolding sound Sound
  sound_true none e = tt
  sound_true (R ▹ r) e = let q = both_true (sound N R) (fits N R r) e in (sound_true R q.0, fits_true R r q.1)

  pub true_sound : (R : Rows) → Sound N R → sound N R ≡ true
  unfolding sound Sound
  true_sound none s = refl
  true_sound (R ▹ r) s = rw (true_sound R s.0, true_fits R r s.1)

  -- a beginning of sound rows is sound
  pub sound_part : {R S : Rows} → R ≼ S → sound N S ≡ true → sound N R ≡ true
  unfolding sound
  sound_part stop e = e
  sound_part (more {S} {r} q) e = sound_part q (both_true (sound N S) (fits N S r) e).0

  pub sound_below : {R S : Rows} → R ≼ S → Sound N S → Sound N R
  unfolding Sound
  sound_below stop s = s
  sound_below (more q) s = sound_below q s.0
