-- Assignments of ring variables and values of a circuit's variables: "Variable v becomes ring variable M - v".
use Prim.Native.Nat.{ℕ, zero, suc, ◌-◌, ◌/◌, ◌<◌, ◌≤◌}
use mathlib.Core.Path.{◌≡◌, refl, sym, ap, ◌∙◌, fun_ext}
use mathlib.Core.Bool.{Bool, true, false, ◌&&◌}
use mathlib.Core.List.{List, [], ◌∷◌}
use native.Mathlib.Omega.{arith}
use lib.Dec.{eqb, leb, ltb}
use borrow.Author.Tests.{eqb-true, eqb-false, leb-true, leb-false, le-leb, lt-leb, lt-ltb}
use Rattle.steps.specs.One.{put}
use Rattle.steps.specs.Rows.{Assignment}
use Rattle.steps.proofs.Put.{put_same, put_other}
use Rattle.std.proofs.Common.{if◌then◌else◌}
use Rattle.aiger.specs.Form.{Gate}
use Rattle.aiger.specs.Meaning.{Values, literal, assign, run}
use Rattle.aiger.specs.Accepted.{Ascending}

-- a circuit's variable: the constants', one of the ring's, or one that no line can name
pub data Place (M v : ℕ) : Type 0 where
  constant : v ≡ 0 → Place M v
  inside : 0 < v → v ≤ M → Place M v
  beyond : M < v → Place M v

pub place : (M v : ℕ) → Place M v
place M zero = constant refl
place M (suc v) = go (leb (suc v) M) refl
  where
    go : (b : Bool) → leb (suc v) M ≡ b → Place M (suc v)
    go true e = inside (omega arith) (leb-true (suc v) M e)
    go false e = beyond (leb-false (suc v) M e)

module _ (M : ℕ) where
  -- the values of the circuit's variables at an assignment
  unfoldable pub values_at : Assignment → Values
  values_at a v = ltb 0 v && leb v M && a (M - v)

  pub values_0 : (a : Assignment) → values_at a 0 ≡ false
  unfolding values_at
  values_0 a = refl

  pub values_inside : (a : Assignment) (v : ℕ) → 0 < v → v ≤ M → values_at a v ≡ a (M - v)
  unfolding values_at
  values_inside a v p h = rw (lt-ltb 0 v p, le-leb v M h)

  pub values_beyond : (a : Assignment) (v : ℕ) → M < v → values_at a v ≡ false
  unfolding values_at
  values_beyond a v h = rw (lt-ltb 0 v (omega arith), lt-leb v M h)

  -- an assignment of the ring variables from values of the circuit's
  abbrev pub ring_of : Values → Assignment
  ring_of at i = at (M - i)

  -- nothing is lost where variable 0 and those beyond M are false
  pub values_ring : (at : Values) → at 0 ≡ false → ((v : ℕ) → M < v → at v ≡ false) → values_at (ring_of at) ≡ at
  values_ring at z b = fun_ext (λ v. go v (place M v))
    where
      go : (v : ℕ) → Place M v → values_at (ring_of at) v ≡ at v
      go v (constant e) = rw e (values_0 (ring_of at) ∙ sym z)
      go v (inside p h) = values_inside (ring_of at) v p h ∙ ap at (let q : M - (M - v) ≡ v = omega arith in q)
      go v (beyond h) = values_beyond (ring_of at) v h ∙ sym (b v h)

  pub values_put : (a : Assignment) (v : ℕ) (b : Bool) → 0 < v → v ≤ M → values_at (put a (M - v) b) ≡ assign v b (values_at a)
  values_put a v b p h = fun_ext (λ w. go w (eqb v w) refl (place M w))
    where
      go : (w : ℕ) (t : Bool) → eqb v w ≡ t → Place M w → values_at (put a (M - v) b) w ≡ (if t then b else values_at a w)
      go w true e x = let q = eqb-true v w e in rw (← q) (values_inside (put a (M - v) b) v p h ∙ put_same a (M - v) b)
      go w false e (constant z) = rw z (values_0 (put a (M - v) b) ∙ sym (values_0 a))
      go w false e (inside p' h') =
          let q = eqb-false v w e in
          values_inside (put a (M - v) b) w p' h' ∙ put_other a (M - v) b (M - w) (λ z. q (omega arith)) ∙ sym (values_inside a w p' h')
      go w false e (beyond h') = values_beyond (put a (M - v) b) w h' ∙ sym (values_beyond a w h')

  -- what a gate's left is worth
  abbrev pub gate_value : Gate → Assignment → Bool
  gate_value g a = literal (values_at a) g.right0 && literal (values_at a) g.right1

  -- the gates' values, as an assignment
  unfoldable pub run_ring : List Gate → Assignment → Assignment
  run_ring [] a = a
  run_ring (g ∷ gs) a = run_ring gs (put a (M - g.left / 2) (gate_value g a))

  pub values_run : (gs : List Gate) (b : ℕ) → Ascending M b gs → (a : Assignment) → values_at (run_ring gs a) ≡ run gs (values_at a)
  unfolding run_ring run Ascending
  values_run [] b o a = refl
  values_run (g ∷ gs) b o a =
      values_run gs (g.left / 2) o.1.1.1.1 (put a (M - g.left / 2) (gate_value g a))
      ∙ ap (run gs) (values_put a (g.left / 2) (gate_value g a) (let z = o.0 in omega arith) o.1.0)
