-- Assignments in which one variable is set, and values there.
use Prim.Native.Nat.{ℕ, ◌<◌, ◌≤◌}
use mathlib.Core.Path.{◌≡◌, refl, sym, ◌∙◌, fun_ext}
use mathlib.Core.Bool.{Bool, true, false}
use native.Mathlib.Omega.{arith}
use lib.Dec.{eqb}
use borrow.Author.Tests.{eqb-true, eqb-false, eq-eqb, ne_eqb}
use Rattle.steps.specs.One.{put}
use Rattle.steps.specs.Rows.{Rows, none, ◌▹◌, next, Assignment, value, row}
use Rattle.steps.specs.Sound.{Sound}
use Rattle.steps.proofs.Rows.{Newest, newest, older, newest?, value_older, value_newest, row_older, row_newest}

pub put_same : (a : Assignment) (v : ℕ) (b : Bool) → put a v b v ≡ b
unfolding put
put_same a v b = rw (eq-eqb v v refl, put)

pub put_other : (a : Assignment) (v : ℕ) (b : Bool) (i : ℕ) → (i ≡ v → ⊥) → put a v b i ≡ a i
unfolding put
put_other a v b i h = rw (ne_eqb i v h, put)

pub put_put : (a : Assignment) (v : ℕ) (b c : Bool) → put (put a v b) v c ≡ put a v c
put_put a v b c = fun_ext (λ i. go i (eqb i v) refl)
  where
    go : (i : ℕ) (t : Bool) → eqb i v ≡ t → put (put a v b) v c i ≡ put a v c i
    go i true e = let q = eqb-true i v e in rw (q, put_same (put a v b) v c, put_same a v c)
    go i false e = let q = eqb-false i v e in put_other (put a v b) v c i q ∙ put_other a v b i q ∙ sym (put_other a v c i q)

pub put_self : (a : Assignment) (v : ℕ) → put a v (a v) ≡ a
put_self a v = fun_ext (λ i. go i (eqb i v) refl)
  where
    go : (i : ℕ) (t : Bool) → eqb i v ≡ t → put a v (a v) i ≡ a i
    go i true e = rw (eqb-true i v e) (put_same a v (a v))
    go i false e = put_other a v (a v) i (eqb-false i v e)

pub put_comm : (a : Assignment) (v w : ℕ) (b c : Bool) → (v ≡ w → ⊥) → put (put a v b) w c ≡ put (put a w c) v b
put_comm a v w b c n = fun_ext (λ i. go i (eqb i v) refl (eqb i w) refl)
  where
    go : (i : ℕ) (s : Bool) → eqb i v ≡ s → (t : Bool) → eqb i w ≡ t → put (put a v b) w c i ≡ put (put a w c) v b i
    go i true x true y = absurd (n (sym (eqb-true i v x) ∙ eqb-true i w y))
    go i true x false y = let q = eqb-false i w y in put_other (put a v b) w c i q ∙ rw (eqb-true i v x, put_same a v b, put_same (put a w c) v b)
    go i false x true y = let q = eqb-false i v x in sym (put_other (put a w c) v b i q ∙ rw (eqb-true i w y, put_same a w c, put_same (put a v b) w c))
    go i false x false y =
        let q = eqb-false i v x in
        let p = eqb-false i w y in
        put_other (put a v b) w c i p ∙ put_other a v b i q ∙ sym (put_other (put a w c) v b i q ∙ put_other a w c i p)

module _ (N : ℕ) where
  -- a value depends on no variable before the root
  pub value_agree : (R : Rows) → Sound N R → (k : ℕ) → k < next R → (a b : Assignment) → ((i : ℕ) → (row N R k).var ≤ i → a i ≡ b i) → value a R k ≡ value b R k
  unfolding Sound next value
  value_agree none s k u a b h = refl
  value_agree (R ▹ r) s k u a b h = go (newest? R r k u) (value_agree R s.0)
    where
      go : Newest R k → ((k : ℕ) → k < next R → (a b : Assignment) → ((i : ℕ) → (row N R k).var ≤ i → a i ≡ b i) → value a R k ≡ value b R k) → value a (R ▹ r) k ≡ value b (R ▹ r) k
      go (older w) ih = rw (value_older a R r k w, value_older b R r k w) (ih k w a b (λ i g. h i (rw (row_older N R r k w) g)))
      go (newest e) ih =
          let c = s.1 in
          let h' : (i : ℕ) → r.var ≤ i → a i ≡ b i = λ i g. h i (rw (e, row_newest N R r) g) in
          rw (
            e,
            value_newest a R r,
            value_newest b R r,
            h' r.var (omega arith),
            ih r.then_part c.then_used a b (λ i g. h' i (let z = c.then_above in omega arith)),
            ih r.else_part c.else_used a b (λ i g. h' i (let z = c.else_above in omega arith)),
          )

  pub value_put : (R : Rows) → Sound N R → (k : ℕ) → k < next R → (a : Assignment) (v : ℕ) (b : Bool) → v < (row N R k).var → value (put a v b) R k ≡ value a R k
  value_put R s k u a v b h = value_agree R s k u (put a v b) a (λ i g. put_other a v b i (λ q. omega arith))
