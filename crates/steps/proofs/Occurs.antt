-- A variable on which a number's value does not depend stands in none of its rows; one that stands in none counts for nothing.
use Prim.Native.Nat.{ℕ, ◌<◌}
use mathlib.Core.Path.{◌≡◌, refl, sym, ◌∙◌}
use mathlib.Core.Bool.{Bool, true, false, ◌||◌}
use native.Mathlib.Omega.{arith}
use lib.Dec.{eqb}
use borrow.Author.Tests.{eqb-true, eqb-false, eq-eqb, ne_eqb}
use Rattle.steps.specs.One.{put, one}
use Rattle.steps.specs.Rows.{Row, Rows, none, ◌▹◌, next, Assignment, value, row}
use Rattle.steps.specs.Sound.{Fits, Sound}
use Rattle.steps.specs.System.{occurs}
use Rattle.steps.proofs.Bools.{xor_false, both_false, or_true, either_true}
use Rattle.steps.proofs.Canonical.{canon, xor_cancel, value_lo, value_hi}
use Rattle.steps.proofs.Compare.{Zero, is, isnt, zero?}
use Rattle.steps.proofs.One.{one_older, one_then, one_else}
use Rattle.steps.proofs.Put.{put_comm, put_other}
use Rattle.steps.proofs.Rows.{next_2, Newest, newest, older, newest?, value_0, value_older, row_newest, Node, node, Cut}

abbrev pub Free : ℕ → Rows → ℕ → Type 0
Free v R k = (a : Assignment) (b : Bool) → value (put a v b) R k ≡ value a R k

pub occurs_older : (v : ℕ) (R : Rows) (r : Row) (k : ℕ) → k < next R → occurs v (R ▹ r) k ≡ occurs v R k
unfolding occurs
occurs_older a R r k h = rw (ne_eqb k (next R) (λ q. omega arith), occurs)

pub occurs_newest : (v : ℕ) (R : Rows) (r : Row) → occurs v (R ▹ r) (next R) ≡ eqb v r.var || occurs v R r.then_part || occurs v R r.else_part
unfolding occurs
occurs_newest a R r = rw (eq-eqb (next R) (next R) refl, occurs)

-- a value depends only on the variables that occur
pub value_occurs : (R : Rows) (k : ℕ) (a b : Assignment) → ((v : ℕ) → occurs v R k ≡ true → a v ≡ b v) → value a R k ≡ value b R k
unfolding value occurs
value_occurs none k a b h = refl
value_occurs (R ▹ r) k a b h = go (eqb k (next R)) refl (value_occurs R)
  where
    Depends : Type 0
    Depends = (k : ℕ) (a b : Assignment) → ((v : ℕ) → occurs v R k ≡ true → a v ≡ b v) → value a R k ≡ value b R k

    go : (t : Bool) → eqb k (next R) ≡ t → Depends → value a (R ▹ r) k ≡ value b (R ▹ r) k
    go true e ih = rw (
      e,
      value,
      h r.var (rw (e, occurs, eq-eqb r.var r.var refl)),
      ih r.then_part a b (λ v o. h v (rw (e, occurs, o) (either_true (eqb v r.var) (occurs v R r.else_part)))),
      ih r.else_part a b (λ v o. h v (rw (e, occurs, o) (or_true (eqb v r.var || occurs v R r.then_part)))),
    )
    go false e ih = rw (e, value) (ih k a b (λ v o. h v (rw (e, occurs) o)))

module _ (N : ℕ) where
  -- the parts at another variable are free of it too
  free_parts : (R : Rows) → Sound N R → (w k h l : ℕ) → Cut N R w k h l → (v : ℕ) → (v ≡ w → ⊥) → Free v R k → Free v R h × Free v R l
  free_parts R s w k h l c v n f = (hi, lo)
    where
      at : (a : Assignment) (b x : Bool) → value (put (put a v b) w x) R k ≡ value (put a w x) R k
      at a b x = rw (put_comm a v w b x n) (f (put a w x) b)

      lo : Free v R l
      lo a b = sym (value_lo N R s w k h l c (put a v b)) ∙ at a b false ∙ value_lo N R s w k h l c a

      hi : Free v R h
      hi a b = xor_cancel (value (put a v b) R h) (value a R h) (value a R l)
          ((rw (lo a b) at (sym (value_hi N R s w k h l c (put a v b)))) ∙ at a b true ∙ value_hi N R s w k h l c a)

  -- a row's own variable is not free
  not_free : (R : Rows) → Sound N R → (k : ℕ) → k < next R → Node N R k → Free (row N R k).var R k → ⊥
  not_free R s k u n f =
      let v = (row N R k).var in
      let h = (row N R k).then_part in
      let l = (row N R k).else_part in
      n.then_not_0 (canon N R s h 0 n.cut.then_used (let z = next_2 R in omega arith) (λ a.
      xor_cancel (value a R h) (value a R 0) (value a R l)
      (sym (value_hi N R s v k h l n.cut a) ∙ f a true ∙ sym (f a false) ∙ value_lo N R s v k h l n.cut a ∙ rw (value_0 a R) (sym (xor_false (value a R l))))))

  pub free_occurs : (R : Rows) → Sound N R → (k : ℕ) → k < next R → (v : ℕ) → Free v R k → occurs v R k ≡ false
  unfolding Sound next occurs
  free_occurs none s k u v f = refl
  free_occurs (R ▹ r) s k u v f = go (free_occurs R s.0) (newest? R r k u)
    where
      c : Fits N R r
      c = s.1

      S : Rows
      S = R ▹ r

      back : (x : ℕ) → x < next R → Free v S x → Free v R x
      back x ux g a b = sym (value_older (put a v b) R r x ux) ∙ g a b ∙ value_older a R r x ux

      n : Node N S (next R)
      n = node N S s (next R) (omega arith) (next_2 R)

      top : (t : Bool) → eqb v r.var ≡ t → ((k : ℕ) → k < next R → (v : ℕ) → Free v R k → occurs v R k ≡ false) → Free v S (next R) → occurs v S (next R) ≡ false
      top true e ih g = absurd (not_free S s (next R) (omega arith) n (rw (row_newest N R r) (rw (eqb-true v r.var e) at g)))
      top false e ih g =
          let q = free_parts S s r.var (next R) r.then_part r.else_part (rw (row_newest N R r) at n.cut) v (eqb-false v r.var e) g in
          rw (occurs_newest v R r, e, ih r.then_part c.then_used v (back r.then_part c.then_used q.0), ih r.else_part c.else_used v (back r.else_part c.else_used q.1))

      go : ((k : ℕ) → k < next R → (v : ℕ) → Free v R k → occurs v R k ≡ false) → Newest R k → occurs v (R ▹ r) k ≡ false
      go ih (older x) = occurs_older v R r k x ∙ ih k x v (back k x f)
      go ih (newest e) = rw e (top (eqb v r.var) refl ih (rw e at f))

-- "Variables not met are 0": what stands in no row of a number is 0 in the one that is found
pub one_absent : (N : ℕ) (R : Rows) → Sound N R → (k : ℕ) → k < next R → (v : ℕ) → occurs v R k ≡ false → one R k v ≡ false
unfolding Sound next one
one_absent N none s k u v h = refl
one_absent N (R ▹ r) s k u v h = go (one_absent N R s.0) (newest? R r k u) (zero? r.else_part)
  where
    c : Fits N R r
    c = s.1

    go : ((k : ℕ) → k < next R → (v : ℕ) → occurs v R k ≡ false → one R k v ≡ false) → Newest R k → Zero r.else_part → one (R ▹ r) k v ≡ false
    go ih (older w) z = rw (one_older R r k w) (ih k w v (rw (occurs_older v R r k w) at h))
    go ih (newest e) z = top z
      where
        q : (eqb v r.var || occurs v R r.then_part ≡ false) × (occurs v R r.else_part ≡ false)
        q = both_false (eqb v r.var || occurs v R r.then_part) (occurs v R r.else_part) (rw (e, occurs_newest v R r) at h)

        p : (eqb v r.var ≡ false) × (occurs v R r.then_part ≡ false)
        p = both_false (eqb v r.var) (occurs v R r.then_part) q.0

        top : Zero r.else_part → one (R ▹ r) k v ≡ false
        top (is z) = rw (e, one_then R r z, put_other (one R r.then_part) r.var true v (eqb-false v r.var p.0)) (ih r.then_part c.then_used v p.1)
        top (isnt z) = rw (e, one_else R r z) (ih r.else_part c.else_used v q.1)

-- only ring variables occur
pub occurs_below : (N : ℕ) (R : Rows) → Sound N R → (k v : ℕ) → occurs v R k ≡ true → v < N
unfolding Sound occurs
occurs_below N none s k v h = absurd (let z : ◌≡◌ {A = ℕ} 0 1 = cc in omega arith)
occurs_below N (R ▹ r) s k v h = go (eqb k (next R)) refl (occurs_below N R s.0)
  where
    top : (t : Bool) → eqb v r.var ≡ t → (u : Bool) → occurs v R r.then_part ≡ u → ((k v : ℕ) → occurs v R k ≡ true → v < N) → eqb v r.var || occurs v R r.then_part || occurs v R r.else_part ≡ true → v < N
    top true e u f ih g = let q = eqb-true v r.var e in rw q s.1.var_below
    top false e true f ih g = ih r.then_part v f
    top false e false f ih g = ih r.else_part v (rw (e, f) at g)

    go : (b : Bool) → eqb k (next R) ≡ b → ((k v : ℕ) → occurs v R k ≡ true → v < N) → v < N
    go true e ih = top (eqb v r.var) refl (occurs v R r.then_part) refl ih (rw (e, occurs) at h)
    go false e ih = ih k v (rw (e, occurs) at h)
