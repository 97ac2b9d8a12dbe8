-- In a sound table two numbers with the same values are the same number.
use Prim.Native.Nat.{ℕ, zero, suc, ◌<◌, ◌≤◌}
use mathlib.Core.Path.{◌≡◌, refl, sym, ◌∙◌}
use mathlib.Core.Bool.{Bool, true, false, xor}
use native.Mathlib.Omega.{arith}
use lib.Dec.{eqb}
use Rattle.steps.specs.One.{put}
use Rattle.steps.specs.Rows.{Row, Rows, none, ◌▹◌, next, Assignment, value, find, row, row_of}
use Rattle.steps.specs.Sound.{Fits, Sound}
use Rattle.steps.proofs.Bools.{xor_false}
use Rattle.steps.proofs.Compare.{Order, less, equal, greater, order}
use Rattle.steps.proofs.Found.{find_newest, find_keeps}
use Rattle.steps.proofs.Put.{put_same, value_put}
use Rattle.steps.proofs.Roots.{node_below, cut_absent}
use Rattle.steps.proofs.Rows.{stop, more, next_2, Newest, newest, older, newest?, value_older, row_older, row_newest, Node, node, Cut}

pub xor_cancel : (x x' y : Bool) → xor x y ≡ xor x' y → x ≡ x'
unfolding xor
xor_cancel true true y e = refl
xor_cancel false false y e = refl
xor_cancel true false true e = cc
xor_cancel true false false e = cc
xor_cancel false true true e = cc
xor_cancel false true false e = cc

module _ (N : ℕ) where
  -- the else-part is the value at 0, and the then-part what the value at 1 adds
  pub value_lo : (R : Rows) → Sound N R → (v k h l : ℕ) → Cut N R v k h l → (a : Assignment) → value (put a v false) R k ≡ value a R l
  value_lo R s v k h l c a = rw (c.splits (put a v false), put_same a v false, value_put N R s l c.else_used a v false c.else_above) (xor_false (value a R l))

  pub value_hi : (R : Rows) → Sound N R → (v k h l : ℕ) → Cut N R v k h l → (a : Assignment) → value (put a v true) R k ≡ xor (value a R h) (value a R l)
  value_hi R s v k h l c a = rw (c.splits (put a v true), put_same a v true, value_put N R s l c.else_used a v true c.else_above, value_put N R s h c.then_used a v true c.then_above)

  abbrev pub Same : Rows → ℕ → ℕ → Type 0
  Same R f g = (a : Assignment) → value a R f ≡ value a R g

  same_parts : (R : Rows) → Sound N R → (v f h l g h' l' : ℕ) → Cut N R v f h l → Cut N R v g h' l' → Same R f g → Same R h h' × Same R l l'
  same_parts R s v f h l g h' l' c c' e = (hi, lo)
    where
      lo : Same R l l'
      lo a = sym (value_lo R s v f h l c a) ∙ e (put a v false) ∙ value_lo R s v g h' l' c' a

      hi : Same R h h'
      hi a = xor_cancel (value a R h) (value a R h') (value a R l)
          (sym (value_hi R s v f h l c a) ∙ e (put a v true) ∙ rw (lo a) (value_hi R s v g h' l' c' a))

  -- each row in use is found
  pub row_found : (R : Rows) → (k : ℕ) → k < next R → 2 ≤ k → find R (row N R k) ≡ 0 → ⊥
  unfolding next
  row_found none k u g e = omega arith
  row_found (R ▹ r) k u g e = go (newest? R r k u) (λ w. row_found R k w g)
    where
      back : (j : ℕ) → find R (row N R k) ≡ j → (find R (row N R k) ≡ 0 → ⊥) → find (R ▹ r) (row N R k) ≡ 0 → ⊥
      back zero f h q = h f
      back (suc j) f h q = let z : 0 ≡ suc j = sym q ∙ find_keeps (more stop) (row N R k) f in omega arith

      fresh : (j : ℕ) → find R r ≡ j → find (R ▹ r) r ≡ 0 → ⊥
      fresh zero f q = let z : 0 ≡ next R = sym q ∙ find_newest R r f in let y = next_2 R in omega arith
      fresh (suc j) f q = let z : 0 ≡ suc j = sym q ∙ find_keeps (more stop) r f in omega arith

      go : Newest R k → (k < next R → find R (row N R k) ≡ 0 → ⊥) → ⊥
      go (newest x) ih = fresh (find R r) refl (rw (x, row_newest N R r) at e)
      go (older w) ih = back (find R (row N R k)) refl (ih w) (rw (row_older N R r k w) at e)

  abbrev Canon : Rows → Type 0
  Canon R = (f g : ℕ) → f < next R → g < next R → Same R f g → f ≡ g

  -- the newest row is none of the older numbers
  apart : (R : Rows) (r : Row) → Sound N R → Fits N R r → Canon R → (g : ℕ) → g < next R → Same (R ▹ r) (next R) g → ⊥
  unfolding next Sound
  apart R r s c ih g u e = go (order (row N S f).var (row N S g).var)
    where
      S : Rows
      S = R ▹ r

      f : ℕ
      f = next R

      w : Sound N S
      w = (s, c)

      nf : Node N S f
      nf = node N S w f (omega arith) (next_2 R)

      rf : row N S f ≡ r
      rf = row_newest N R r

      rg : row N S g ≡ row N R g
      rg = row_older N R r g u

      ih' : (x y : ℕ) → x < next R → y < next R → Same S x y → x ≡ y
      ih' x y ux uy q = ih x y ux uy (λ a. sym (value_older a R r x ux) ∙ q a ∙ value_older a R r y uy)

      used_0 : 0 < next R
      used_0 = let z = next_2 R in omega arith

      ng : (row N S g).var < N → Node N R g
      ng h = node_below N s g u (rw rg at h)

      go : Order (row N S f).var (row N S g).var → ⊥
      go (less h) = c.then_not_0 (ih' r.then_part 0 c.then_used used_0
          (rw rf at (same_parts S w (row N S f).var f (row N S f).then_part (row N S f).else_part g 0 g nf.cut (cut_absent N nf.var_below (omega arith) h) e).0))
      go (greater h) =
          let b : (row N S g).var < N = let z = nf.var_below in omega arith in
          let n = node_below N w g (omega arith) b in
          (ng b).then_not_0 (ih' (row N R g).then_part 0 (ng b).cut.then_used used_0 (λ a. sym
          (rw rg at ((same_parts S w (row N S g).var f 0 f g (row N S g).then_part (row N S g).else_part (cut_absent N b (omega arith) h) n.cut e).0 a))))
      go (equal h) =
          let b : (row N S g).var < N = let z = nf.var_below in omega arith in
          let n = node_below N w g (omega arith) b in
          let q = same_parts S w (row N S f).var f (row N S f).then_part (row N S f).else_part g (row N S g).then_part (row N S g).else_part nf.cut (rw h n.cut) e in
          let x : r.then_part ≡ (row N R g).then_part = ih' r.then_part (row N R g).then_part c.then_used (ng b).cut.then_used (rw (rf, rg) at q.0) in
          let y : r.else_part ≡ (row N R g).else_part = ih' r.else_part (row N R g).else_part c.else_used (ng b).cut.else_used (rw (rf, rg) at q.1) in
          let z : r.var ≡ (row N R g).var = rw (rf, rg) at h in
          let same : r ≡ row N R g = λ i. row_of (z i) (x i) (y i) in
          row_found R g u (ng b).inner (rw same at c.new)

  canon_2 : (k : ℕ) → k < 2 → (l : ℕ) → l < 2 → eqb k 1 ≡ eqb l 1 → k ≡ l
  canon_2 zero h zero g e = refl
  canon_2 zero h (suc zero) g e = cc
  canon_2 (suc zero) h zero g e = cc
  canon_2 (suc zero) h (suc zero) g e = refl
  canon_2 (suc (suc k)) h l g e = absurd (omega arith)
  canon_2 zero h (suc (suc l)) g e = absurd (omega arith)
  canon_2 (suc zero) h (suc (suc l)) g e = absurd (omega arith)

  pub canon : (R : Rows) → Sound N R → Canon R
  unfolding next Sound value
  canon none s f g uf ug e = canon_2 f uf g ug (e (λ i. false))
  canon (R ▹ r) s f g uf ug e = go (canon R s.0) (newest? R r f uf) (newest? R r g ug)
    where
      go : Canon R → Newest R f → Newest R g → f ≡ g
      go ih (newest x) (newest y) = x ∙ sym y
      go ih (older x) (older y) = ih f g x y (λ a. sym (value_older a R r f x) ∙ e a ∙ value_older a R r g y)
      go ih (newest x) (older y) = absurd (apart R r s.0 s.1 ih g y (rw x at e))
      go ih (older x) (newest y) = absurd (apart R r s.0 s.1 ih f x (λ a. sym (rw y at (e a))))
