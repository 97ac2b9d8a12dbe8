-- Finding a one: it is a one, and the least.
use Prim.Native.Nat.{ℕ, ◌<◌, ◌≤◌}
use mathlib.Core.Path.{◌≡◌, refl, sym, ap, ◌∙◌}
use mathlib.Core.Bool.{true, false, ◌&&◌}
use native.Mathlib.Omega.{arith}
use borrow.Author.Tests.{eq-eqb, ne_eqb}
use Rattle.steps.specs.One.{put, one, NotGreater}
use Rattle.steps.specs.Rows.{Row, Rows, none, ◌▹◌, next, Assignment, value, row}
use Rattle.steps.specs.Sound.{Fits, Sound}
use Rattle.steps.proofs.Bools.{both_true, xor_false, xor_false_right}
use Rattle.steps.proofs.Compare.{Zero, is, isnt, zero?, Order, less, equal, greater, order}
use Rattle.steps.proofs.Put.{put_same, put_other, value_put}
use Rattle.steps.proofs.Rows.{next_2, Newest, newest, older, newest?, value_0, value_older, value_newest, row_older, row_newest, node}

pub one_older : (R : Rows) (r : Row) (k : ℕ) → k < next R → one (R ▹ r) k ≡ one R k
unfolding one
one_older R r k h = λ j i. one_at i j
  where
    one_at : (i : ℕ) → one (R ▹ r) k i ≡ one R k i
    one_at i = rw (ne_eqb k (next R) (λ q. omega arith), one)

pub one_then : (R : Rows) (r : Row) → r.else_part ≡ 0 → one (R ▹ r) (next R) ≡ put (one R r.then_part) r.var true
unfolding one
one_then R r h = λ j i. one_at i j
  where
    one_at : (i : ℕ) → one (R ▹ r) (next R) i ≡ put (one R r.then_part) r.var true i
    one_at i = rw (eq-eqb (next R) (next R) refl, eq-eqb r.else_part 0 h, one)

pub one_else : (R : Rows) (r : Row) → (r.else_part ≡ 0 → ⊥) → one (R ▹ r) (next R) ≡ one R r.else_part
unfolding one
one_else R r h = λ j i. one_at i j
  where
    one_at : (i : ℕ) → one (R ▹ r) (next R) i ≡ one R r.else_part i
    one_at i = rw (eq-eqb (next R) (next R) refl, ne_eqb r.else_part 0 h, one)

module _ (N : ℕ) where
  -- variables before the root are 0
  one_before : (R : Rows) → Sound N R → (k : ℕ) → k < next R → (i : ℕ) → i < (row N R k).var → one R k i ≡ false
  unfolding Sound next one
  one_before none s k u i h = refl
  one_before (R ▹ r) s k u i h = go (one_before R s.0) (newest? R r k u) (zero? r.else_part)
    where
      c : Fits N R r
      c = s.1

      go : ((k : ℕ) → k < next R → (i : ℕ) → i < (row N R k).var → one R k i ≡ false) → Newest R k → Zero r.else_part → one (R ▹ r) k i ≡ false
      go ih (older w) z = rw (one_older R r k w) (ih k w i (rw (row_older N R r k w) at h))
      go ih (newest e) (is z) =
          let g : i < r.var = rw (e, row_newest N R r) at h in
          rw (e, one_then R r z, put_other (one R r.then_part) r.var true i (λ q. omega arith)) (ih r.then_part c.then_used i (omega (arith, c.then_above)))
      go ih (newest e) (isnt z) =
          let g : i < r.var = rw (e, row_newest N R r) at h in
          rw (e, one_else R r z) (ih r.else_part c.else_used i (omega (arith, c.else_above)))

  pub found_one : (R : Rows) → Sound N R → (k : ℕ) → k < next R → (k ≡ 0 → ⊥) → value (one R k) R k ≡ true
  unfolding Sound next
  found_one none s k u h = unfold value in eq-eqb k 1 (omega arith)
  found_one (R ▹ r) s k u h = go (found_one R s.0) (newest? R r k u) (zero? r.else_part)
    where
      c : Fits N R r
      c = s.1

      v : ℕ
      v = r.var

      go : ((k : ℕ) → k < next R → (k ≡ 0 → ⊥) → value (one R k) R k ≡ true) → Newest R k → Zero r.else_part → value (one (R ▹ r) k) (R ▹ r) k ≡ true
      go ih (older w) z = rw (one_older R r k w, value_older (one R k) R r k w) (ih k w h)
      go ih (newest e) (is z) =
          let a = one R r.then_part in
          rw (
            e,
            one_then R r z,
            value_newest (put a v true) R r,
            put_same a v true,
            z,
            value_0 (put a v true) R,
            value_put N R s.0 r.then_part c.then_used a v true c.then_above,
            ih r.then_part c.then_used c.then_not_0,
          ) (xor_false_right true)
      go ih (newest e) (isnt z) =
          let a = one R r.else_part in
          rw (e, one_else R r z, value_newest a R r, one_before R s.0 r.else_part c.else_used v c.else_above, ih r.else_part c.else_used z) (xor_false true)

  -- no one is less
  abbrev pub Least : Rows → ℕ → Type 0
  Least R k = (a : Assignment) → value a R k ≡ true → NotGreater (one R k) a

  least_then : (R : Rows) (r : Row) → Sound N R → Fits N R r → r.else_part ≡ 0 → Least R r.then_part → Least (R ▹ r) (next R)
  least_then R r s c z ih a va i agree o = at (order i v)
    where
      v : ℕ
      v = r.var

      b : Assignment
      b = one R r.then_part

      parts : (a v ≡ true) × (value a R r.then_part ≡ true)
      parts = both_true (a v) (value a R r.then_part) (sym (xor_false_right (a v && value a R r.then_part)) ∙ rw (value_newest a R r, z, value_0 a R) at va)

      low : (j : ℕ) → j < i → Order j v → put a v false j ≡ b j
      low j h (equal e) = rw (e, put_same a v false) (sym (one_before R s r.then_part c.then_used v c.then_above))
      low j h (less g) = put_other a v false j (λ q. omega arith) ∙ agree j h ∙ rw (one_then R r z) (put_other b v true j (λ q. omega arith))
      low j h (greater g) = put_other a v false j (λ q. omega arith) ∙ agree j h ∙ rw (one_then R r z) (put_other b v true j (λ q. omega arith))

      elsewhere : (i ≡ v → ⊥) → a i ≡ true
      elsewhere n = sym (put_other a v false i n) ∙ ih (put a v false) (value_put N R s r.then_part c.then_used a v false c.then_above ∙ parts.1) i
          (λ j h. low j h (order j v)) (sym (put_other b v true i n) ∙ rw (one_then R r z) at o)

      at : Order i v → a i ≡ true
      at (equal e) = rw e parts.0
      at (less h) = elsewhere (λ q. omega arith)
      at (greater h) = elsewhere (λ q. omega arith)

  least_else : (R : Rows) (r : Row) → Sound N R → Fits N R r → (r.else_part ≡ 0 → ⊥) → Least R r.else_part → Least (R ▹ r) (next R)
  least_else R r s c z ih a va i agree o = at (order i v)
    where
      v : ℕ
      v = r.var

      agree' : (j : ℕ) → j < i → a j ≡ one R r.else_part j
      agree' j h = agree j h ∙ rw (one_else R r z)

      o' : one R r.else_part i ≡ true
      o' = rw (one_else R r z) at o

      no : i ≤ v → a i ≡ true
      no h = let q = one_before R s r.else_part c.else_used i (omega (arith, c.else_above)) in cc o'

      at : Order i v → a i ≡ true
      at (less h) = no (omega arith)
      at (equal h) = no (omega arith)
      at (greater h) =
          let q : a v ≡ false = agree' v h ∙ one_before R s r.else_part c.else_used v c.else_above in
          ih a (sym (xor_false (value a R r.else_part)) ∙ rw (value_newest a R r, q) at va) i agree' o'

  pub least_one : (R : Rows) → Sound N R → (k : ℕ) → k < next R → Least R k
  unfolding Sound next
  least_one none s k u = λ a va i agree o. unfold one in cc
  least_one (R ▹ r) s k u = go (least_one R s.0) (newest? R r k u) (zero? r.else_part)
    where
      c : Fits N R r
      c = s.1

      go : ((k : ℕ) → k < next R → Least R k) → Newest R k → Zero r.else_part → Least (R ▹ r) k
      go ih (newest e) (is z) = rw e (least_then R r s.0 c z (ih r.then_part c.then_used))
      go ih (newest e) (isnt z) = rw e (least_else R r s.0 c z (ih r.else_part c.else_used))
      go ih (older w) z = λ a va i agree o. ih k w a (rw (value_older a R r k w) at va) i (λ j h. agree j h ∙ rw (one_older R r k w)) (rw (one_older R r k w) at o)

module _ (N : ℕ) where
  -- a row's one goes by its else-part
  pub one_row : (R : Rows) → Sound N R → (k : ℕ) → k < next R → 2 ≤ k
      → ((row N R k).else_part ≡ 0 → one R k ≡ put (one R (row N R k).then_part) (row N R k).var true) × (((row N R k).else_part ≡ 0 → ⊥) → one R k ≡ one R (row N R k).else_part)
  unfolding Sound next
  one_row none s k u g = absurd (omega arith)
  one_row (R ▹ r) s k u g = go (newest? R r k u) (λ w. one_row R s.0 k w g)
    where
      Claim : Rows → ℕ → Type 0
      Claim S k = ((row N S k).else_part ≡ 0 → one S k ≡ put (one S (row N S k).then_part) (row N S k).var true) × (((row N S k).else_part ≡ 0 → ⊥) → one S k ≡ one S (row N S k).else_part)

      go : Newest R k → (k < next R → Claim R k) → Claim (R ▹ r) k
      go (older w) ih =
          let c = (node N R s.0 k w g).cut in
          rw (row_older N R r k w, one_older R r k w, one_older R r (row N R k).then_part c.then_used, one_older R r (row N R k).else_part c.else_used) (ih w)
      go (newest e) ih =
          let c = s.1 in
          rw (e, row_newest N R r, one_older R r r.then_part c.then_used, one_older R r r.else_part c.else_used) (one_then R r, one_else R r)

  -- the one of a constant is all zeros
  pub one_const : (R : Rows) (k : ℕ) → k < 2 → (i : ℕ) → one R k i ≡ false
  unfolding one
  one_const none k h i = refl
  one_const (R ▹ r) k h i = let g = next_2 R in ap (λ (a : Assignment). a i) (one_older R r k (omega arith)) ∙ one_const R k h i
