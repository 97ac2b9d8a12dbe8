-- The sizes of the index, its buckets, and the newest row of a bucket.
use Prim.Native.Nat.{ℕ, suc, ◌<◌, ◌≤◌}
use mathlib.Core.Path.{◌≡◌, refl, ap, ◌∙◌}
use mathlib.Core.Bool.{Bool, true, false}
use native.Mathlib.Omega.{arith}
use native.Mathlib.Nat.{mod-lt}
use lib.Dec.{eqb, ltb}
use borrow.Author.Tests.{eq-eqb, ne_eqb, eqb-true, eqb-false, ltb-false}
use Rattle.steps.specs.Rows.{Row, Rows, none, ◌▹◌, next, alike, find}
use Rattle.steps.proofs.Rows.{◌≼◌, stop, more}
use Rattle.steps.proofs.Found.{alike_true, find_other}
use Rattle.table.specs.Index.{index_size, index_words, hash, bucket, newest_in}

-- an index has one of three sizes, and room for a word for each row
pub data Sized (R : ℕ) : ℕ → Type 0 where
  large : R ≤ 8192 → Sized R 8192
  middle : R ≤ 1024 → Sized R 1024
  least : R ≤ 64 → Sized R 64

pub sized : (R : ℕ) → R ≤ 8192 → Sized R (index_size R)
unfolding index_size
sized R h = go (ltb 1024 R) refl (ltb 64 R) refl
  where
    go : (a : Bool) → ltb 1024 R ≡ a → (b : Bool) → ltb 64 R ≡ b → Sized R (index_size R)
    go true x b y = rw (x, index_size) (large h)
    go false x true y = rw (x, y, index_size) (middle (ltb-false 1024 R x))
    go false x false y = rw (x, y, index_size) (least (ltb-false 64 R y))

pub sized_room : {R H : ℕ} → Sized R H → R ≤ H
sized_room (large h) = h
sized_room (middle h) = h
sized_room (least h) = h

pub sized_bucket : {R H : ℕ} → Sized R H → (r : Row) → bucket H r < H
unfolding bucket
sized_bucket (large h) r = mod-lt (hash r) (omega arith)
sized_bucket (middle h) r = mod-lt (hash r) (omega arith)
sized_bucket (least h) r = mod-lt (hash r) (omega arith)

-- the words of the index: none, or all
pub data Spans (R L : ℕ) : ℕ → Type 0 where
  no_index : Spans R L 0
  index : (H : ℕ) → Sized R H → H ≤ L → Spans R L H

pub spans : (R L : ℕ) → R ≤ 8192 → Spans R L (index_words R L)
unfolding index_words
spans R L h = go (ltb L (index_size R)) refl
  where
    go : (b : Bool) → ltb L (index_size R) ≡ b → Spans R L (index_words R L)
    go true e = rw (e, index_words) no_index
    go false e = rw (e, index_words) (index (index_size R) (sized R h) (ltb-false L (index_size R) e))

pub spans_fits : {R L H : ℕ} → Spans R L H → H ≤ L
spans_fits no_index = omega arith
spans_fits (index H z f) = f

pub spans_room : {R L H : ℕ} → Spans R L H → 0 < H → R ≤ H
spans_room no_index p = absurd (omega arith)
spans_room (index H z f) p = sized_room z

pub spans_bucket : {R L H : ℕ} → Spans R L H → 0 < H → (r : Row) → bucket H r < H
spans_bucket no_index p r = absurd (omega arith)
spans_bucket (index H z f) p r = sized_bucket z r

module _ (H : ℕ) where
  pub newest_here : (R : Rows) (r : Row) (b : ℕ) → bucket H r ≡ b → newest_in H b (R ▹ r) ≡ next R
  unfolding newest_in
  newest_here R r b e = rw (eq-eqb (bucket H r) b e, newest_in)

  pub newest_other : (R : Rows) (r : Row) (b : ℕ) → (bucket H r ≡ b → ⊥) → newest_in H b (R ▹ r) ≡ newest_in H b R
  unfolding newest_in
  newest_other R r b e = rw (ne_eqb (bucket H r) b e, newest_in)

  pub newest_none : (b : ℕ) → newest_in H b none ≡ 0
  unfolding newest_in
  newest_none b = refl

  -- it is a number in use
  pub newest_below : (b : ℕ) (R : Rows) → newest_in H b R < next R
  unfolding newest_in next
  newest_below b none = omega arith
  newest_below b (R ▹ r) = go (eqb (bucket H r) b) refl (newest_below b R)
    where
      go : (t : Bool) → eqb (bucket H r) b ≡ t → newest_in H b R < next R → newest_in H b (R ▹ r) < suc (next R)
      go true e ih = rw (e, newest_in) (omega arith)
      go false e ih = rw (e, newest_in) (omega arith)

  -- finding a row of the bucket b goes by the newest row of that bucket
  pub data Newest (b : ℕ) (R : Rows) : ℕ → Type 0 where
    nowhere : ((x : Row) → bucket H x ≡ b → find R x ≡ 0) → Newest b R 0
    at : (S : Rows) (r : Row) → (S ▹ r) ≼ R → bucket H r ≡ b → ((x : Row) → bucket H x ≡ b → find R x ≡ find (S ▹ r) x) → Newest b R (next S)

  unlike : (r x : Row) → (bucket H r ≡ bucket H x → ⊥) → alike r x ≡ false
  unlike r x n = go (alike r x) refl
    where
      go : (t : Bool) → alike r x ≡ t → t ≡ false
      go true e = absurd (n (ap (bucket H) (alike_true r x e)))
      go false e = refl

  pub newest : (b : ℕ) (R : Rows) → Newest b R (newest_in H b R)
  unfolding newest_in find
  newest b none = nowhere (λ x e. refl)
  newest b (R ▹ r) = go (eqb (bucket H r) b) refl (newest_in H b R) (newest b R) refl
    where
      past : (bucket H r ≡ b → ⊥) → (x : Row) → bucket H x ≡ b → find (R ▹ r) x ≡ find R x
      past n x e = find_other R r x (unlike r x (λ q. n (q ∙ e)))

      go : (t : Bool) → eqb (bucket H r) b ≡ t → (m : ℕ) → Newest b R m → newest_in H b R ≡ m → Newest b (R ▹ r) (newest_in H b (R ▹ r))
      go true e m ih q = rw (e, newest_in) (at R r stop (eqb-true (bucket H r) b e) (λ x p. refl))
      go false e m (nowhere f) q = rw (e, newest_in, q) (nowhere (λ x p. past (eqb-false (bucket H r) b e) x p ∙ f x p))
      go false e m (at S y le h f) q = rw (e, newest_in, q) (at S y (more le) h (λ x p. past (eqb-false (bucket H r) b e) x p ∙ f x p))

-- an index has room for every row
pub index_room : (R L : ℕ) → R ≤ 8192 → 0 < index_words R L → R ≤ index_words R L
index_room R L h p = spans_room (spans R L h) p
