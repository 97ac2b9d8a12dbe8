-- The rows that three slices hold.
use Prim.Native.Nat.{ℕ, zero, suc, ◌+◌, ◌-◌, ◌<◌, ◌≤◌}
use mathlib.Core.Path.{◌≡◌, refl, sym, ◌∙◌, ap}
use mathlib.Core.Bool.{Bool, true, false}
use mathlib.Core.List.{List}
use native.Mathlib.Omega.{arith}
use lib.Dec.{eqb}
use lib.ListN.{length, set}
use lib.Seq.{get_or-set_same, get_or-set_other}
use borrow.Author.Tests.{eqb-true, eqb-false, eq-eqb, ne_eqb}
use Rattle.steps.specs.Rows.{row_of, Rows, ◌▹◌, count, next, row, none}
use Rattle.steps.specs.Table.{Slices, slices, row_at, rows_of}
use Rattle.steps.proofs.Rows.{◌≼◌, stop, more}

module _ (s : Slices) where
  pub rows_of_count : (c : ℕ) → count (rows_of s c) ≡ c
  unfolding rows_of count
  rows_of_count zero = refl
  rows_of_count (suc c) = ap suc (rows_of_count c)

  pub rows_of_none : rows_of s 0 ≡ none
  unfolding rows_of
  rows_of_none = refl

  pub rows_of_next : (c : ℕ) → next (rows_of s c) ≡ c + 2
  unfolding rows_of next
  rows_of_next zero = refl
  rows_of_next (suc c) = let h = rows_of_next c in omega arith

  -- "Row k, from 0, has number k+2."
  pub rows_of_row : (N c k : ℕ) → k < c → row N (rows_of s c) (k + 2) ≡ row_at s k
  unfolding rows_of row
  rows_of_row N zero k h = absurd (omega arith)
  rows_of_row N (suc c) k h = go (eqb k c) refl (rows_of_row N c k)
    where
      go : (b : Bool) → eqb k c ≡ b → (k < c → row N (rows_of s c) (k + 2) ≡ row_at s k) → row N (rows_of s (suc c)) (k + 2) ≡ row_at s k
      go true e ih = let q = eqb-true k c e in rw (rows_of_next c, q, eq-eqb (c + 2) (c + 2) refl, row)
      go false e ih = let q = eqb-false k c e in rw (rows_of_next c, ne_eqb (k + 2) (c + 2) (λ z. q (omega arith)), row) (ih (omega arith))

-- slices that agree below c hold the same c rows
pub rows_of_agree : (c : ℕ) (s s' : Slices) → ((k : ℕ) → k < c → row_at s k ≡ row_at s' k) → rows_of s c ≡ rows_of s' c
unfolding rows_of
rows_of_agree zero s s' h = refl
rows_of_agree (suc c) s s' h = rw (rows_of_agree c s s' (λ k g. h k (omega arith)), h c (omega arith))

-- and the rows say what the slices hold
pub rows_of_tells : (c : ℕ) (s s' : Slices) → rows_of s c ≡ rows_of s' c → (k : ℕ) → k < c → row_at s k ≡ row_at s' k
rows_of_tells c s s' q k h = sym (rows_of_row s 0 c k h) ∙ ap (λ (R : Rows). row 0 R (k + 2)) q ∙ rows_of_row s' 0 c k h

-- a row written behind the c in use
pub rows_of_push : (vs ts es : List ℕ) (c v t e : ℕ) → c < length vs → c < length ts → c < length es
    → rows_of (slices (set vs c v) (set ts c t) (set es c e)) (suc c) ≡ rows_of (slices vs ts es) c ▹ row_of v t e
unfolding rows_of
rows_of_push vs ts es c v t e hv ht he =
    rw (
      get_or-set_same vs c v 0 hv,
      get_or-set_same ts c t 0 ht,
      get_or-set_same es c e 0 he,
      rows_of_agree c (slices (set vs c v) (set ts c t) (set es c e)) (slices vs ts es) (λ k h. rw (
        get_or-set_other vs c k v 0 (λ q. omega arith),
        get_or-set_other ts c k t 0 (λ q. omega arith),
        get_or-set_other es c k e 0 (λ q. omega arith),
      )),
    )

-- slices that hold the same n rows hold the same first c of them
pub rows_of_less : (c n : ℕ) (s s' : Slices) → c ≤ n → rows_of s n ≡ rows_of s' n → rows_of s c ≡ rows_of s' c
rows_of_less c n s s' h q = rows_of_agree c s s' (λ k l. rows_of_tells n s s' q k (omega arith))

-- the first rows are a beginning of all
pub rows_of_part : (s : Slices) (i c : ℕ) → i ≤ c → rows_of s i ≼ rows_of s c
unfolding rows_of
rows_of_part s i zero h = rw (z) stop
  where
    z : i ≡ zero
    z = omega arith
rows_of_part s i (suc c) h = go (eqb i (suc c)) refl (rows_of_part s i c)
  where
    go : (b : Bool) → eqb i (suc c) ≡ b → (i ≤ c → rows_of s i ≼ rows_of s c) → rows_of s i ≼ rows_of s (suc c)
    go true e ih = rw (eqb-true i (suc c) e) stop
    go false e ih = more (ih (let q = eqb-false i (suc c) e in omega arith))

-- the row of a number in use that is no constant
pub rows_of_number : (N : ℕ) (s : Slices) (c k : ℕ) → 2 ≤ k → k < c + 2 → row N (rows_of s c) k ≡ row_at s (k - 2)
rows_of_number N s c k h u = let q : (k - 2) + 2 ≡ k = omega arith in ap (row N (rows_of s c)) (sym q) ∙ rows_of_row s N c (k - 2) (omega arith)
