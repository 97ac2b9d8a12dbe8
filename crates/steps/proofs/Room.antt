-- Steps in a table that may be full.
use Prim.Native.Nat.{ℕ, ◌<◌, ◌≤◌}
use mathlib.Core.Path.{◌≡◌, refl, sym, ◌∙◌}
use mathlib.Core.Bool.{Bool, true, false}
use native.Mathlib.Omega.{arith}
use lib.Dec.{leb}
use borrow.Author.Tests.{leb-true, leb-false, le-leb, lt-leb}
use Rattle.steps.specs.Room.{Ending, made, full, within}
use Rattle.steps.specs.Rows.{Rows, count}
use Rattle.steps.specs.Steps.{Answer, Steps, answer, ◌>>=◌}
use Rattle.steps.proofs.Rows.{◌≼◌, count_grows}

pub within_made : (room : ℕ) (a : Answer) → count a.rows ≤ room → within room a ≡ made a.num a.rows
unfolding within
within_made room a h = rw (le-leb (count a.rows) room h, within)

pub within_full : (room : ℕ) (a : Answer) → room < count a.rows → within room a ≡ full
unfolding within
within_full room a h = rw (lt-leb (count a.rows) room h, within)

pub data Fit (room : ℕ) (a : Answer) : Type 0 where
  fits : count a.rows ≤ room → within room a ≡ made a.num a.rows → Fit room a
  over : room < count a.rows → within room a ≡ full → Fit room a

pub fit : (room : ℕ) (a : Answer) → Fit room a
fit room a = go (leb (count a.rows) room) refl
  where
    go : (b : Bool) → leb (count a.rows) room ≡ b → Fit room a
    go true e = let h = leb-true (count a.rows) room e in fits h (within_made room a h)
    go false e = let h = leb-false (count a.rows) room e in over h (within_full room a h)

-- more room changes nothing that was made
pub within_more : (room room' : ℕ) (a : Answer) (x : ℕ) (S : Rows) → room ≤ room' → within room a ≡ made x S → within room' a ≡ made x S
within_more room room' a x S h e = go (fit room a)
  where
    go : Fit room a → within room' a ≡ made x S
    go (fits g q) = within_made room' a (omega arith) ∙ sym q ∙ e
    go (over g q) = cc

-- the outcome of m, then f: a full table stays full
abbrev pub then_within : ℕ → Ending → (ℕ → Steps) → Ending
then_within room (made x S) f = within room (f x S)
then_within room full f = full

pub within_bind : (room : ℕ) (m : Steps) (f : ℕ → Steps) (R : Rows) → (m R).rows ≼ ((m >>= f) R).rows → within room ((m >>= f) R) ≡ then_within room (within room (m R)) f
within_bind room m f R k = go (fit room (m R))
  where
    go : Fit room (m R) → within room ((m >>= f) R) ≡ then_within room (within room (m R)) f
    go (fits h e) = rw e
    go (over h e) = rw e (within_full room ((m >>= f) R) (let g = count_grows k in omega arith))

-- what was made is what the steps answer
pub within_tells : (room : ℕ) (a : Answer) (x : ℕ) (S : Rows) → within room a ≡ made x S → a ≡ answer x S
within_tells room a x S e = go (fit room a)
  where
    go : Fit room a → a ≡ answer x S
    go (fits h q) = let z : made a.num a.rows ≡ made x S = sym q ∙ e in let n : a.num ≡ x = cc in let m : a.rows ≡ S = cc in λ i. record { num = n i; rows = m i }
    go (over h q) = absurd (let z : full ≡ made x S = sym q ∙ e in let y : ◌≡◌ {A = ℕ} 0 1 = cc in omega arith)
