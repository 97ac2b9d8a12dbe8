-- The ways in which numbers compare, as data to go by.
use Prim.Native.Nat.{ℕ, zero, suc, ◌<◌, ◌≤◌}
use mathlib.Core.Path.{◌≡◌, refl}
use mathlib.Core.Bool.{Bool, true, false}
use native.Mathlib.Omega.{arith}
use lib.Dec.{ltb}
use borrow.Author.Tests.{ltb-true, ltb-false}

-- a constant or a row
pub data Kind (k : ℕ) : Type 0 where
  const : k < 2 → Kind k
  inner : 2 ≤ k → Kind k

pub kind : (k : ℕ) → Kind k
kind zero = const (omega arith)
kind (suc zero) = const (omega arith)
kind (suc (suc k)) = inner (omega arith)

pub data Order (m n : ℕ) : Type 0 where
  less : m < n → Order m n
  equal : m ≡ n → Order m n
  greater : n < m → Order m n

pub order : (m n : ℕ) → Order m n
order m n = go (ltb m n) refl (ltb n m) refl
  where
    go : (b : Bool) → ltb m n ≡ b → (c : Bool) → ltb n m ≡ c → Order m n
    go true e c q = less (ltb-true m n e)
    go false e true q = greater (ltb-true n m q)
    go false e false q = equal (let x = ltb-false m n e in let y = ltb-false n m q in omega arith)

pub data Zero (k : ℕ) : Type 0 where
  is : k ≡ 0 → Zero k
  isnt : (k ≡ 0 → ⊥) → Zero k

pub zero? : (k : ℕ) → Zero k
zero? zero = is refl
zero? (suc k) = isnt (λ q. omega arith)
