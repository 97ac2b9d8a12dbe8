-- The decimal digits of a number, as they are laid down: the last digit behind those before it.
use Prim.Native.Nat.{ℕ, zero, suc, ◌+◌, ◌-◌, ◌/◌, ◌%◌, ◌<◌, ◌≤◌}
use mathlib.Core.Path.{◌≡◌, refl}
use mathlib.Core.List.{[], ◌∷◌, ◌++◌}
use native.Mathlib.Omega.{arith}
use lib.ListN.{length, length-append}
use Rattle.std.proofs.lemmas.Bool.{lt-ltb, le-ltb}
pub use Rattle.std.proofs.lemmas.Grind.{common_steps}
use Rattle.printing.specs.Text.{decimal, heading}

pub decimal_last : (k n : ℕ) → k ≤ 0 → decimal k n ≡ (48 + n % 10) ∷ []
decimal_last zero n h = refl
decimal_last (suc k) n h = absurd (omega (arith, h))

pub decimal_short : (k n : ℕ) → n < 10 → decimal k n ≡ (48 + n % 10) ∷ []
decimal_short zero n h = refl
decimal_short (suc k) n h = rw (lt-ltb n 10 h) refl

pub decimal_long : (k n : ℕ) → 0 < k → 10 ≤ n → decimal k n ≡ decimal (k - 1) (n / 10) ++ (48 + n % 10) ∷ []
decimal_long zero n p h = absurd (omega (arith, p))
decimal_long (suc k) n p h = let e : suc k - 1 ≡ k = omega arith in rw (e, le-ltb n 10 h) refl

pub decimal_fits : (k n : ℕ) → length (decimal k n) ≤ k + 1
decimal_fits zero n = omega arith
decimal_fits (suc k) n = grind (arith, decimal_fits k (n / 10), length-append (decimal k (n / 10)) ((48 + n % 10) ∷ []))

pub heading_fits : (v o : ℕ) → length (heading v o) ≤ 8
heading_fits v o = omega (arith, length-append (decimal 3 o) (10 ∷ []), decimal_fits 3 o)

-- what a number's digits need
pub ruleset decimals = (common_steps, decimal_last, decimal_short, decimal_long, decimal_fits)
