-- Decimal digits stand for the number.
use Prim.Native.Nat.{ℕ, zero, suc, ◌+◌, ◌*◌, ◌-◌, ◌/◌, ◌%◌, ◌<◌}
use mathlib.Core.Path.{◌≡◌, refl, ap, ◌∙◌}
use mathlib.Core.Bool.{Bool, true, false, cond}
use mathlib.Core.List.{List, [], ◌∷◌, ◌++◌}
use native.Mathlib.Omega.{arith}
use lib.Dec.{ltb}
use borrow.Author.Tests.{ltb-true}
use Rattle.aiger.specs.Answers.{number_of_refusal}
use Rattle.aiger.specs.declared.refusal.Refusal.{Refusal}
use Rattle.aiger.specs.declared.refusal.Refusal.TheVariants.{TooLong, Form, Limits, Literal, Order}
use Rattle.printing.specs.Text.{decimal}

-- the number whose digits are n's and those
abbrev reading : ℕ → List ℕ → ℕ
reading n [] = n
reading n (d ∷ ds) = reading (n * 10 + (d - 48)) ds

reading_last : (n : ℕ) (ds : List ℕ) (d : ℕ) → reading n (ds ++ d ∷ []) ≡ reading n ds * 10 + (d - 48)
reading_last n [] d = refl
reading_last n (e ∷ ds) d = reading_last (n * 10 + (e - 48)) ds d

-- the least number of more than k digits and one
abbrev beyond : ℕ → ℕ
beyond zero = 10
beyond (suc k) = 10 * beyond k

pub decimal_reads : (k n : ℕ) → n < beyond k → reading 0 (decimal k n) ≡ n
decimal_reads zero n h = omega arith
decimal_reads (suc k) n h = go (ltb n 10) refl (decimal_reads k (n / 10) (omega (arith, h)))
  where
    go : (b : Bool) → ltb n 10 ≡ b → reading 0 (decimal k (n / 10)) ≡ n / 10 → reading 0 (cond b ((48 + n % 10) ∷ []) (decimal k (n / 10) ++ (48 + n % 10) ∷ [])) ≡ n
    go true e i = let small = ltb-true n 10 e in omega (arith, small)
    go false e i = reading_last 0 (decimal k (n / 10)) (48 + n % 10) ∙ ap (λ (m : ℕ). m * 10 + (48 + n % 10 - 48)) i ∙ omega arith

-- the two digits of a refusal's number are enough
pub refusal_reads : (why : Refusal) → reading 0 (decimal 1 (number_of_refusal why)) ≡ number_of_refusal why
refusal_reads TooLong = refl
refusal_reads (Form w n) = refl
refusal_reads Limits = refl
refusal_reads (Literal n) = refl
refusal_reads (Order n) = refl
