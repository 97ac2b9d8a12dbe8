-- The laws of Booleans that the steps rest on.
use mathlib.Core.Path.{◌≡◌, refl}
use mathlib.Core.Bool.{Bool, true, false, ◌&&◌, ◌||◌, xor}
use Prim.Native.Nat.{ℕ}
use native.Mathlib.Omega.{arith}

pub both_true : (a b : Bool) → a && b ≡ true → (a ≡ true) × (b ≡ true)
both_true true b e = (refl, e)
both_true false b e = let z : ◌≡◌ {A = ℕ} 0 1 = cc in absurd (omega arith)

pub both_false : (a b : Bool) → a || b ≡ false → (a ≡ false) × (b ≡ false)
both_false false b e = (refl, e)
both_false true b e = let z : ◌≡◌ {A = ℕ} 0 1 = cc in absurd (omega arith)

pub or_true : (b : Bool) → b || true ≡ true
or_true true = refl
or_true false = refl

pub or_false : (b : Bool) → b || false ≡ b
or_false true = refl
or_false false = refl

pub either_true : (a b : Bool) → a || true || b ≡ true
either_true true b = refl
either_true false b = refl

pub and_false : (b : Bool) → b && false ≡ false
and_false true = refl
and_false false = refl

pub and_true : (b : Bool) → b && true ≡ b
and_true true = refl
and_true false = refl

pub and_self : (b : Bool) → b && b ≡ b
and_self true = refl
and_self false = refl

pub xor_false : (b : Bool) → xor false b ≡ b
unfolding xor
xor_false true = refl
xor_false false = refl

pub xor_false_right : (b : Bool) → xor b false ≡ b
unfolding xor
xor_false_right true = refl
xor_false_right false = refl

pub xor_self : (b : Bool) → xor b b ≡ false
unfolding xor
xor_self true = refl
xor_self false = refl

-- each of 16 cases by computing
pub add_parts : (c x y x' y' : Bool) → xor (c && xor x x') (xor y y') ≡ xor (xor (c && x) y) (xor (c && x') y')
unfolding xor
add_parts false x y x' y' = rw (xor_false y, xor_false y', xor_false (xor y y'))
add_parts true true true true true = refl
add_parts true true true true false = refl
add_parts true true true false true = refl
add_parts true true true false false = refl
add_parts true true false true true = refl
add_parts true true false true false = refl
add_parts true true false false true = refl
add_parts true true false false false = refl
add_parts true false true true true = refl
add_parts true false true true false = refl
add_parts true false true false true = refl
add_parts true false true false false = refl
add_parts true false false true true = refl
add_parts true false false true false = refl
add_parts true false false false true = refl
add_parts true false false false false = refl

pub mul_parts : (c x y x' y' : Bool) → xor (c && xor (xor (y && x') (x && x')) (x && y')) (y && y') ≡ xor (c && x) y && xor (c && x') y'
unfolding xor
mul_parts false x y x' y' = rw (xor_false y, xor_false y', xor_false (y && y'))
mul_parts true true true true true = refl
mul_parts true true true true false = refl
mul_parts true true true false true = refl
mul_parts true true true false false = refl
mul_parts true true false true true = refl
mul_parts true true false true false = refl
mul_parts true true false false true = refl
mul_parts true true false false false = refl
mul_parts true false true true true = refl
mul_parts true false true true false = refl
mul_parts true false true false true = refl
mul_parts true false true false false = refl
mul_parts true false false true true = refl
mul_parts true false false true false = refl
mul_parts true false false false true = refl
mul_parts true false false false false = refl
