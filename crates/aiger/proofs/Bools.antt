-- Tests joined by `&&`. Assumes nothing.
use mathlib.Core.Path.{◌≡◌, refl}
use mathlib.Core.Bool.{Bool, true, false, ◌&&◌}

pub split_and : (a b : Bool) → a && b ≡ true → (a ≡ true) × (b ≡ true)
split_and true true e = (refl, refl)
split_and true false e = (refl, e)
split_and false b e = let z : ◌≡◌ {A = Bool} false true = e in (e, cc)
