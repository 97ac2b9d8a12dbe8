-- The test of the bytes is the library's.
use Prim.Native.Nat.{ℕ}
use mathlib.Core.Path.{◌≡◌, refl}
use mathlib.Core.List.{List}
use lib.Dec.{ltb}
use Rattle.std.specs.List.{list_all}
use Rattle.std.proofs.lemmas.List.Recursion.{same_from_clauses}
use mathlib.Core.Bool.{◌&&◌}
use Rattle.numbers.specs.Calls.{all_bits}

pub bits_all : (bytes : List ℕ) → all_bits bytes ≡ list_all (λ b. ltb b 2) bytes
unfolding all_bits
bits_all bytes = same_from_clauses all_bits (list_all (λ b. ltb b 2)) (λ b r. ltb b 2 && r) refl (λ b bytes. refl) (λ b bytes. refl) bytes
