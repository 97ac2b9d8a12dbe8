-- The loop over the outputs after the last gate. Assumes nothing.
use Prim.Native.Nat.{ℕ, ◌+◌, ◌<◌, ◌≤◌}
use mathlib.Core.Path.{◌≡◌, ◌∙◌}
use mathlib.Core.Bool.{true, false}
use mathlib.Core.List.{List, ◌∷◌}
use native.Mathlib.Numerals.{add-one}
use native.Mathlib.Omega.{arith}
use lib.ListN.{length, get_or, drop, drop_of_length-le}
use lib.Seq.{drop-cons}
use Rattle.aiger.specs.Net.{at, nowhere, known, unknown_output}

-- the first k outputs are known
pub record Passed (M n : ℕ) (outs : List ℕ) (k : ℕ) (ls : List ℕ) : Type 0 where
  pub rest : unknown_output M ls n outs ≡ unknown_output M ls (n + k) (drop k outs)

module _ {M n : ℕ} {outs : List ℕ} {k : ℕ} {ls : List ℕ} (i : Passed M n outs k ls) where
  module _ (h : k < length outs) where
    front : drop k outs ≡ get_or outs k 0 ∷ drop (k + 1) outs
    front = rw add-one (drop-cons outs k 0 h)

    pub passed_stop : known M ls (get_or outs k 0) ≡ false → unknown_output M ls n outs ≡ at (n + k)
    unfolding unknown_output
    passed_stop e = i.rest ∙ rw (front, e)

    pub passed_next : known M ls (get_or outs k 0) ≡ true → Passed M n outs (k + 1) ls
    unfolding unknown_output
    passed_next e = record { rest = i.rest ∙ (let z : n + k + 1 ≡ n + (k + 1) = omega arith in rw (front, e, z)) }

  pub passed_end : length outs ≤ k → unknown_output M ls n outs ≡ nowhere
  unfolding unknown_output
  passed_end h = i.rest ∙ rw (drop_of_length-le outs h)
