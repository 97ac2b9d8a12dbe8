-- The text call's contract leaves nothing open. Assumes nothing.
use Prim.Native.Nat.{ℕ}
use mathlib.Core.Path.{◌≡◌, sym, ◌∙◌}
use mathlib.Core.List.{List}
use Rattle.std.specs.Prelude.{Result}
use Rattle.aiger.specs.Net.{circuit}
use Rattle.aiger.specs.Answers.{Answer, text_call, counts_of}
use Rattle.aiger.specs.declared.refusal.Refusal.{Refusal}

-- any two answers that the contract of `text` allows for a text coincide
pub unique : (s : List ℕ) (r r' : Answer) → r ≡ text_call s → r' ≡ text_call s → r ≡ r'
unique s r r' p q = p ∙ sym q

-- the same of the code's results: I and O, or the refusal with its kind and line
pub text_result_unique : (s : List ℕ) (r r' : Result (ℕ × ℕ) Refusal) → r ≡ counts_of (circuit s) → r' ≡ counts_of (circuit s) → r ≡ r'
text_result_unique s r r' p q = p ∙ sym q
