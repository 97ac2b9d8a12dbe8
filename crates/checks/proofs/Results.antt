-- No two results of a call on a table stand for one answer: each comes back from its answer.
use Prim.Native.Nat.{ℕ, ◌-◌}
use mathlib.Core.Path.{◌≡◌, refl, sym, ap, ◌∙◌}
use mathlib.Core.List.{[], ◌∷◌}
use lib.ListN.{get_or}
use Rattle.std.specs.Prelude.{Result, Ok, Err, OnErr}
use Rattle.table.specs.declared.Row.{Row}
use Rattle.table.specs.declared.Refusal.{Refusal}
use Rattle.table.specs.declared.Refusal.TheVariants.{OutOfRange, Unsound, NotInUse, SystemZero, BadVariable, NoOne, RoomOut, NotABit}
use Rattle.table.specs.Answers.{Answer, Made, Refused, number_of_refusal, answered_of}

-- the refusal of a number from 1 to 8
abbrev pub refusal_of_number : ℕ → Refusal
refusal_of_number n = get_or (OutOfRange ∷ Unsound ∷ NotInUse ∷ SystemZero ∷ BadVariable ∷ NoOne ∷ RoomOut ∷ NotABit ∷ []) (n - 1) NotABit

pub refusal_back : (why : Refusal) → refusal_of_number (number_of_refusal why) ≡ why
refusal_back OutOfRange = refl
refusal_back _ = refl

-- the result of an answer
abbrev result_of : Answer → Result Row Refusal
result_of (Made k n) = Ok k
result_of (Refused why) = Err (refusal_of_number why)

result_back : (r : Result Row Refusal) (n : ℕ) → result_of (answered_of r n) ≡ r
result_back (Ok k) n = refl
result_back (Err why) n = ap {B = Result Row Refusal} (λ w. Err w) (refusal_back why)

-- the count of rows in use after it, c where it is refused
abbrev count_of : ℕ → Answer → ℕ
count_of c (Made k n) = n
count_of c (Refused why) = c

count_back : (c : ℕ) (r : Result Row Refusal) (n : ℕ) → OnErr r (n ≡ c) → count_of c (answered_of r n) ≡ n
count_back c (Ok k) n h = refl
count_back c (Err why) n h = sym h

module _ (r r' : Result Row Refusal) (n n' : ℕ) (e : answered_of r n ≡ answered_of r' n') where
  pub answered_same : r ≡ r'
  answered_same = sym (result_back r n) ∙ ap result_of e ∙ result_back r' n'

  pub count_same : (c : ℕ) → OnErr r (n ≡ c) → OnErr r' (n' ≡ c) → n ≡ n'
  count_same c h h' = sym (count_back c r n h) ∙ ap (count_of c) e ∙ count_back c r' n' h'
