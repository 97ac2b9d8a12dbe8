-- What the calls' answers mean, and that a call allows one outcome.
use Prim.Native.Nat.{ℕ, ◌+◌, ◌<◌}
use mathlib.Core.Path.{◌≡◌, refl, sym, ap, subst, ◌∙◌}
use mathlib.Core.Bool.{Bool, true, false, ◌&&◌}
use mathlib.Core.List.{List}
use lib.Dec.{eqb}
use lib.ListN.{length}
use borrow.Author.Tests.{eqb-false, ltb-true}
use Rattle.std.specs.Prelude.{Result, Ok, Err, OnErr}
use Rattle.steps.specs.Sound.{sound}
use Rattle.steps.specs.Table.{Slices, rows_of}
use Rattle.steps.specs.One.{one}
use Rattle.steps.proofs.Sound.{sound_true}
use Rattle.assignments.proofs.Ones.{one_means}
use Rattle.assignments.specs.Bytes.{bytes_of}
use Rattle.numbers.specs.Calls.{variable_call, value_call, OneLeft, one_left, one_call, OneMeans}
use Rattle.numbers.specs.Answers.{Valued, Value, NoValue, Sought, One, NoOne, valued_of, sought_of}
use Rattle.table.specs.declared.Row.{Row}
use Rattle.table.specs.declared.Refusal.{Refusal}
use Rattle.table.specs.Calls.{in_range, in_use, left}
use Rattle.table.specs.Answers.{Answer, answered_of}
use Rattle.checks.proofs.Results.{refusal_of_number, refusal_back}
use Rattle.checks.proofs.CallEnds.{results_alike}

-- a one that was answered is a one, and the least
module _ (N c : ℕ) (s : Slices) (f : ℕ) (bytes : List ℕ) where
  none : (why : ℕ) (r : Sought) (bytes' : List ℕ) → one_left (NoOne why) bytes ≡ one_left r bytes' → OneMeans r c s f bytes'
  none why r bytes' e = subst (λ (x : Sought). OneMeans x c s f bytes') (ap (λ (o : OneLeft). o.answer) e) tt

  found : (r : Sought) (bytes' : List ℕ) → sound N (rows_of s c) ≡ true → f < c + 2 → (f ≡ 0 → ⊥) → one_left One (bytes_of N (one (rows_of s c) f)) ≡ one_left r bytes' → OneMeans r c s f bytes'
  found r bytes' w u h e =
      let q : bytes_of N (one (rows_of s c) f) ≡ bytes' = ap (λ (o : OneLeft). o.bytes) e in
      subst (λ (x : Sought). OneMeans x c s f bytes') (ap (λ (o : OneLeft). o.answer) e) (subst (OneMeans One c s f) q (one_means N c s f (sound_true N (rows_of s c) w) u h))

  pub one_call_means : (r : Sought) (bytes' : List ℕ) → one_call N c s f bytes ≡ one_left r bytes' → OneMeans r c s f bytes'
  unfolding one_call
  one_call_means r bytes' e = go (eqb (length bytes) N && in_range N c s) refl (sound N (rows_of s c)) refl (in_use c f) refl (eqb f 0) refl
    where
      go : (a : Bool) → eqb (length bytes) N && in_range N c s ≡ a → (b : Bool) → sound N (rows_of s c) ≡ b → (u : Bool) → in_use c f ≡ u → (z : Bool) → eqb f 0 ≡ z → OneMeans r c s f bytes'
      go false x b y u v z w = none 1 r bytes' (rw x at e)
      go true x false y u v z w = none 2 r bytes' (rw (x, y) at e)
      go true x true y false v z w = none 3 r bytes' (rw (x, y, v) at e)
      go true x true y true v true w = none 6 r bytes' (rw (x, y, v, w) at e)
      go true x true y true v false w = found r bytes' y (ltb-true f (c + 2) v) (eqb-false f 0 w) (rw (x, y, v, w) at e)

-- "Uniqueness is proved: any two outcomes a contract allows coincide."
pub variable_unique : (N c : ℕ) (s : Slices) (v : ℕ) (r r' : Answer) (t t' : Slices) → variable_call N c s v ≡ left r t → variable_call N c s v ≡ left r' t' → left r t ≡ left r' t'
variable_unique N c s v r r' t t' p q = sym p ∙ q

pub value_unique : (N c : ℕ) (s : Slices) (f : ℕ) (bytes : List ℕ) (r r' : Valued) → value_call N c s f bytes ≡ r → value_call N c s f bytes ≡ r' → r ≡ r'
value_unique N c s f bytes r r' p q = sym p ∙ q

pub one_unique : (N c : ℕ) (s : Slices) (f : ℕ) (bytes : List ℕ) (r r' : Sought) (b b' : List ℕ) → one_call N c s f bytes ≡ one_left r b → one_call N c s f bytes ≡ one_left r' b' → one_left r b ≡ one_left r' b'
one_unique N c s f bytes r r' b b' p q = sym p ∙ q

-- no two results stand for one answer: each comes back from it
abbrev value_of : Valued → Result Bool Refusal
value_of (Value b) = Ok b
value_of (NoValue why) = Err (refusal_of_number why)

value_back : (r : Result Bool Refusal) → value_of (valued_of r) ≡ r
value_back (Ok b) = refl
value_back (Err why) = ap {B = Result Bool Refusal} (λ w. Err w) (refusal_back why)

pub valued_same : (r r' : Result Bool Refusal) → valued_of r ≡ valued_of r' → r ≡ r'
valued_same r r' e = sym (value_back r) ∙ ap value_of e ∙ value_back r'

abbrev found_of : Sought → Result (Unit {0}) Refusal
found_of One = Ok tt
found_of (NoOne why) = Err (refusal_of_number why)

found_back : (r : Result (Unit {0}) Refusal) → found_of (sought_of r) ≡ r
found_back (Ok u) = refl
found_back (Err why) = ap {B = Result (Unit {0}) Refusal} (λ w. Err w) (refusal_back why)

pub sought_same : (r r' : Result (Unit {0}) Refusal) → sought_of r ≡ sought_of r' → r ≡ r'
sought_same r r' e = sym (found_back r) ∙ ap found_of e ∙ found_back r'

-- the uniqueness of the code's results
pub variable_result_unique : (N c : ℕ) (s : Slices) (v : ℕ) (r r' : Result Row Refusal) (n n' : ℕ) (t t' : Slices)
    → variable_call N c s v ≡ left (answered_of r n) t → OnErr r (n ≡ c) → variable_call N c s v ≡ left (answered_of r' n') t' → OnErr r' (n' ≡ c)
    → (r ≡ r') × (n ≡ n') × (t ≡ t')
variable_result_unique N c s v r r' n n' t t' p h q h' = results_alike c r r' n n' t t' (variable_unique N c s v (answered_of r n) (answered_of r' n') t t' p q) h h'

pub value_result_unique : (N c : ℕ) (s : Slices) (f : ℕ) (bytes : List ℕ) (r r' : Result Bool Refusal) → value_call N c s f bytes ≡ valued_of r → value_call N c s f bytes ≡ valued_of r' → r ≡ r'
value_result_unique N c s f bytes r r' p q = valued_same r r' (value_unique N c s f bytes (valued_of r) (valued_of r') p q)

pub one_result_unique : (N c : ℕ) (s : Slices) (f : ℕ) (bytes : List ℕ) (r r' : Result (Unit {0}) Refusal) (b b' : List ℕ)
    → one_call N c s f bytes ≡ one_left (sought_of r) b → one_call N c s f bytes ≡ one_left (sought_of r') b' → (r ≡ r') × (b ≡ b')
one_result_unique N c s f bytes r r' b b' p q =
    let e = one_unique N c s f bytes (sought_of r) (sought_of r') b b' p q in
    (sought_same r r' (ap (λ (o : OneLeft). o.answer) e), ap (λ (o : OneLeft). o.bytes) e)
