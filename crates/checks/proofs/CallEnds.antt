-- What a call that may append has asked where it made something, and that it allows one outcome.
use Prim.Native.Nat.{ℕ}
use mathlib.Core.Path.{◌≡◌, refl, sym, ap, ◌∙◌}
use mathlib.Core.Bool.{Bool, true, false}
use Rattle.std.specs.Prelude.{Result, OnErr}
use Rattle.steps.specs.Sound.{sound}
use Rattle.steps.specs.Table.{Slices, rows_of}
use Rattle.table.specs.declared.Row.{Row}
use Rattle.table.specs.declared.Refusal.{Refusal}
use Rattle.table.specs.Answers.{Answer, Made, answered_of}
use Rattle.table.specs.Calls.{unless◌then◌else◌, in_range, Left, left, refuse, checked, Does}
use Rattle.checks.proofs.Results.{answered_same, count_same}

-- "Uniqueness is proved: any two outcomes a contract allows coincide."
pub does_unique : (Meant : ℕ → ℕ → Slices → Type 0) (call : Left) (r r' : Answer) (t t' : Slices) → Does Meant call r t → Does Meant call r' t' → left r t ≡ left r' t'
does_unique Meant call r r' t t' p q = sym p.is ∙ q.is

-- the same of the code's results: the number or the refusal, the count of rows in use, and the slices
pub results_alike : (c : ℕ) (r r' : Result Row Refusal) (n n' : ℕ) (t t' : Slices) → left (answered_of r n) t ≡ left (answered_of r' n') t' → OnErr r (n ≡ c) → OnErr r' (n' ≡ c)
    → (r ≡ r') × (n ≡ n') × (t ≡ t')
results_alike c r r' n n' t t' e h h' =
    let a : answered_of r n ≡ answered_of r' n' = ap (λ (l : Left). l.answer) e in
    (answered_same r r' n n' a, count_same r r' n n' a c h h', ap (λ (l : Left). l.table) e)

pub does_result_unique : (Meant : ℕ → ℕ → Slices → Type 0) (call : Left) (c : ℕ) (r r' : Result Row Refusal) (n n' : ℕ) (t t' : Slices)
    → Does Meant call (answered_of r n) t → OnErr r (n ≡ c) → Does Meant call (answered_of r' n') t' → OnErr r' (n' ≡ c)
    → (r ≡ r') × (n ≡ n') × (t ≡ t')
does_result_unique Meant call c r r' n n' t t' p h q h' = results_alike c r r' n n' t t' (does_unique Meant call (answered_of r n) (answered_of r' n') t t' p q) h h'

-- a call that made something asked its questions and got true
pub unless_made : (b : Bool) (why : ℕ) (s : Slices) (done : Left) {k : Row} {n : ℕ} {s' : Slices} → (unless b then refuse why s else done) ≡ left (Made k n) s' → (b ≡ true) × (done ≡ left (Made k n) s')
unless_made true why s done e = (refl, e)
unless_made false why s done e = absurd (let told = ap (λ (l : Left). l.answer) e in cc)

pub checked_made : (N c : ℕ) (s : Slices) (done : Left) {k : Row} {n : ℕ} {s' : Slices} → checked (in_range N c s) (sound N (rows_of s c)) (λ why. refuse why s) done ≡ left (Made k n) s'
    → (sound N (rows_of s c) ≡ true) × (done ≡ left (Made k n) s')
checked_made N c s done e = unless_made (sound N (rows_of s c)) 2 s done (unless_made (in_range N c s) 1 s (unless sound N (rows_of s c) then refuse 2 s else done) e).1
