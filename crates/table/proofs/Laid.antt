-- The rows made stand from row 0 on.
use Prim.Native.Nat.{ℕ, suc}
use mathlib.Core.Path.{◌≡◌, refl, sym, ap, ◌∙◌}
use mathlib.Core.List.{List, [], ◌∷◌, ◌++◌}
use native.Mathlib.Omega.{arith}
use lib.ListN.{length, drop, length-append}
use lib.Seq.{append_snoc, get_or_at}
use Rattle.steps.specs.Rows.{Row, Rows, none, ◌▹◌, count}
use Rattle.steps.specs.Steps.{Steps, answer}
use Rattle.steps.specs.Table.{Slices, slices, rows_of}
use Rattle.steps.proofs.Room.{Fit, fits, over, fit}
use Rattle.table.specs.declared.Row.{Row as Number}
use Rattle.table.specs.Answers.{Made}
use Rattle.table.specs.Calls.{column, laid, Left, left, take_steps}
use Rattle.table.specs.Lent.{room}

column_length : (f : Row → ℕ) (R : Rows) → length (column f R) ≡ count R
unfolding column count
column_length f none = refl
column_length f (R ▹ r) = omega (arith, length-append (column f R) (f r ∷ []), column_length f R)

-- one row more, read off columns that begin with those of the rows before it
front_row : (R : Rows) (r : Row) (xs ys zs : List ℕ)
    → rows_of (slices (column (λ r. r.var) R ++ (r.var ∷ xs)) (column (λ r. r.then_part) R ++ (r.then_part ∷ ys)) (column (λ r. r.else_part) R ++ (r.else_part ∷ zs))) (count R) ≡ R
    → rows_of (slices (column (λ r. r.var) R ++ (r.var ∷ xs)) (column (λ r. r.then_part) R ++ (r.then_part ∷ ys)) (column (λ r. r.else_part) R ++ (r.else_part ∷ zs))) (suc (count R)) ≡ R ▹ r
unfolding rows_of
front_row R r xs ys zs h =
    rw (
      get_or_at (column (λ r. r.var) R) r.var xs 0 (count R) (column_length (λ r. r.var) R),
      get_or_at (column (λ r. r.then_part) R) r.then_part ys 0 (count R) (column_length (λ r. r.then_part) R),
      get_or_at (column (λ r. r.else_part) R) r.else_part zs 0 (count R) (column_length (λ r. r.else_part) R),
      h,
    )

front_rows : (R : Rows) (xs ys zs : List ℕ) → rows_of (slices (column (λ r. r.var) R ++ xs) (column (λ r. r.then_part) R ++ ys) (column (λ r. r.else_part) R ++ zs)) (count R) ≡ R
unfolding column count rows_of
front_rows none xs ys zs = refl
front_rows (R ▹ r) xs ys zs =
    (λ i. rows_of (slices (append_snoc (column (λ r. r.var) R) r.var xs i) (append_snoc (column (λ r. r.then_part) R) r.then_part ys i) (append_snoc (column (λ r. r.else_part) R) r.else_part zs i)) (suc (count R)))
    ∙ front_row R r xs ys zs (front_rows R (r.var ∷ xs) (r.then_part ∷ ys) (r.else_part ∷ zs))

pub laid_rows : (R : Rows) (s : Slices) → rows_of (laid R s) (count R) ≡ R
laid_rows R s = front_rows R (drop (count R) s.vars) (drop (count R) s.thens) (drop (count R) s.elses)

-- a number that a call's written steps made is the number that the steps make, with the rows that the slices then show
pub steps_made : (m : Steps) (c : ℕ) (s : Slices) {k : Number} {n : ℕ} {s' : Slices} → take_steps m c s ≡ left (Made k n) s' → m (rows_of s c) ≡ answer k.0 (rows_of s' n)
steps_made m c s {k} {n} {s'} e = go (fit (room s) (m (rows_of s c)))
  where
    go : Fit (room s) (m (rows_of s c)) → m (rows_of s c) ≡ answer k.0 (rows_of s' n)
    go (fits h q) =
        let R = (m (rows_of s c)).rows in
        let e' = rw q at e in
        let told = ap (λ (l : Left). l.answer) e' in
        let number : ◌≡◌ {A = Number} (record { 0 = (m (rows_of s c)).num }) k = cc in
        let rows : count R ≡ n = cc in
        let shown : rows_of (laid R s) (count R) ≡ rows_of s' n = λ i. rows_of ((e' i).table) (rows i) in
        λ i. answer ((number i).0) ((sym (laid_rows R s) ∙ shown) i)
    go (over h q) = let told = ap (λ (l : Left). l.answer) (rw q at e) in absurd (cc)
