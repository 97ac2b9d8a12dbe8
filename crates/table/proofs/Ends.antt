-- How taken steps end: what they leave is what a call's definition says.
use Prim.Native.Nat.{ℕ, zero, suc, ◌-◌, ◌≤◌}
use mathlib.Core.Path.{◌≡◌, refl, sym, ap, ◌∙◌}
use mathlib.Core.List.{List, [], ◌∷◌, ◌++◌}
use native.Mathlib.Omega.{arith}
use lib.ListN.{length, get_or, take, drop, replicate, take-append-drop}
use lib.Seq.{take-suc}
use Rattle.steps.specs.Rows.{Row as Triple, count}
use Rattle.steps.specs.Table.{Slices, slices, row_at, rows_of}
use Rattle.steps.specs.Steps.{Steps}
use Rattle.steps.specs.Room.{Ending}
use Rattle.steps.proofs.Table.{rows_of_count}
use Rattle.table.specs.Answers.{Made as Answer-made, Refused}
use Rattle.table.specs.Made.{Made}
use Rattle.table.specs.Made.{At, Full}
use Rattle.table.specs.Calls.{column, freed, left, end_in, take_steps, finished}
use Rattle.table.specs.Inner.{said, Taken}
use Rattle.table.specs.Lent.{Lent}

-- what stands below n in a slice is a column of the rows
column_take : (n : ℕ) (s : Slices) (p : Triple → ℕ) (xs : List ℕ) → ((k : ℕ) → get_or xs k 0 ≡ p (row_at s k)) → n ≤ length xs → take n xs ≡ column p (rows_of s n)
unfolding rows_of column
column_take zero s p xs q h = refl
column_take (suc n) s p xs q h =
    take-suc xs n 0 (omega arith) ∙ ap (λ (l : List ℕ). l ++ get_or xs n 0 ∷ []) (column_take n s p xs q (omega arith)) ∙ ap (λ (k : ℕ). column p (rows_of s n) ++ k ∷ []) (q n)

laid_column : (n : ℕ) (s : Slices) (p : Triple → ℕ) (xs xs₀ : List ℕ) → ((k : ℕ) → get_or xs k 0 ≡ p (row_at s k)) → n ≤ length xs → drop n xs ≡ drop n xs₀
    → column p (rows_of s n) ++ drop (count (rows_of s n)) xs₀ ≡ xs
laid_column n s p xs xs₀ q h e =
    ap (λ (k : ℕ). column p (rows_of s n) ++ drop k xs₀) (rows_of_count s n) ∙ ap (λ (l : List ℕ). column p (rows_of s n) ++ l) (sym e)
    ∙ ap (λ (l : List ℕ). l ++ drop n xs) (sym (column_take n s p xs q h)) ∙ take-append-drop n xs

freed_same : (c : ℕ) (s s' : Slices) (p : Triple → ℕ) (xs xs' : List ℕ) → ((k : ℕ) → get_or xs k 0 ≡ p (row_at s k)) → ((k : ℕ) → get_or xs' k 0 ≡ p (row_at s' k))
    → c ≤ length xs → length xs' ≡ length xs → rows_of s' c ≡ rows_of s c → freed c xs' ≡ freed c xs
freed_same c s s' p xs xs' q q' h l e =
    ap (λ (t : List ℕ). t ++ replicate (length xs' - c) 0) (column_take c s' p xs' q' (omega arith) ∙ ap (column p) e ∙ sym (column_take c s p xs q h))
    ∙ ap (λ (n : ℕ). take c xs ++ replicate (n - c) 0) l

-- the end of a call is what the written steps come to
pub taken_ends : {m : Steps} {r : Made} {c : ℕ} {s s' : Slices} → Lent c s → Taken m r c s s' → take_steps m c s ≡ finished r c s'
taken_ends {m} {r} {c} {s} {s'} l d = ap (λ (x : Ending). end_in x c s) d.is ∙ go r d
  where
    go : (r : Made) → Taken m r c s s' → end_in (said r s') c s ≡ finished r c s'
    go (At k n) d =
        let n_in : n ≤ length s.vars = d.rest.fits in
        let v = laid_column n s' (λ r. r.var) s'.vars s.vars (λ k. refl) (omega (arith, d.vars)) d.rest.vars in
        let t = laid_column n s' (λ r. r.then_part) s'.thens s.thens (λ k. refl) (omega (arith, d.thens, l.thens)) d.rest.thens in
        let e = laid_column n s' (λ r. r.else_part) s'.elses s.elses (λ k. refl) (omega (arith, d.elses, l.elses)) d.rest.elses in
        let q = rows_of_count s' n in
        λ i. left (Answer-made k (q i)) (slices (v i) (t i) (e i))
    go Full d =
        let v = freed_same c s s' (λ r. r.var) s.vars s'.vars (λ k. refl) (λ k. refl) l.used d.vars d.kept in
        let t = freed_same c s s' (λ r. r.then_part) s.thens s'.thens (λ k. refl) (λ k. refl) (omega (arith, l.used, l.thens)) d.thens d.kept in
        let e = freed_same c s s' (λ r. r.else_part) s.elses s'.elses (λ k. refl) (λ k. refl) (omega (arith, l.used, l.elses)) d.elses d.kept in
        λ i. left (Refused 7) (slices (sym v i) (sym t i) (sym e i))
