-- "rows in use stay as they were", whatever a call that may append returns to C: answered, refused or out of room.
-- Assumes nothing.
use Prim.Native.Nat.{ℕ, suc, ◌+◌, ◌-◌, ◌<◌}
use mathlib.Core.Path.{◌≡◌, refl, sym, ap, subst, ◌∙◌}
use mathlib.Core.Bool.{Bool, true, false, ◌&&◌, not, xor}
use mathlib.Core.List.{List, ◌++◌, append-nil}
use native.Mathlib.Omega.{arith}
use lib.Dec.{eqb, leb, ltb}
use lib.ListN.{length, get_or, take, replicate, get_or-append}
use lib.Seq.{get_or-take, length-take-le, take_all}
use borrow.Author.Tests.{leb-true, leb-false}
use Rattle.steps.specs.Room.{Ending, made, full, within}
use Rattle.steps.specs.Rows.{Row, Rows, count, row}
use Rattle.steps.specs.Sound.{sound}
use Rattle.steps.specs.Steps.{Steps, Answer as Stepped, make, sum, product, normal}
use Rattle.steps.specs.System.{equation}
use Rattle.steps.specs.Table.{Slices, row_at, rows_of}
use Rattle.steps.proofs.Keeps.{Keeps, keeps_make, keeps_sums, keeps_products, keeps_normals}
use Rattle.steps.proofs.Room.{within_tells}
use Rattle.steps.proofs.Rows.{◌≼◌, count_grows, row_keeps}
use Rattle.steps.proofs.Table.{rows_of_count, rows_of_next, rows_of_row}
use Rattle.table.specs.Answers.{Answer}
use Rattle.table.specs.Calls.{unless◌then◌else◌, checked, in_range, in_use, laid, freed, cleared, Left, left, refuse, end_in, take_steps, Does}
use Rattle.table.specs.Lent.{room}
use Rattle.numbers.specs.Calls.{variable_call}
use Rattle.pairs.specs.Calls.{pair_call, sum_call, product_call, Answered}
use Rattle.normal.specs.Calls.{system_checked, in_order, equation_call, Adds, normal_call, Reduced}
use Rattle.verdicts.proofs.Outcomes.{laid_rows}
use Rattle.shown.specs.Seen.{Shows, show_made}

-- the rows in use at entry, c of them, stand in the slices s' as they did in s: for i below c the i-th entries of the three slices
abbrev pub RowsStay : ℕ → Slices → Slices → Type 0
RowsStay c s s' = (i : ℕ) → i < c → (get_or s'.vars i 0 ≡ get_or s.vars i 0) × (get_or s'.thens i 0 ≡ get_or s.thens i 0) × (get_or s'.elses i 0 ≡ get_or s.elses i 0)

-- an entry below c is none that is zeroed, also where the slice ends before c
freed_at : (c : ℕ) (l : List ℕ) (i : ℕ) → i < c → get_or (freed c l) i 0 ≡ get_or l i 0
freed_at c l i h = go (leb c (length l)) refl
  where
    go : (b : Bool) → leb c (length l) ≡ b → get_or (freed c l) i 0 ≡ get_or l i 0
    go true e =
        let n = length-take-le c l (leb-true c (length l) e) in
        get_or-append (take c l) (replicate (length l - c) 0) 0 i (omega (arith, n)) ∙ get_or-take c l i 0 h
    go false e =
        let n : length l < c = leb-false c (length l) e in
        let z : length l - c ≡ 0 = omega arith in
        ap (λ (k : ℕ). get_or (take c l ++ replicate k 0) i 0) z ∙ ap (λ (x : List ℕ). get_or x i 0) (append-nil (take c l) ∙ take_all c l (omega arith))

-- how the rows in use come through a call, step by step of its definition
module _ (c : ℕ) (s : Slices) where
  as_rows : (s' : Slices) → ((i : ℕ) → i < c → row_at s' i ≡ row_at s i) → RowsStay c s s'
  as_rows s' f i h = let e = f i h in (ap (λ (r : Row). r.var) e, ap (λ (r : Row). r.then_part) e, ap (λ (r : Row). r.else_part) e)

  laid_stay : (R : Rows) → rows_of s c ≼ R → RowsStay c s (laid R s)
  laid_stay R q = as_rows (laid R s) (λ i h.
      sym (rows_of_row (laid R s) 0 (count R) i (omega (arith, count_grows q, rows_of_count s c)))
      ∙ ap (λ (S : Rows). row 0 S (i + 2)) (laid_rows R s)
      ∙ row_keeps 0 q (i + 2) (omega (arith, rows_of_next s c))
      ∙ rows_of_row s 0 c i h)

  cleared_stay : RowsStay c s (cleared c s)
  cleared_stay i h = (freed_at c s.vars i h, freed_at c s.thens i h, freed_at c s.elses i h)

  refused_stay : (why : ℕ) → RowsStay c s (refuse why s).table
  refused_stay why i h = (refl, refl, refl)

  steps_stay : (m : Steps) → Keeps m → RowsStay c s (take_steps m c s).table
  steps_stay m keeps = go (within (room s) (m (rows_of s c))) refl
    where
      go : (e : Ending) → within (room s) (m (rows_of s c)) ≡ e → RowsStay c s (end_in e c s).table
      go (made k R) e = laid_stay R (subst (λ (x : Stepped). rows_of s c ≼ x.rows) (within_tells (room s) (m (rows_of s c)) k R e) (keeps (rows_of s c)))
      go full e = cleared_stay

  unless_stay : (t : Bool) (a b : Left) → RowsStay c s a.table → RowsStay c s b.table → RowsStay c s (unless t then a else b).table
  unless_stay true a b p q = q
  unless_stay false a b p q = p

  checked_stay : (range well : Bool) (done : Left) → RowsStay c s done.table → RowsStay c s (checked range well (λ why. refuse why s) done).table
  checked_stay range well done p = unless_stay range (refuse 1 s) _ (refused_stay 1) (unless_stay well (refuse 2 s) done (refused_stay 2) p)

  system_stay : (k F : ℕ) (done : Left) → RowsStay c s done.table → RowsStay c s (system_checked c s k F done).table
  system_stay k F done p =
      unless_stay (in_use c k && in_use c F) (refuse 3 s) _ (refused_stay 3) (unless_stay (not (eqb F 0)) (refuse 4 s) done (refused_stay 4) p)

  -- what is shown of a call that leaves the rows in use
  shown_stay : {promise : Answer → Type 0} {s' : Slices} {k : ℕ} {held outs : ℕ × ℕ} (call : Left) → RowsStay c s call.table → ((r : Answer) → promise r → call ≡ left r s')
      → Shows show_made promise k held outs → RowsStay c s s'
  shown_stay call p is a = subst (RowsStay c s) (ap (λ (x : Left). x.table) (is a.answer a.promised)) p

-- each call's hypothesis is the `ensures shows` of its contract in src/lib.rt: s and s' are the three slices at entry and at exit, c the count of rows in use at entry

module _ (N c : ℕ) (s s' : Slices) (k : ℕ) (held outs : ℕ × ℕ) where
  -- mg_variable
  pub variable_rows_stay : (v : ℕ) → Shows show_made (λ r. variable_call N c s v ≡ left r s') k held outs → RowsStay c s s'
  unfolding variable_call
  variable_rows_stay v =
      shown_stay c s (variable_call N c s v)
      (checked_stay c s (in_range N c s) (sound N (rows_of s c)) _
      (unless_stay c s (ltb v N) (refuse 5 s) _ (refused_stay c s 5) (steps_stay c s (make v 1 0) (keeps_make v 1 0))))
      (λ r e. e)

  pair_stay : (m : Steps) → Keeps m → (f g : ℕ) → RowsStay c s (pair_call N m c s f g).table
  unfolding pair_call
  pair_stay m keeps f g =
      checked_stay c s (in_range N c s) (sound N (rows_of s c)) _
      (unless_stay c s (in_use c f && in_use c g) (refuse 3 s) _ (refused_stay c s 3) (steps_stay c s m keeps))

  -- mg_sum
  pub sum_rows_stay : (f g : ℕ) → Shows show_made (λ r. Answered xor (sum_call N c s f g) r c s s' f g) k held outs → RowsStay c s s'
  sum_rows_stay f g = shown_stay c s (sum_call N c s f g) (pair_stay (sum N f g) (keeps_sums N (suc N) f g) f g) (λ r p. p.is)

  -- mg_product
  pub product_rows_stay : (f g : ℕ) → Shows show_made (λ r. Answered ◌&&◌ (product_call N c s f g) r c s s' f g) k held outs → RowsStay c s s'
  product_rows_stay f g = shown_stay c s (product_call N c s f g) (pair_stay (product N f g) (keeps_products N (suc N) f g) f g) (λ r p. p.is)

  -- mg_equation
  pub equation_rows_stay : (i F t : ℕ) → Shows show_made (λ r. Does (Adds c s i F t) (equation_call N c s i F t) r s') k held outs → RowsStay c s s'
  unfolding equation_call
  equation_rows_stay i F t =
      shown_stay c s (equation_call N c s i F t)
      (checked_stay c s (in_range N c s) (sound N (rows_of s c)) _
      (system_stay c s t F _ (unless_stay c s (in_order N (rows_of s c) i F t) (refuse 5 s) _ (refused_stay c s 5) (steps_stay c s (equation i F t) (keeps_make i F t)))))
      (λ r p. p.is)

  -- mg_normal_form
  pub normal_rows_stay : (p F : ℕ) → Shows show_made (λ r. Does (Reduced c s p F) (normal_call N c s p F) r s') k held outs → RowsStay c s s'
  unfolding normal_call
  normal_rows_stay p F =
      shown_stay c s (normal_call N c s p F)
      (checked_stay c s (in_range N c s) (sound N (rows_of s c)) _ (system_stay c s p F _ (steps_stay c s (normal N p F) (keeps_normals N (suc N) p F))))
      (λ r a. a.is)
