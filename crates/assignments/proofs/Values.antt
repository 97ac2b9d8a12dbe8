-- Evaluating the rows from row 0 on.
use Prim.Native.Nat.{ℕ, zero, suc, ◌+◌, ◌-◌, ◌<◌, ◌≤◌}
use mathlib.Core.Path.{◌≡◌, refl, sym, ap, ◌∙◌}
use mathlib.Core.Bool.{Bool, true, false, ◌&&◌, xor}
use mathlib.Core.List.{List}
use native.Mathlib.Omega.{arith}
use lib.Dec.{eqb, ltb}
use lib.ListN.{length, get_or}
use borrow.Author.Tests.{lt-ltb, le-ltb, ltb-true, ltb-false, eq-eqb, ne_eqb}
use Rattle.steps.specs.Rows.{row_of, Rows, Assignment, value, row, bit}
use Rattle.steps.specs.Sound.{Fits, Sound}
use Rattle.steps.specs.Table.{Slices, row_at, rows_of}
use Rattle.steps.proofs.Bools.{xor_false}
use Rattle.steps.proofs.Sound.{sound_below}
use Rattle.steps.proofs.Rows.{Node, node, value_0, value_1}
use Rattle.steps.proofs.Table.{rows_of_next, rows_of_row, rows_of_part}
use Rattle.assignments.specs.Bytes.{assigned}
use Rattle.assignments.specs.Inner.{bit_of, Evaluable}

pub bit_const : (values : List ℕ) (k : ℕ) → k < 2 → bit_of values k ≡ k
unfolding bit_of
bit_const values k h = rw (lt-ltb k 2 h, bit_of)

pub bit_row : (values : List ℕ) (k : ℕ) → 2 ≤ k → bit_of values k ≡ get_or values (k - 2) 0
unfolding bit_of
bit_row values k h = rw (le-ltb k 2 h, bit_of)

-- the value of a constant
pub value_const : (a : Assignment) (R : Rows) (k : ℕ) → k < 2 → value a R k ≡ eqb k 1
value_const a R zero h = value_0 a R
value_const a R (suc zero) h = value_1 a R
value_const a R (suc (suc k)) h = absurd (omega arith)

bit_eqb : (k : ℕ) → k < 2 → bit (eqb k 1) ≡ k
bit_eqb zero h = refl
bit_eqb (suc zero) h = refl
bit_eqb (suc (suc k)) h = absurd (omega arith)

-- sums of bits
bits_same : (x y : Bool) → bit x ≡ bit y → bit (xor x y) ≡ 0
unfolding xor
bits_same true true e = refl
bits_same false false e = refl
bits_same true false e = absurd (omega arith)
bits_same false true e = absurd (omega arith)

bits_apart : (x y : Bool) → (bit x ≡ bit y → ⊥) → bit (xor x y) ≡ 1
unfolding xor
bits_apart true true e = absurd (e refl)
bits_apart false false e = absurd (e refl)
bits_apart true false e = refl
bits_apart false true e = refl

module _ (c i : ℕ) (s : Slices) (bytes values : List ℕ) (d : Evaluable c i s bytes values) where
  abbrev N : ℕ
  N = length bytes

  abbrev R : Rows
  R = rows_of s c

  abbrev a : Assignment
  a = assigned bytes

  here : Node N R (i + 2)
  here = node N R d.lasting.sound (i + 2) (omega (arith, rows_of_next s c, d.there)) (omega arith)

  -- a number below row i's is a constant or the number of an evaluated row
  bit_below : (k : ℕ) → k < i + 2 → bit (value a R k) ≡ bit_of values k
  bit_below k h = go (ltb k 2) refl
    where
      go : (b : Bool) → ltb k 2 ≡ b → bit (value a R k) ≡ bit_of values k
      go true e = let l = ltb-true k 2 e in ap bit (value_const a R k l) ∙ bit_eqb k l ∙ sym (bit_const values k l)
      go false e =
          let l = ltb-false k 2 e in
          let q : (k - 2) + 2 ≡ k = omega arith in
          ap (λ (n : ℕ). bit (value a R n)) (sym q) ∙ sym (d.evaluated.each (k - 2) (omega arith)) ∙ sym (bit_row values k l)

  module _ (v t e : ℕ) (x : row_at s i ≡ row_of v t e) where
    is : row N R (i + 2) ≡ row_of v t e
    is = rows_of_row s N c i d.there ∙ x

    parts : Fits N (rows_of s i) (row_of v t e)
    unfolding rows_of Sound
    parts = rw x at (sound_below N (rows_of_part s (suc i) c (omega (arith, d.there))) d.lasting.sound).1

    pub var_in : v < length bytes
    var_in = parts.var_below

    pub then_in : t < i + 2
    then_in = rw (rows_of_next s i) at parts.then_used

    pub else_in : e < i + 2
    else_in = rw (rows_of_next s i) at parts.else_used

    splits : value a R (i + 2) ≡ xor (a v && value a R t) (value a R e)
    splits = rw is at (here.cut.splits a)

    module _ (b : ℕ) (eb : bit_of values e ≡ b) where
      pub without : (get_or bytes v 0 ≡ 1 → ⊥) → bit (value (assigned bytes) (rows_of s c) (i + 2)) ≡ b
      without h =
          let z : value a R (i + 2) ≡ value a R e = splits ∙ rw (ne_eqb (get_or bytes v 0) 1 h) (xor_false (value a R e)) in
          ap bit z ∙ bit_below e else_in ∙ eb

      module _ (h : get_or bytes v 0 ≡ 1) (g : ℕ) (eg : bit_of values t ≡ g) where
        both : value a R (i + 2) ≡ xor (value a R t) (value a R e)
        both = splits ∙ rw (eq-eqb (get_or bytes v 0) 1 h)

        equal? : bit (value a R t) ≡ bit (value a R e) → g ≡ b
        equal? q = sym (bit_below t then_in ∙ eg) ∙ q ∙ bit_below e else_in ∙ eb

        pub with_same : g ≡ b → bit (value (assigned bytes) (rows_of s c) (i + 2)) ≡ 0
        with_same q = ap bit both ∙ bits_same (value a R t) (value a R e) (bit_below t then_in ∙ eg ∙ q ∙ sym (bit_below e else_in ∙ eb))

        pub with_apart : (g ≡ b → ⊥) → bit (value (assigned bytes) (rows_of s c) (i + 2)) ≡ 1
        with_apart q = ap bit both ∙ bits_apart (value a R t) (value a R e) (λ z. q (equal? z))
