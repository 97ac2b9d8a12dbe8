-- Sums that are remembered, in either order.
use Prim.Native.Nat.{ℕ, suc, ◌+◌, ◌*◌, ◌<◌}
use mathlib.Core.Path.{◌≡◌, ◌∙◌}
use mathlib.Core.Bool.{xor}
use mathlib.Core.List.{List}
use native.Mathlib.Omega.{arith}
use lib.ListN.{length, set}
use Rattle.steps.specs.Rows.{Rows, value}
use Rattle.steps.specs.Steps.{answer, sum}
use Rattle.steps.specs.Table.{Slices, rows_of}
use Rattle.steps.proofs.Table.{rows_of_next}
use Rattle.steps.proofs.Sum.{sums_left_0, sums_right_0, sums_same}
use Rattle.steps.proofs.Comm.{sums_comm}
use Rattle.steps.proofs.Theorems.{Right, sum_right}
use Rattle.table.specs.declared.Row.{Row}
use Rattle.table.specs.Made.{At}
use Rattle.std.specs.Prelude.{Option, Some}
use Rattle.table.specs.Lent.{room}
use Rattle.table.specs.Memory.{key_of, Live, Place, Recalls}
use Rattle.table.specs.Inner.{Kept}
use Rattle.table.proofs.Words.{steps_sum}
use Rattle.sums.specs.Inner.{Pair, SumKey, straight, turned}
use Rattle.sums.proofs.Keeping.{kept_by}
use Rattle.sums.proofs.Recalling.{key_fits, steps_recalled, steps_remembered}

module _ (N : ℕ) (R : Rows) (f g : ℕ) where
  pub sum_left : f ≡ 0 → sum N f g R ≡ answer g R
  sum_left e = rw e (sums_left_0 N N g R)

  pub sum_right_0 : g ≡ 0 → sum N f g R ≡ answer f R
  sum_right_0 e = rw e (sums_right_0 N N f R)

  pub sum_same : f ≡ g → sum N f g R ≡ answer 0 R
  sum_same e = rw e (sums_same N N g R)

-- under the key of f and g, in this order
module _ (N c : ℕ) (s : Slices) (work : List ℕ) (f g : ℕ) (live : Live N c s work) (uf : f < c + 2) (ug : g < c + 2) (key : ℕ) (z : key_of 1 f g ≡ key)
    (i : ℕ) (place : Place (room s) (length work) i) where
  abbrev R : Rows
  R = rows_of s c

  in_order : {r : Option Row} {k : Row} → r ≡ Some k → Recalls r work i key → sum N f g (rows_of s c) ≡ answer k.0 (rows_of s c)
  in_order = steps_recalled N c s work live 1 f g (omega arith) uf ug key z (omega arith) (sum N f g) (steps_sum N f g) i place

  right : Right N (sum N f g) R 0 (λ a. xor (value a R f) (value a R g))
  right = sum_right N R live.sound f g (omega (arith, rows_of_next s c)) (omega (arith, rows_of_next s c)) 0 (omega arith) (omega arith)

  kept_in_order : (k : Row) (n : ℕ) (s' : Slices) (work' : List ℕ) → Kept N (sum N f g) (At k n) c s s' work work'
      → (work'' : List ℕ) → set work' i (key * 65536 + k.0) ≡ work'' → Kept N (sum N f g) (At k n) c s s' work work''
  kept_in_order = steps_remembered N c s work live 1 f g (omega arith) uf ug key z (omega arith) (sum N f g) (steps_sum N f g) i place (λ e. absurd (omega arith)) _ right

module _ (N c : ℕ) (s : Slices) (work : List ℕ) (f g : ℕ) (d : Pair N c s work f g) where
  pub pair_key : (key : ℕ) → SumKey f g key → key < 65536 * 65536 * 4
  pair_key key (straight z) = key_fits N c s work d.live 1 f g (omega arith) d.left d.right key z
  pair_key key (turned z) = key_fits N c s work d.live 1 g f (omega arith) d.right d.left key z

  module _ (key : ℕ) (q : SumKey f g key) (i : ℕ) (place : Place (room s) (length work) i) where
    pub recalled : {r : Option Row} {k : Row} → r ≡ Some k → Recalls r work i key → sum N f g (rows_of s c) ≡ answer k.0 (rows_of s c)
    recalled {k = k} e h = go q
      where
        go : SumKey f g key → sum N f g (rows_of s c) ≡ answer k.0 (rows_of s c)
        go (straight z) = in_order N c s work f g d.live d.left d.right key z i place e h
        go (turned z) = sums_comm N (suc N) f g (rows_of s c) ∙ in_order N c s work g f d.live d.right d.left key z i place e h

    pub kept_remembered : (k : Row) (n : ℕ) (s' : Slices) (work' : List ℕ) → Kept N (sum N f g) (At k n) c s s' work work'
        → (work'' : List ℕ) → set work' i (key * 65536 + k.0) ≡ work'' → Kept N (sum N f g) (At k n) c s s' work work''
    kept_remembered k n s' work' e work'' w = go q
      where
        go : SumKey f g key → Kept N (sum N f g) (At k n) c s s' work work''
        go (straight z) = kept_in_order N c s work f g d.live d.left d.right key z i place k n s' work' e work'' w
        go (turned z) =
            kept_by (sums_comm N (suc N) f g (rows_of s c))
            (kept_in_order N c s work g f d.live d.right d.left key z i place k n s' work' (kept_by (sums_comm N (suc N) g f (rows_of s c)) e) work'' w)
