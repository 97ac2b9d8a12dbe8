-- Marks, as literals are defined one after the other. Assumes nothing.
use Prim.Native.Nat.{ℕ, zero, suc, ◌/◌, ◌<◌}
use mathlib.Core.Path.{◌≡◌, refl, sym}
use mathlib.Core.Bool.{Bool, true, false, ◌||◌}
use mathlib.Core.List.{List, [], ◌∷◌, ◌++◌}
use native.Mathlib.Omega.{arith}
use lib.Dec.{eqb}
use lib.ListN.{get_or, set, replicate, length-set, get_or-replicate}
use lib.Seq.{get_or-set_same, get_or-set_other}
use borrow.Author.Tests.{eqb-true, eqb-false, ne_eqb}
use Rattle.aiger.specs.Net.{defined}
use Rattle.aiger.specs.Marked.{Marks}

or_move : (a b c : Bool) → a || (b || c) ≡ b || (a || c)
or_move true true c = refl
or_move true false c = refl
or_move false b c = refl

pub defined_snoc : (ls : List ℕ) (l v : ℕ) → defined (ls ++ l ∷ []) v ≡ eqb (l / 2) v || defined ls v
unfolding defined
defined_snoc [] l v = refl
defined_snoc (x ∷ ls) l v = rw (defined_snoc ls l v) (or_move (eqb (x / 2) v) (eqb (l / 2) v) (defined ls v))

pub marked : (ms : List Bool) (ls : List ℕ) (l : ℕ) → Marks ms ls → l / 2 < 1025 → Marks (set ms (l / 2) true) (ls ++ l ∷ [])
marked ms ls l m h = record { long = rw length-set m.long; says = λ v b. rw defined_snoc (go v b (eqb (l / 2) v) refl) }
  where
    go : (v : ℕ) → v < 1025 → (t : Bool) → eqb (l / 2) v ≡ t → get_or (set ms (l / 2) true) v false ≡ eqb (l / 2) v || defined ls v
    go v b true e = rw (e, ← eqb-true (l / 2) v e) (get_or-set_same ms (l / 2) true false (rw m.long h))
    go v b false e = rw (e, get_or-set_other ms (l / 2) v true false (λ q. eqb-false (l / 2) v e (sym q))) (m.says v b)

-- only variable 0 is marked where nothing is defined yet
pub marks_start : Marks (set (replicate 1025 false) 0 true) []
unfolding defined
marks_start = record { long = refl; says = go }
  where
    go : (v : ℕ) → v < 1025 → get_or (set (replicate 1025 false) 0 true) v false ≡ eqb v 0
    go zero b = refl
    go (suc v) b = rw (ne_eqb (suc v) 0 (λ q. omega arith)) (get_or-replicate 1024 v false false (omega arith))
