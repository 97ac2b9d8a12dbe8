-- What Make comes to, with the index.
use Prim.Native.Nat.{ℕ, zero, suc, ◌<◌, ◌≤◌}
use mathlib.Core.Path.{◌≡◌, ap, subst}
use mathlib.Core.List.{List}
use native.Mathlib.Omega.{arith}
use lib.ListN.{length}
use Rattle.steps.specs.Rows.{row_of, Rows, ◌▹◌, count, find}
use Rattle.steps.specs.Table.{Slices, slices, rows_of}
use Rattle.steps.specs.Steps.{Answer, Steps, answer, append, make}
use Rattle.steps.proofs.Ok.{make_0, make_found, make_new}
use Rattle.steps.proofs.Table.{rows_of_count}
use Rattle.table.specs.declared.Row.{Row}
use Rattle.table.specs.Made.{Made}
use Rattle.table.specs.Made.{At, Full}
use Rattle.table.specs.Index.{index_words, Chains, Apart, Indexed, enter, Linkable, Front}
use Rattle.table.specs.Inner.{Taken, IndexOf, Entered}
use Rattle.table.proofs.Links.{linkable, enter_front, enter_chains, front_refl}
use Rattle.table.proofs.Takes.{taken_by, taken_nothing, taken_lent, taken_rows, append_full}

pub entered_by : {m n : Steps} {r : Made} {c : ℕ} {s s' : Slices} {work work' : List ℕ} → m (rows_of s c) ≡ n (rows_of s c) → Entered n r c s s' work work' → Entered m r c s s' work work'
entered_by p d = record { taken = taken_by p d.taken; index = d.index; front = d.front }

pub entered_nothing : {m : Steps} {k : Row} {c : ℕ} {s : Slices} {work : List ℕ} → Indexed c s work → m (rows_of s c) ≡ answer k.0 (rows_of s c) → Entered m (At k c) c s s work work
entered_nothing d p = record { taken = taken_nothing d.lent.used p; index = d; front = front_refl _ _ }

-- the three ways of Make
module _ (v t e : ℕ) (R : Rows) where
  pub make_else : t ≡ 0 → make v t e R ≡ answer e R
  make_else z = rw z (make_0 0 v e R)

  pub make_at : (k : ℕ) → (t ≡ 0 → ⊥) → find R (row_of v t e) ≡ k → 0 < k → make v t e R ≡ answer k R
  make_at zero z q p = absurd (omega arith)
  make_at (suc k) z q p = make_found 0 v t e k R z q

  pub make_append : (t ≡ 0 → ⊥) → find R (row_of v t e) ≡ 0 → make v t e R ≡ append (row_of v t e) R
  make_append z q = make_new 0 v t e R z q

module _ (vs ts es : List ℕ) (c v t e : ℕ) (work : List ℕ) (d : Indexed c (slices vs ts es) work) where
  abbrev s : Slices
  s = slices vs ts es

  abbrev R : Rows
  R = rows_of s c

  pub add_full : length vs ≤ c → Entered (append (row_of v t e)) Full c (slices vs ts es) (slices vs ts es) work work
  add_full h = record { taken = append_full vs ts es c v t e d.lent h; index = tt; front = front_refl _ _ }

  module _ (h : c < length vs) (H : ℕ) (z : index_words (length vs) (length work) ≡ H) where
    free : count R < length vs
    free = omega (arith, rows_of_count s c)

    pub add_linkable : Linkable H c work
    add_linkable = rw (rows_of_count s c, z) at (linkable (length vs) work R d.lent.small free d.chains)

    module _ (work' : List ℕ) (q : enter H c (row_of v t e) work ≡ work') where
      pub added_front : Front (length vs) work work'
      added_front = rw (rows_of_count s c, z, q) at (enter_front (length vs) work R d.lent.small free d.chains (row_of v t e))

      pub added_chains : 0 < index_words (length vs) (length work') → Chains (index_words (length vs) (length work')) (rows_of (slices vs ts es) c ▹ row_of v t e) work'
      added_chains = rw (rows_of_count s c, z, q) at (enter_chains (length vs) work R d.lent.small free d.chains (row_of v t e))

      added_index : (r : Made) (s' : Slices) → find R (row_of v t e) ≡ 0 → Taken (append (row_of v t e)) r c s s' → IndexOf r s' work'
      unfolding Apart
      added_index (At k n) s' new g =
          let rows : R ▹ row_of v t e ≡ rows_of s' n = ap (λ (z : Answer). z.rows) (taken_rows g) in
          record {
            lent = taken_lent d.lent g;
            apart = subst Apart rows (d.apart, new);
            chains = rw (g.vars, ← rows) added_chains;
          }
      added_index Full s' new g = tt

      pub add_room : (r : Made) (s' : Slices) → find (rows_of (slices vs ts es) c) (row_of v t e) ≡ 0 → Taken (append (row_of v t e)) r c (slices vs ts es) s'
          → Entered (append (row_of v t e)) r c (slices vs ts es) s' work work'
      add_room r s' new g = record { taken = g; index = added_index r s' new g; front = added_front }
