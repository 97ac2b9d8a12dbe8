-- The table of what is left of a system, as it is read and kept.
use Prim.Native.Nat.{ℕ, ◌+◌, ◌<◌, ◌≤◌}
use mathlib.Core.Path.{◌≡◌}
use mathlib.Core.List.{List}
use native.Mathlib.Omega.{arith}
use lib.ListN.{length, get_or}
use Rattle.steps.specs.Rows.{row_of, Rows, next, row, root}
use Rattle.steps.specs.Table.{Slices, rows_of}
use Rattle.steps.proofs.Roots.{node_below}
use Rattle.steps.proofs.Rows.{◌≼◌, row_keeps}
use Rattle.steps.proofs.Table.{rows_of_next}
use Rattle.table.specs.Lent.{room}
use Rattle.table.specs.Memory.{reach, Live, Behind}
use Rattle.table.proofs.Links.{behind_word}
use Rattle.leads.specs.Inner.{Skips, stays, Reducing}
use Rattle.leads.proofs.Skipping.{skips_left, skips_keeps, skips_inside, skips_through}

-- the table as it is read, and kept
module _ (N c : ℕ) (s : Slices) (work : List ℕ) (f : ℕ) (d : Reducing N c s work f) where
  abbrev R : Rows
  R = rows_of s c

  used : f < next R
  used = omega (arith, rows_of_next s c, d.system.used)

  module _ (v : ℕ) (h : v < N) where
    pub lead_stays : (u t e : ℕ) → row N (rows_of s c) f ≡ row_of u t e → v ≤ u → Skips N (rows_of s c) v f f
    lead_stays u t e q l = stays f (rw (root, q) l)

    module _ (u t e : ℕ) (q : row N (rows_of s c) f ≡ row_of u t e) (l : u < v) (from : ℕ) (z : reach (room s) (length work) ≡ from) (b : from + N ≤ length work) where
      lead_read : Skips N (rows_of s c) v f (get_or work (from + v) 0)
      lead_read = rw z at (d.table.each (omega arith) v (rw (root, q) l) h)

      pub lead_small : get_or work (from + v) 0 < 65536
      lead_small =
          let g = (skips_left N R d.live.sound v (omega arith) f (get_or work (from + v) 0) used d.system.not_0 lead_read).used in
          omega (arith, rows_of_next s c, g, d.live.indexed.lent.used, d.live.indexed.lent.small)

    -- what is left of f is a system with its table
    pub left_reduces : (g : ℕ) → Skips N (rows_of s c) v f g → Reducing N c s work g
    left_reduces g k =
        let l = skips_left N R d.live.sound v (omega arith) f g used d.system.not_0 k in
        record {
          live = d.live;
          system = record { used = omega (arith, rows_of_next s c, l.used); not_0 = l.not_0 };
          table = record { each = λ b u p p'. skips_through N R v u (omega (arith, l.reached)) f g _ k (d.table.each b u (omega (arith, l.behind)) p') };
        }

  -- and so are the other equations of f
  pub others_reduce : root N (rows_of s c) f < N → Reducing N c s work (row N (rows_of s c) f).then_part
  others_reduce h =
      let n = node_below N d.live.sound f used h in
      record {
        live = d.live;
        system = record { used = omega (arith, rows_of_next s c, n.cut.then_used); not_0 = n.then_not_0 };
        table = record { each = λ b u p p'. skips_inside N R u f _ (omega (arith, n.cut.then_above)) (d.table.each b u (omega (arith, n.cut.then_above)) p') };
      }

  -- steps keep the system and its table
  pub reducing_keeps : (n : ℕ) (s' : Slices) (work' : List ℕ) → rows_of s c ≼ rows_of s' n → f < n + 2 → room s' ≡ room s → Behind (room s) work work' → Live N n s' work' → Reducing N n s' work' f
  reducing_keeps n s' work' g u e b l = record {
    live = l;
    system = record { used = u; not_0 = d.system.not_0 };
    table = record {
      each = rw (e, b.same_length) (λ t v p p'.
          rw (behind_word (reach (room s) (length work)) work work' b.rest (reach (room s) (length work) + v) (omega arith))
          (skips_keeps N R d.live.sound v (omega arith) (rows_of s' n) g f _ used (d.table.each t v (rw (root, ← row_keeps N g f used) p) p')));
    };
  }
