-- Writing the table of what is left of a system, in the words behind the remembered results.
use Prim.Native.Nat.{ℕ, suc, ◌+◌, ◌-◌, ◌<◌, ◌≤◌}
use mathlib.Core.Path.{◌≡◌, refl, ap, subst, ◌∙◌}
use mathlib.Core.List.{List}
use native.Mathlib.Omega.{arith}
use native.Mathlib.Decide.{ℕ_discrete}
use native.Mathlib.Numerals.{add-one}
use lib.ListN.{length, get_or, set, length-set}
use lib.Seq.{get_or-set_same, get_or-set_other}
use Rattle.steps.specs.Rows.{Rows, next}
use Rattle.steps.specs.Table.{Slices, rows_of}
use Rattle.steps.proofs.Table.{rows_of_next, rows_of_count}
use Rattle.table.specs.Lent.{room, Numbered}
use Rattle.table.specs.Index.{index_words}
use Rattle.table.specs.Memory.{reach, Live}
use Rattle.table.proofs.Buckets.{index_room}
use Rattle.table.proofs.Links.{chains_same}
use Rattle.table.proofs.Words.{reach_after, reach_fits}
use Rattle.leads.specs.Inner.{Skips, stays, Past, no_lead, at_lead, System}
use Rattle.leads.proofs.Skipping.{Left, skips_left, skips_same, skips_lead}

-- room for the table behind the remembered results, as the code tests it
module _ (R L from : ℕ) (z : reach R L ≡ from) where
  pub from_fits : from ≤ L
  from_fits = omega (arith, reach_fits R L)

  module _ (N : ℕ) where
    pub table_fits : N ≤ L - from → from + N ≤ L
    table_fits h = omega (arith, from_fits)

-- words behind the memory may be written
module _ (N c : ℕ) (s : Slices) (work : List ℕ) (d : Live N c s work) where
  pub live_behind : (i x : ℕ) → reach (room s) (length work) ≤ i → Live N c s (set work i x)
  live_behind i x h =
      let e : length (set work i x) ≡ length work = length-set work i x in
      let same : (j : ℕ) → j < reach (room s) (length work) → get_or (set work i x) j 0 ≡ get_or work j 0 = λ j l. get_or-set_other work i j x 0 (λ z. omega arith) in
      record {
        sound = d.sound;
        indexed = record {
          lent = d.indexed.lent;
          apart = d.indexed.apart;
          chains = rw e (λ p. chains_same (index_words (room s) (length work)) (rows_of s c) work (set work i x)
              (omega (arith, rows_of_count s c, index_room (room s) (length work) d.indexed.lent.small p, d.indexed.lent.used))
              (λ j l. same j (omega (arith, reach_after (room s) (length work)))) (d.indexed.chains p));
        };
        words = rw e (record { each = λ j op f g l n p p' lf lg q. rw (same j n) (d.words.each j op f g l n p p' lf lg (rw (same j n) at q)) });
      }

-- the table so far
pub record Filling (N c : ℕ) (s : Slices) (work₀ work : List ℕ) (f g v : ℕ) : Type 0 where
  pub live : Live N c s work
  pub same_length : length work ≡ length work₀
  pub upto : v ≤ N
  pub left : Skips N (rows_of s c) v f g
  pub each : (u : ℕ) → u < v → Skips N (rows_of s c) u f (get_or work (reach (room s) (length work₀) + u) 0)

module _ (N c : ℕ) (s : Slices) (work₀ : List ℕ) (f : ℕ) (d : Live N c s work₀) (y : System c f) where
  abbrev R : Rows
  R = rows_of s c

  used : f < next R
  used = omega (arith, rows_of_next s c, y.used)

  pub fill_starts : Filling N c s work₀ work₀ f f 0
  fill_starts = record { live = d; same_length = refl; upto = omega arith; left = stays f (omega arith); each = λ u l. absurd (omega arith) }

  module _ (work : List ℕ) (g v : ℕ) (i : Filling N c s work₀ work f g v) where
    rest : Left N R d.sound v i.upto f g
    rest = skips_left N R d.sound v i.upto f g used y.not_0 i.left

    pub fill_asks : Numbered c s g
    fill_asks = record { lent = d.indexed.lent; used = omega (arith, rows_of_next s c, rest.used) }

    module _ (room_is : reach (room s) (length work₀) + N ≤ length work₀) (h : v < N) where
      fill_fits : reach (room s) (length work₀) + v < length work
      fill_fits = omega (arith, i.same_length)

      go_on : (g' : ℕ) → Past N R v g g' → Skips N R (suc v) f g'
      go_on g' (no_lead l) = skips_same N R d.sound v h f g l i.left
      go_on g' (at_lead l) = skips_lead N R d.sound v h f g used l i.left

      fill_next : (g' : ℕ) → Past N (rows_of s c) v g g' → Filling N c s work₀ (set work (reach (room s) (length work₀) + v) g) f g' (v + 1)
      fill_next g' p = record {
        live = live_behind N c s work i.live (reach (room s) (length work₀) + v) g (omega (arith, ap (reach (room s)) i.same_length));
        same_length = length-set work (reach (room s) (length work₀) + v) g ∙ i.same_length;
        upto = omega arith;
        left = rw (add-one v) (go_on g' p);
        each = λ u l. at u l (ℕ_discrete u v);
      }
        where
          at : (u : ℕ) → u < v + 1 → Dec (u ≡ v) → Skips N R u f (get_or (set work (reach (room s) (length work₀) + v) g) (reach (room s) (length work₀) + u) 0)
          at u l (yes e) = rw (e, get_or-set_same work (reach (room s) (length work₀) + v) g 0 fill_fits) i.left
          at u l (no e) = rw (get_or-set_other work (reach (room s) (length work₀) + v) (reach (room s) (length work₀) + u) g 0 (λ z. omega arith)) (i.each u (omega arith))

    module _ (from : ℕ) (z : reach (room s) (length work₀) ≡ from) (room_is : from + N ≤ length work₀) (h : v < N) where
      pub fill_goes_on : (g' : ℕ) → Past N (rows_of s c) v g g' → Filling N c s work₀ (set work (from + v) g) f g' (v + 1)
      fill_goes_on g' p = subst (λ (x : ℕ). Filling N c s work₀ (set work (x + v) g) f g' (v + 1)) z (fill_next (omega arith) h g' p)
