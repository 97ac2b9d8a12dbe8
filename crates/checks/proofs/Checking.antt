-- The soundness check, row by row.
use Prim.Native.Nat.{ℕ, suc, ◌+◌, ◌/◌, ◌<◌, ◌≤◌}
use mathlib.Core.Path.{◌≡◌, refl, sym, ap, ◌∙◌}
use mathlib.Core.Bool.{Bool, true, false}
use mathlib.Core.List.{List}
use native.Mathlib.Omega.{arith}
use native.Mathlib.Numerals.{add-one}
use lib.ListN.{length}
use Rattle.steps.specs.Rows.{Row, count}
use Rattle.steps.specs.Sound.{sound, fits}
use Rattle.steps.specs.Table.{Slices, row_at, rows_of}
use lib.Dec.{eqb, leb}
use borrow.Author.Tests.{leb-true}
use Rattle.steps.proofs.Bools.{both_true}
use Rattle.steps.proofs.Sound.{fits_true, sound_true, sound_part}
use Rattle.steps.proofs.Table.{rows_of_count, rows_of_part}
use Rattle.table.specs.Lent.{room, Lent}
use Rattle.table.specs.Index.{index_words, Followed, Apart, Indexed, enter, Linkable, Front}
use Rattle.table.specs.Memory.{reach}
use Rattle.table.specs.Calls.{in_range}
use Rattle.checks.specs.Checks.{Prepared, SoundChecked}
use Rattle.table.proofs.Buckets.{newest_none}
use Rattle.table.proofs.Links.{linkable, enter_front, enter_chains, front_refl, front_trans, behind_word}
use Rattle.table.proofs.Words.{reach_after, words_none}

-- the first i rows are sound and indexed
pub record Checking (N c i : ℕ) (s : Slices) (work₀ work : List ℕ) : Type 0 where
  pub upto : i ≤ c
  pub so_far : sound N (rows_of s i) ≡ true
  pub indexed : Indexed i s work
  pub front : Front (room s) work₀ work

module _ (N c : ℕ) (s : Slices) (work₀ : List ℕ) (p : Prepared c s work₀) where
  lent_part : (i : ℕ) → i ≤ c → Lent i s
  lent_part i h = record { used = omega (arith, p.lent.used); small = p.lent.small; thens = p.lent.thens; elses = p.lent.elses }

  pub checking_start : Checking N c 0 s work₀ work₀
  unfolding rows_of sound Apart Followed
  checking_start = record {
    upto = omega arith;
    so_far = refl;
    indexed = record {
      lent = lent_part 0 (omega arith);
      apart = tt;
      chains = λ h. record { heads = λ b l. ap (λ (w : ℕ). w / 65536) (p.zeroed.zeros b (omega (arith, reach_after (room s) (length work₀)))) ∙ sym (newest_none (index_words (room s) (length work₀)) b); follows = tt };
    };
    front = front_refl (room s) work₀;
  }

  module _ (i : ℕ) (work : List ℕ) (k : Checking N c i s work₀ work) where
    pub checking_end : c ≤ i → SoundChecked true N c s work
    checking_end h =
        let q : i ≡ c = omega (arith, k.upto) in
        record {
          is = rw q at k.so_far;
          live = λ z. record {
            sound = sound_true N (rows_of s c) (rw q at k.so_far);
            indexed = rw q at k.indexed;
            words = rw k.front.same_length (words_none N (index_words (room s) (length work₀)) (reach (room s) (length work₀)) (rows_of s c) work (λ j l b.
                behind_word (index_words (room s) (length work₀)) work₀ work k.front.rest j l ∙ p.zeroed.zeros j b));
          };
        }

    module _ (h : i < c) where
      -- the index has as many words as at first
      module _ (H : ℕ) (z : index_words (room s) (length work₀) ≡ H) where
        pub checking_words : index_words (room s) (length work) ≡ H
        checking_words = rw k.front.same_length z

        pub checking_linkable : Linkable H i work
        checking_linkable =
            rw (rows_of_count s i, checking_words) at (linkable (room s) work (rows_of s i) p.lent.small (omega (arith, rows_of_count s i, p.lent.used)) k.indexed.chains)

      -- an unsound row makes the table unsound
      not_sound : fits N (rows_of s i) (row_at s i) ≡ false → SoundChecked false N c s work
      unfolding rows_of sound
      not_sound f = record { is = go (sound N (rows_of s c)) refl; live = λ z. absurd (let y : ◌≡◌ {A = ℕ} 0 1 = cc in omega arith) }
        where
          go : (b : Bool) → sound N (rows_of s c) ≡ b → b ≡ false
          go false e = refl
          go true e =
              let a : sound N (rows_of s (suc i)) ≡ true = sound_part N (rows_of_part s (suc i) c (omega arith)) e in
              let b : sound N (rows_of s (suc i)) ≡ false = rw (k.so_far, f) in
              absurd (let y : ◌≡◌ {A = ℕ} 0 1 = cc in omega arith)

      one_more : (work' : List ℕ) → fits N (rows_of s i) (row_at s i) ≡ true → enter (index_words (room s) (length work)) i (row_at s i) work ≡ work' → Checking N c (i + 1) s work₀ work'
      unfolding rows_of sound Apart
      one_more work' f e =
          let small = p.lent.small in
          let free : count (rows_of s i) < room s = omega (arith, rows_of_count s i, p.lent.used) in
          record {
            upto = omega arith;
            so_far = rw (add-one i, k.so_far) f;
            indexed = record {
              lent = lent_part (i + 1) (omega arith);
              apart = rw (add-one i) (k.indexed.apart, (fits_true N (rows_of s i) (row_at s i) f).new);
              chains = rw (add-one i) (rw (rows_of_count s i, e) at (enter_chains (room s) work (rows_of s i) small free k.indexed.chains (row_at s i)));
            };
            front = front_trans k.front (rw (rows_of_count s i, e) at (enter_front (room s) work (rows_of s i) small free k.indexed.chains (row_at s i)));
          }

      -- the row, which was read as x
      module _ (x : Row) (e : row_at s i ≡ x) where
        pub checking_fails : fits N (rows_of s i) x ≡ false → SoundChecked false N c s work
        checking_fails f = not_sound (ap (fits N (rows_of s i)) e ∙ f)

        pub checking_again : (H : ℕ) → index_words (room s) (length work₀) ≡ H → (work' : List ℕ) → fits N (rows_of s i) x ≡ true → enter H i x work ≡ work' → Checking N c (i + 1) s work₀ work'
        checking_again H z work' f q = one_more work' (ap (fits N (rows_of s i)) e ∙ f) (rw (checking_words H z, e) q)

-- what is in range
module _ (N c : ℕ) (s : Slices) (e : in_range N c s ≡ true) where
  ranges : (leb N 1024 ≡ true) × (leb (room s) 8192 ≡ true) × (eqb (length s.thens) (room s) ≡ true) × (eqb (length s.elses) (room s) ≡ true) × (leb c (room s) ≡ true)
  unfolding in_range
  ranges =
      let e₄ = both_true _ (leb c (room s)) e in
      let e₃ = both_true _ (eqb (length s.elses) (room s)) e₄.0 in
      let e₂ = both_true _ (eqb (length s.thens) (room s)) e₃.0 in
      let e₁ = both_true (leb N 1024) (leb (room s) 8192) e₂.0 in
      (e₁.0, e₁.1, e₂.1, e₃.1, e₄.1)

  pub in_range_vars : N ≤ 1024
  in_range_vars = leb-true N 1024 ranges.0
