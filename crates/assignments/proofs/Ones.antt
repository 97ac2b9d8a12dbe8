-- The walk that finds a one, and what the bytes then mean.
use Prim.Native.Nat.{ℕ, zero, suc, ◌+◌, ◌-◌, ◌<◌, ◌≤◌}
use mathlib.Core.Path.{◌≡◌, refl, sym, ap, subst, fun_ext, ◌∙◌}
use mathlib.Core.Bool.{Bool, true, false, ◌||◌}
use mathlib.Core.List.{List, [], ◌∷◌, ◌++◌}
use native.Mathlib.Omega.{arith}
use native.Mathlib.Decide.{ℕ_discrete, dec_lt}
use lib.Dec.{eqb}
use lib.ListN.{length, get_or, set, length-set, length-append, get_or-eq_default, get_or-append}
use lib.Seq.{get_or-set_same, get_or-set_other, get_or_at, ext_get_or}
use Rattle.steps.specs.Rows.{row_of, Rows, next, Assignment, value, row, bit}
use Rattle.steps.specs.Sound.{Fits, Sound}
use Rattle.steps.specs.Table.{Slices, row_at, rows_of}
use Rattle.steps.specs.One.{put, one, NotGreater}
use Rattle.steps.specs.System.{occurs}
use Rattle.steps.proofs.Bools.{or_true, or_false}
use Rattle.steps.proofs.Put.{put_same, put_other}
use Rattle.steps.proofs.One.{one_row, one_const}
use Rattle.steps.proofs.Occurs.{occurs_below, one_absent}
use Rattle.steps.proofs.Theorems.{one_is_one, one_is_least}
use Rattle.steps.proofs.Sound.{sound_below}
use Rattle.steps.proofs.Table.{rows_of_next, rows_of_number, rows_of_part}
use Rattle.assignments.specs.Bytes.{assigned, bytes_of}
use Rattle.assignments.specs.Inner.{Lasting}

pub bytes_length : (n : ℕ) (a : Assignment) → length (bytes_of n a) ≡ n
unfolding bytes_of
bytes_length zero a = refl
bytes_length (suc n) a = length-append (bytes_of n a) (bit (a n) ∷ []) ∙ rw (bytes_length n a) (omega arith)

pub bytes_at : (n : ℕ) (a : Assignment) (i : ℕ) → i < n → get_or (bytes_of n a) i 0 ≡ bit (a i)
unfolding bytes_of
bytes_at zero a i h = absurd (omega arith)
bytes_at (suc n) a i h = go (ℕ_discrete i n) (bytes_at n a i)
  where
    go : Dec (i ≡ n) → (i < n → get_or (bytes_of n a) i 0 ≡ bit (a i)) → get_or (bytes_of n a ++ bit (a n) ∷ []) i 0 ≡ bit (a i)
    go (yes q) ih = rw q (get_or_at (bytes_of n a) (bit (a n)) [] 0 n (bytes_length n a))
    go (no q) ih = get_or-append (bytes_of n a) (bit (a n) ∷ []) 0 i (omega (arith, bytes_length n a)) ∙ ih (omega arith)

-- what is 1 in the one of f is 1 in the bytes already, or in the one of k, which is to be followed
pub record Following (c : ℕ) (s : Slices) (f k : ℕ) (bytes₀ bytes : List ℕ) : Type 0 where
  pub used : k < c + 2
  pub same_length : length bytes ≡ length bytes₀
  pub each : (i : ℕ) → i < length bytes₀ → (get_or bytes i 0 < 2) × (one (rows_of s c) f i ≡ eqb (get_or bytes i 0) 1 || one (rows_of s c) k i)

module _ (c : ℕ) (s : Slices) (f k : ℕ) (bytes₀ bytes : List ℕ) (l : Lasting c s bytes₀) (d : Following c s f k bytes₀ bytes) where
  abbrev N : ℕ
  N = length bytes₀

  abbrev R : Rows
  R = rows_of s c

  module _ (g : 2 ≤ k) where
    module _ (v t e : ℕ) (x : row_at s (k - 2) ≡ row_of v t e) where
      is : row N R k ≡ row_of v t e
      is = rows_of_number N s c k g d.used ∙ x

      parts : Fits N (rows_of s (k - 2)) (row_of v t e)
      unfolding rows_of Sound
      parts = rw x at (sound_below N (rows_of_part s (suc (k - 2)) c (omega (arith, d.used))) l.sound).1

      pub follow_var : v < length bytes
      follow_var = omega (arith, parts.var_below, d.same_length)

      then_less : t < k
      then_less = omega (arith, parts.then_used, rows_of_next s (k - 2))

      else_less : e < k
      else_less = omega (arith, parts.else_used, rows_of_next s (k - 2))

      pub follow_then_less : t < k
      follow_then_less = then_less

      pub follow_else_less : e < k
      follow_else_less = else_less

      goes : ((row N R k).else_part ≡ 0 → one R k ≡ put (one R (row N R k).then_part) (row N R k).var true) × (((row N R k).else_part ≡ 0 → ⊥) → one R k ≡ one R (row N R k).else_part)
      goes = one_row N R l.sound k (omega (arith, rows_of_next s c, d.used)) g

      pub follow_else : (e ≡ 0 → ⊥) → Following c s f e bytes₀ bytes
      follow_else h =
          let q : one R k ≡ one R e = rw is at goes.1 h in
          record { used = omega (arith, else_less, d.used); same_length = d.same_length; each = λ i u. let z = d.each i u in (z.0, z.1 ∙ ap (λ (o : Assignment). eqb (get_or bytes i 0) 1 || o i) q) }

      pub follow_then : e ≡ 0 → Following c s f t bytes₀ (set bytes v 1)
      follow_then h =
          let q : one R k ≡ put (one R t) v true = rw is at goes.0 h in
          record { used = omega (arith, then_less, d.used); same_length = length-set bytes v 1 ∙ d.same_length; each = λ i u. at i u q (ℕ_discrete i v) }
        where
          at : (i : ℕ) → i < N → one R k ≡ put (one R t) v true → Dec (i ≡ v) → (get_or (set bytes v 1) i 0 < 2) × (one R f i ≡ eqb (get_or (set bytes v 1) i 0) 1 || one R t i)
          at i u q (yes z) =
              let w : get_or (set bytes v 1) i 0 ≡ 1 = rw z (get_or-set_same bytes v 1 0 follow_var) in
              let p : put (one R t) v true i ≡ true = rw z (put_same (one R t) v true) in
              let r : eqb (get_or (set bytes v 1) i 0) 1 || one R t i ≡ true = ap (λ (n : ℕ). eqb n 1 || one R t i) w in
              (omega arith, (d.each i u).1 ∙ ap (λ (o : Assignment). eqb (get_or bytes i 0) 1 || o i) q ∙ ap (λ (b : Bool). eqb (get_or bytes i 0) 1 || b) p ∙ or_true (eqb (get_or bytes i 0) 1) ∙ sym r)
          at i u q (no z) =
              let w : get_or (set bytes v 1) i 0 ≡ get_or bytes i 0 = get_or-set_other bytes v i 1 0 z in
              (rw w (d.each i u).0, (d.each i u).1 ∙ ap (λ (o : Assignment). eqb (get_or bytes i 0) 1 || o i) q ∙ rw (put_other (one R t) v true i z, w))

  byte_is : (b : ℕ) → b < 2 → b ≡ bit (eqb b 1)
  byte_is zero h = refl
  byte_is (suc zero) h = refl
  byte_is (suc (suc b)) h = absurd (omega arith)

  pub follow_end : k < 2 → bytes ≡ bytes_of (length bytes₀) (one (rows_of s c) f)
  follow_end h = ext_get_or 0 bytes (bytes_of N (one R f)) (d.same_length ∙ sym (bytes_length N (one R f))) (λ i u.
      let w : i < N = omega (arith, d.same_length) in
      let z = d.each i w in
      let q : one R f i ≡ eqb (get_or bytes i 0) 1 = z.1 ∙ rw (one_const N R k h i) (or_false (eqb (get_or bytes i 0) 1)) in
      byte_is (get_or bytes i 0) z.0 ∙ ap bit (sym q) ∙ sym (bytes_at N (one R f) i w))

-- the bytes are the one that was found
module _ (N c : ℕ) (s : Slices) (f : ℕ) (w : Sound N (rows_of s c)) (u : f < c + 2) where
  abbrev S : Rows
  S = rows_of s c

  bit_back : (b : Bool) → eqb (bit b) 1 ≡ b
  bit_back true = refl
  bit_back false = refl

  unmet : (v : ℕ) → N ≤ v → one S f v ≡ false
  unmet v h = one_absent N S w f (omega (arith, rows_of_next s c)) v (go (occurs v S f) refl)
    where
      go : (b : Bool) → occurs v S f ≡ b → b ≡ false
      go false e = refl
      go true e = absurd (let z = occurs_below N S w f v e in omega arith)

  pub bytes_mean : assigned (bytes_of N (one (rows_of s c) f)) ≡ one (rows_of s c) f
  bytes_mean = fun_ext (λ v. go v (dec_lt v N))
    where
      go : (v : ℕ) → Dec (v < N) → assigned (bytes_of N (one S f)) v ≡ one S f v
      go v (yes h) = rw (bytes_at N (one S f) v h) (bit_back (one S f v))
      go v (no h) = rw (get_or-eq_default (bytes_of N (one S f)) 0 {n = v} (omega (arith, bytes_length N (one S f)))) (sym (unmet v (omega arith)))

  pub one_means : (f ≡ 0 → ⊥) → (value (assigned (bytes_of N (one (rows_of s c) f))) (rows_of s c) f ≡ true)
      × ((a : Assignment) → value a (rows_of s c) f ≡ true → NotGreater (assigned (bytes_of N (one (rows_of s c) f))) a)
  one_means h =
      let used : f < next S = omega (arith, rows_of_next s c) in
      subst (λ (b : Assignment). (value b S f ≡ true) × ((a : Assignment) → value a S f ≡ true → NotGreater b a)) (sym bytes_mean) (one_is_one N S w f used h, one_is_least N S w f used)
