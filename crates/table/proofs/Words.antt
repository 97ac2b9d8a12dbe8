-- Remembered results: what stands in the words behind the index.
use Prim.Native.Nat.{ℕ, zero, suc, ◌+◌, ◌*◌, ◌-◌, ◌/◌, ◌%◌, ◌<◌, ◌≤◌}
use mathlib.Core.Path.{◌≡◌, refl, sym, ap, ◌∙◌}
use mathlib.Core.Bool.{Bool, true, false}
use mathlib.Core.List.{List, [], ◌∷◌}
use native.Mathlib.Omega.{arith}
use native.Mathlib.Decide.{ℕ_discrete}
use lib.Dec.{eqb, ltb, leb}
use lib.ListN.{length, get_or, set, length-set}
use lib.Seq.{get_or-set_same, get_or-set_other, drop-set-lt}
use borrow.Author.Tests.{ne_eqb, eqb-true, eqb-false, ltb-true, ltb-false}
use Rattle.steps.specs.Rows.{Rows}
use Rattle.steps.specs.Sound.{Sound}
use Rattle.steps.specs.Steps.{Steps, answer, sum, product, normal}
use Rattle.steps.specs.Table.{Slices, rows_of}
use Rattle.steps.proofs.Rows.{◌≼◌, next_grows}
use Rattle.steps.proofs.Table.{rows_of_count}
use Rattle.steps.proofs.Theorems.{Right, remembered, sum_right, product_right, normal_right}
use Rattle.table.specs.declared.Row.{Row}
use Rattle.table.specs.Made.{At}
use Rattle.table.specs.Lent.{room}
use Rattle.table.specs.Index.{index_size, index_words, Front}
use Rattle.table.specs.Memory.{memory_size, Size, large, middle, least, reach, steps_of, key_of, Remembered, Words, Live, Place, Stands, Behind}
use Rattle.table.specs.Inner.{Entered}
use Rattle.table.proofs.Buckets.{index_room}
use Rattle.table.proofs.Links.{pack_low, behind_word, chains_same}
use Rattle.table.proofs.Takes.{behind_more}

-- the sizes
pub data MemorySized (free : ℕ) : ℕ → Type 0 where
  no_memory : MemorySized free 0
  memory : (m : ℕ) → Size m → m ≤ free → MemorySized free m

pub memory_sized : (R free : ℕ) → MemorySized free (memory_size R free)
unfolding memory_size
memory_sized R free = go (ltb free 128) refl (ltb free 2048) refl (leb R 64) refl (ltb free 16384) refl (leb R 1024) refl
  where
    go : (a : Bool) → ltb free 128 ≡ a → (b : Bool) → ltb free 2048 ≡ b → (c : Bool) → leb R 64 ≡ c → (d : Bool) → ltb free 16384 ≡ d → (e : Bool) → leb R 1024 ≡ e
        → MemorySized free (memory_size R free)
    go true x b y c z d u e v = rw (x, memory_size) no_memory
    go false x true y c z d u e v = rw (x, y, memory_size) (memory 128 least (ltb-false free 128 x))
    go false x false y true z d u e v = rw (x, y, z, memory_size) (memory 128 least (ltb-false free 128 x))
    go false x false y false z true u e v = rw (x, y, z, u, memory_size) (memory 2048 middle (ltb-false free 2048 y))
    go false x false y false z false u true v = rw (x, y, z, u, v, memory_size) (memory 2048 middle (ltb-false free 2048 y))
    go false x false y false z false u false v = rw (x, y, z, u, v, memory_size) (memory 16384 large (ltb-false free 16384 u))

pub memory_fits : {free m : ℕ} → MemorySized free m → m ≤ free
memory_fits no_memory = omega arith
memory_fits (memory m z h) = h

pub memory_some : {free m : ℕ} → MemorySized free m → (m ≡ 0 → ⊥) → Size m
memory_some no_memory h = absurd (h refl)
memory_some (memory m z h) g = z

pub index_fits : (R L : ℕ) → index_words R L ≤ L
unfolding index_words
index_fits R L = go (ltb L (index_size R)) refl
  where
    go : (b : Bool) → ltb L (index_size R) ≡ b → index_words R L ≤ L
    go true e = rw (e, index_words) (omega arith)
    go false e = rw (e, index_words) (ltb-false L (index_size R) e)

pub reach_fits : (R L : ℕ) → reach R L ≤ L
unfolding reach
reach_fits R L = omega (arith, memory_fits (memory_sized R (L - index_words R L)), index_fits R L)

pub reach_after : (R L : ℕ) → index_words R L ≤ reach R L
unfolding reach
reach_after R L = omega arith

-- the places of the memory, as the code finds them
module _ (R L h m : ℕ) (eh : index_words R L ≡ h) (em : memory_size R (L - h) ≡ m) where
  pub reach_is : reach R L ≡ h + m
  unfolding reach
  reach_is = rw (eh, em)

  sized_here : MemorySized (L - h) m
  sized_here = rw em at (memory_sized R (L - h))

  pub place_size : (m ≡ 0 → ⊥) → Size m
  place_size z = memory_some sized_here z

  pub place_fits : h + m ≤ L
  place_fits = omega (arith, memory_fits sized_here, rw eh at (index_fits R L))

  pub place_at : (i : ℕ) → i < m → Place R L (h + i)
  place_at i l = record { inside = λ b. (omega (arith, eh), omega (arith, reach_is)) }

-- the operations
module _ (N : ℕ) where
  pub steps_sum : (f g : ℕ) → steps_of N 1 f g ≡ sum N f g
  unfolding steps_of
  steps_sum f g = refl

  pub steps_product : (f g : ℕ) → steps_of N 2 f g ≡ product N f g
  unfolding steps_of
  steps_product f g = refl

  pub steps_normal : (op f g : ℕ) → (op ≡ 1 → ⊥) → (op ≡ 2 → ⊥) → steps_of N op f g ≡ normal N f g
  unfolding steps_of
  steps_normal op f g h k = rw (ne_eqb op 1 h, ne_eqb op 2 k, steps_of)

  -- a remembered result stays right as rows are appended
  pub remembered_grows : (R S : Rows) (op f g k : ℕ) → Sound N R → 0 < op → op < 4 → R ≼ S → Remembered N R op f g k → Remembered N S op f g k
  remembered_grows R S op f g k s o o' h d = record {
    left = omega (arith, d.left, next_grows h);
    right = omega (arith, d.right, next_grows h);
    system = d.system;
    is = go (eqb op 1) refl (eqb op 2) refl;
  }
    where
      again : (m : Steps) {p : (ℕ → Bool) → Bool} → steps_of N op f g ≡ m → Right N m R 0 p → steps_of N op f g S ≡ answer k S
      again m e r = ap (λ (n : Steps). n S) e ∙ remembered N r k (ap (λ (n : Steps). n R) (sym e) ∙ d.is) S h

      go : (a : Bool) → eqb op 1 ≡ a → (b : Bool) → eqb op 2 ≡ b → steps_of N op f g S ≡ answer k S
      go true x b y = let q = eqb-true op 1 x in again (sum N f g) (rw q (steps_sum f g)) (sum_right N R s f g d.left d.right 0 (omega arith) (omega arith))
      go false x true y = let q = eqb-true op 2 y in again (product N f g) (rw q (steps_product f g)) (product_right N R s f g d.left d.right 0 (omega arith) (omega arith))
      go false x false y =
          let p = eqb-false op 1 x in
          let q = eqb-false op 2 y in
          again (normal N f g) (steps_normal op f g p q) (normal_right N R s f g d.left d.right 0 (omega arith) (omega arith) (d.system (omega arith)))

-- a write behind the slice writes nothing
pub set_nowhere : (xs : List ℕ) (i w : ℕ) → length xs ≤ i → set xs i w ≡ xs
set_nowhere [] i w h = refl
set_nowhere (x ∷ xs) zero w h = absurd (omega arith)
set_nowhere (x ∷ xs) (suc i) w h = ap (λ (r : List ℕ). x ∷ r) (set_nowhere xs i w (omega arith))

-- a key says what it is of
any_key : (o f g o' f' g' r : ℕ) → f < 65536 → g < 65536 → f' < 65536 → g' < 65536 → r < 65536 → (key_of o f g * 65536 + r) / 65536 ≡ key_of o' f' g' → (o ≡ o') × (f ≡ f') × (g ≡ g')
any_key o f g o' f' g' r a b c d e q = (omega arith, omega arith, omega arith)

-- zeros remember nothing
pub words_none : (N from to : ℕ) (R : Rows) (work : List ℕ) → ((i : ℕ) → from ≤ i → i < to → get_or work i 0 ≡ 0) → Words N from to R work
words_none N from to R work z = record { each = λ i op f g l n p o lf lg q. absurd (omega (arith, q, ap (λ (x : ℕ). x / 65536) (z i l n))) }

module _ (N c : ℕ) (s : Slices) (work : List ℕ) (d : Live N c s work) where
  abbrev R : Rows
  R = rows_of s c

  -- numbers in use fit a word's part
  pub live_small : (k : ℕ) → k < c + 2 → k < 65536
  live_small k h = omega (arith, d.indexed.lent.used, d.indexed.lent.small)

  -- what the memory has of a key is its result
  pub live_recalls : (op f g k i : ℕ) → 0 < op → op < 4 → f < c + 2 → g < c + 2 → Place (room s) (length work) i → Stands work i (key_of op f g) k
      → steps_of N op f g (rows_of s c) ≡ answer k (rows_of s c)
  live_recalls op f g k i o o' uf ug p w =
      let b = p.inside w.there in
      (d.words.each i op f g b.0 b.1 o o' (live_small f uf) (live_small g ug) w.has_key).is ∙ ap (λ (n : ℕ). answer n R) w.has_result

  -- and a result that was written is remembered
  module _ (op f g k : ℕ) (uf : f < c + 2) (ug : g < c + 2) (uk : k < 65536) (r : Remembered N (rows_of s c) op f g k) where
    words_set : (at : ℕ) → index_words (room s) (length work) ≤ at → at < reach (room s) (length work)
        → Words N (index_words (room s) (length work)) (reach (room s) (length work)) (rows_of s c) (set work at (key_of op f g * 65536 + k))
    words_set at h b = record { each = all }
      where
        w : ℕ
        w = key_of op f g * 65536 + k

        all : (i o x y : ℕ) → index_words (room s) (length work) ≤ i → i < reach (room s) (length work) → 0 < o → o < 4 → x < 65536 → y < 65536
            → get_or (set work at w) i 0 / 65536 ≡ key_of o x y → Remembered N (rows_of s c) o x y (get_or (set work at w) i 0 % 65536)
        all i o x y l n p p' lx ly q = go (ℕ_discrete i at)
          where
            go : Dec (i ≡ at) → Remembered N (rows_of s c) o x y (get_or (set work at w) i 0 % 65536)
            go (yes e) =
                let v : get_or (set work at w) i 0 ≡ w = rw e (get_or-set_same work at w 0 (omega (arith, reach_fits (room s) (length work)))) in
                let j = any_key op f g o x y k (live_small f uf) (live_small g ug) lx ly uk (sym (ap (λ (z : ℕ). z / 65536) v) ∙ q) in
                rw (v, pack_low (key_of op f g) k uk, ← j.0, ← j.1, ← j.2) r
            go (no e) =
                let v : get_or (set work at w) i 0 ≡ get_or work i 0 = get_or-set_other work at i w 0 e in
                rw v (d.words.each i o x y l n p p' lx ly (sym (ap (λ (z : ℕ). z / 65536) v) ∙ q))

    live_set : (at : ℕ) → index_words (room s) (length work) ≤ at → at < reach (room s) (length work) → Live N c s (set work at (key_of op f g * 65536 + k))
    live_set at h b =
        let w = key_of op f g * 65536 + k in
        let e : length (set work at w) ≡ length work = length-set work at w in
        record {
          sound = d.sound;
          indexed = record {
            lent = d.indexed.lent;
            apart = d.indexed.apart;
            chains = rw e (λ p. chains_same (index_words (room s) (length work)) (rows_of s c) work (set work at w)
                (omega (arith, rows_of_count s c, index_room (room s) (length work) d.indexed.lent.small p, d.indexed.lent.used)) (λ i l. get_or-set_other work at i w 0 (λ z. omega arith)) (d.indexed.chains p));
          };
          words = rw e (words_set at h b);
        }

    pub live_written : (at : ℕ) → Place (room s) (length work) at → Live N c s (set work at (key_of op f g * 65536 + k))
    live_written at p = go (ltb at (length work)) refl
      where
        go : (t : Bool) → ltb at (length work) ≡ t → Live N c s (set work at (key_of op f g * 65536 + k))
        go true e = let b = p.inside (ltb-true at (length work) e) in live_set at b.0 b.1
        go false e = rw (set_nowhere work at (key_of op f g * 65536 + k) (ltb-false at (length work) e)) d

-- nothing behind the memory changes by a write
pub behind_written : (R : ℕ) (work : List ℕ) (at w : ℕ) → Place R (length work) at → Behind R work (set work at w)
behind_written R work at w p = go (ltb at (length work)) refl
  where
    go : (t : Bool) → ltb at (length work) ≡ t → Behind R work (set work at w)
    go true e = record { same_length = length-set work at w; rest = drop-set-lt (reach R (length work)) work at w (p.inside (ltb-true at (length work) e)).1 }
    go false e = rw (set_nowhere work at w (ltb-false at (length work) e)) (record { same_length = refl; rest = refl })

pub behind_front : {R : ℕ} {work work' : List ℕ} → Front R work work' → Behind R work work'
behind_front {R} {work} {work'} f = record {
  same_length = f.same_length;
  rest = behind_more (reach R (length work)) (index_words R (length work)) work work' (reach_after R (length work)) f.rest;
}

pub behind_refl : (R : ℕ) (work : List ℕ) → Behind R work work
behind_refl R work = record { same_length = refl; rest = refl }

pub behind_trans : {R : ℕ} {work work' work'' : List ℕ} → Behind R work work' → Behind R work' work'' → Behind R work work''
behind_trans p q = record { same_length = q.same_length ∙ p.same_length; rest = (rw p.same_length at q.rest) ∙ p.rest }

-- after Make: the memory stands as the rows grow
pub live_grows : {N : ℕ} {m : Steps} {k : Row} {c n : ℕ} {s s' : Slices} {work work' : List ℕ} → Live N c s work → Entered m (At k n) c s s' work work'
    → rows_of s c ≼ rows_of s' n → Sound N (rows_of s' n) → Live N n s' work'
live_grows {N} {m} {k} {c} {n} {s} {s'} {work} {work'} d e g w = record {
  sound = w;
  indexed = e.index;
  words = rw (e.taken.vars, e.front.same_length) (record {
    each = λ i op x y l b p p' lx ly q.
        let v : get_or work' i 0 ≡ get_or work i 0 = behind_word (index_words (room s) (length work)) work work' e.front.rest i l in
        rw v (remembered_grows N (rows_of s c) (rows_of s' n) op x y _ d.sound p p' g (d.words.each i op x y l b p p' lx ly (sym (ap (λ (z : ℕ). z / 65536) v) ∙ q)));
  });
}
