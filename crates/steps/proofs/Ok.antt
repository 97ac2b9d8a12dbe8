-- What a piece of the written steps does, and how pieces are put together.
use Prim.Native.Nat.{ℕ, zero, suc, ◌<◌, ◌≤◌}
use mathlib.Core.Path.{◌≡◌, refl, sym, ◌∙◌}
use mathlib.Core.Bool.{Bool, true, false, ◌&&◌, xor}
use native.Mathlib.Omega.{arith}
use lib.Dec.{eqb}
use borrow.Author.Tests.{eqb-true, eqb-false, ne_eqb, lt-ltb}
use Rattle.steps.specs.Rows.{Row, Rows, none, ◌▹◌, next, Assignment, value, find, row, row_of}
use Rattle.steps.specs.Sound.{Sound}
use Rattle.steps.specs.Steps.{Steps, answer, ◌>>=◌, make}
use Rattle.steps.proofs.Bools.{and_false, xor_false}
use Rattle.steps.proofs.Found.{find_keeps, find_newest, found}
use Rattle.steps.proofs.Rows.{◌≼◌, stop, more, ≼_trans, next_grows, value_0, value_keeps, value_newest, row_keeps, row_newest, node}

next_suc : (R : Rows) → (k : ℕ) × (next R ≡ suc k)
unfolding next
next_suc none = (1, refl)
next_suc (R ▹ r) = (next R, refl)

-- the number k stands for the function p in the rows R, and its root is `low` or beyond
pub record Is (N : ℕ) (R : Rows) (low : ℕ) (p : Assignment → Bool) (k : ℕ) : Type 0 where
  pub used : k < next R
  pub above : low ≤ (row N R k).var
  pub means : (a : Assignment) → value a R k ≡ p a

-- the steps m, run on R, only append, keep the table sound, answer a number that stands for p;
-- run again on whatever begins with the rows that they left, they answer the same and append nothing; and m' does on R what m does
pub record Ok (N : ℕ) (m m' : Steps) (R : Rows) (low : ℕ) (p : Assignment → Bool) : Type 0 where
  pub num : ℕ
  pub rows : Rows
  pub runs : m R ≡ answer num rows
  pub twin : m' R ≡ answer num rows
  pub keeps : R ≼ rows
  pub sound : Sound N rows
  pub is : Is N rows low p num
  pub again : (S : Rows) → rows ≼ S → m S ≡ answer num S

module _ (N : ℕ) where
  pub is_keeps : {R S : Rows} → R ≼ S → {low k : ℕ} {p : Assignment → Bool} → Is N R low p k → Is N S low p k
  is_keeps q {low} {k} i = record {
    used = let u = i.used in let g = next_grows q in omega arith;
    above = rw (row_keeps N q k i.used) i.above;
    means = λ a. value_keeps q a k i.used ∙ i.means a;
  }

  pub is_as : {R : Rows} {low low' k : ℕ} {p p' : Assignment → Bool} → low' ≤ low → ((a : Assignment) → p a ≡ p' a) → Is N R low p k → Is N R low' p' k
  is_as h e i = record { used = i.used; above = let g = i.above in omega arith; means = λ a. i.means a ∙ e a }

  pub ok_as : {m m' : Steps} {R : Rows} {low low' : ℕ} {p p' : Assignment → Bool} → low' ≤ low → ((a : Assignment) → p a ≡ p' a) → Ok N m m' R low p → Ok N m m' R low' p'
  ok_as h e o = record { num = o.num; rows = o.rows; runs = o.runs; twin = o.twin; keeps = o.keeps; sound = o.sound; is = is_as h e o.is; again = o.again }

  pub ok_answer : {R : Rows} {low k : ℕ} {p : Assignment → Bool} → Sound N R → Is N R low p k → Ok N (answer k) (answer k) R low p
  ok_answer {R} {k = k} s i = record { num = k; rows = R; runs = refl; twin = refl; keeps = stop; sound = s; is = i; again = λ S h. refl }

  -- steps that do the same on R and on all that begins with it
  pub ok_by : {m m' n n' : Steps} {R : Rows} {low : ℕ} {p : Assignment → Bool} → ((S : Rows) → R ≼ S → m S ≡ n S) → ((S : Rows) → R ≼ S → m' S ≡ n' S)
      → Ok N n n' R low p → Ok N m m' R low p
  ok_by {R = R} e e' o = record {
    num = o.num;
    rows = o.rows;
    keeps = o.keeps;
    sound = o.sound;
    is = o.is;
    runs = e R stop ∙ o.runs;
    twin = e' R stop ∙ o.twin;
    again = λ S h. e S (≼_trans o.keeps h) ∙ o.again S h;
  }

  pub ok_bind : {m m' : Steps} {f f' : ℕ → Steps} {R : Rows} {low low' : ℕ} {p p' : Assignment → Bool} → Ok N m m' R low p
      → ((x : ℕ) (S : Rows) → R ≼ S → Sound N S → Is N S low p x → Ok N (f x) (f' x) S low' p') → Ok N (m >>= f) (m' >>= f') R low' p'
  ok_bind {m} {m'} {f} {f'} {R} {low' = low'} {p' = p'} o go_on = go (go_on o.num o.rows o.keeps o.sound o.is)
    where
      go : Ok N (f o.num) (f' o.num) o.rows low' p' → Ok N (m >>= f) (m' >>= f') R low' p'
      go b = record {
        num = b.num;
        rows = b.rows;
        sound = b.sound;
        is = b.is;
        keeps = ≼_trans o.keeps b.keeps;
        runs = rw o.runs b.runs;
        twin = rw o.twin b.twin;
        again = λ S h. rw (o.again S (≼_trans b.keeps h)) (b.again S h);
      }

  pub make_0 : (v e : ℕ) (S : Rows) → make v 0 e S ≡ answer e S
  unfolding make
  make_0 v e S = refl

  pub make_found : (v t e k : ℕ) (S : Rows) → (t ≡ 0 → ⊥) → find S (row_of v t e) ≡ suc k → make v t e S ≡ answer (suc k) S
  unfolding make
  make_found v t e k S h q = rw (ne_eqb t 0 h, q, lt-ltb 0 (suc k) (omega arith), make)

  pub make_new : (v t e : ℕ) (S : Rows) → (t ≡ 0 → ⊥) → find S (row_of v t e) ≡ 0 → make v t e S ≡ answer (next S) (S ▹ row_of v t e)
  unfolding make
  make_new v t e S h q = rw (ne_eqb t 0 h, q, make)

  pub ok_make : {R : Rows} {v t e : ℕ} {p q : Assignment → Bool} → Sound N R → v < N → Is N R (suc v) p t → Is N R (suc v) q e
      → Ok N (make v t e) (make v t e) R v (λ a. xor (a v && p a) (q a))
  unfolding Sound next
  ok_make {R} {v} {t} {e} {p} {q} s below it ie = go (eqb t 0) refl
    where
      r : Row
      r = row_of v t e

      Goal : Type 0
      Goal = Ok N (make v t e) (make v t e) R v (λ a. xor (a v && p a) (q a))

      meant : (a : Assignment) → xor (a v && value a R t) (value a R e) ≡ xor (a v && p a) (q a)
      meant a = rw (it.means a, ie.means a)

      known : (t ≡ 0 → ⊥) → (k : ℕ) → find R r ≡ suc k → Goal
      known h k f =
          let F = found N R r k f in
          ok_by (λ S g. make_found v t e k S h (find_keeps g r f)) (λ S g. make_found v t e k S h (find_keeps g r f)) (ok_answer s (record {
            used = F.used;
            above = rw F.is (omega arith);
            means = λ a. (rw F.is at ((node N R s (suc k) F.used F.inner).cut.splits a)) ∙ meant a;
          }))

      fresh : (t ≡ 0 → ⊥) → find R r ≡ 0 → Goal
      fresh h f =
          let (k, z) = next_suc R in
          record {
            num = next R;
            rows = R ▹ r;
            runs = make_new v t e R h f;
            twin = make_new v t e R h f;
            keeps = more stop;
            sound = (
              s,
              record {
                var_below = below;
                then_used = it.used;
                else_used = ie.used;
                then_not_0 = h;
                then_above = it.above;
                else_above = ie.above;
                new = f;
              },
            );
            is = record {
              used = omega arith;
              above = rw (row_newest N R r) (omega arith);
              means = λ a. value_newest a R r ∙ meant a;
            };
            again = λ S g. rw z (make_found v t e k S h (find_keeps g r (find_newest R r f ∙ z)));
          }

      new? : (t ≡ 0 → ⊥) → (n : ℕ) → find R r ≡ n → Goal
      new? h zero f = fresh h f
      new? h (suc k) f = known h k f

      go : (b : Bool) → eqb t 0 ≡ b → Goal
      go true z =
          let t0 = eqb-true t 0 z in
          ok_by (λ S g. rw t0 (make_0 v e S)) (λ S g. rw t0 (make_0 v e S)) (ok_answer s (is_as (omega arith) (λ a.
          sym (rw (sym (it.means a), t0, value_0 a R, and_false (a v), xor_false (q a)))) ie))
      go false z = new? (eqb-false t 0 z) (find R r) refl
