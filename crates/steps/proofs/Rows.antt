-- Facts on rows: what an appended row leaves as it was.
use Prim.Native.Nat.{ℕ, ◌+◌, ◌<◌, ◌≤◌}
use mathlib.Core.Path.{◌≡◌, refl, ◌∙◌}
use mathlib.Core.Bool.{Bool, true, false, ◌&&◌, xor}
use native.Mathlib.Omega.{arith}
use lib.Dec.{eqb}
use borrow.Author.Tests.{eqb-true, eqb-false, eq-eqb, ne_eqb}
use Rattle.steps.specs.Rows.{Row, row_of, Rows, none, ◌▹◌, count, next, Assignment, value, row}
use Rattle.steps.specs.Sound.{Fits, Sound}

-- R is a beginning of S
infix 40 ◌≼◌
pub data ◌≼◌ (R : Rows) : Rows → Type 0 where
  stop : R ≼ R
  more : {S : Rows} {r : Row} → R ≼ S → R ≼ (S ▹ r)

pub ≼_trans : {R S T : Rows} → R ≼ S → S ≼ T → R ≼ T
≼_trans p stop = p
≼_trans p (more q) = more (≼_trans p q)

pub next_grows : {R S : Rows} → R ≼ S → next R ≤ next S
unfolding next
next_grows stop = omega arith
next_grows (more q) = let h = next_grows q in omega arith

-- the next number is two more than the count
pub next_count : (R : Rows) → next R ≡ count R + 2
unfolding next count
next_count none = refl
next_count (R ▹ r) = let h = next_count R in omega arith

pub count_grows : {R S : Rows} → R ≼ S → count R ≤ count S
count_grows {R} {S} q = omega (arith, next_grows q, next_count R, next_count S)

pub next_2 : (R : Rows) → 2 ≤ next R
unfolding next
next_2 none = omega arith
next_2 (R ▹ r) = let h = next_2 R in omega arith

-- a number is below the next one if it is the newest row's or it was in use before
pub data Newest (R : Rows) (k : ℕ) : Type 0 where
  newest : k ≡ next R → Newest R k
  older : k < next R → Newest R k

pub newest? : (R : Rows) (r : Row) (k : ℕ) → k < next (R ▹ r) → Newest R k
unfolding next
newest? R r k h = go (eqb k (next R)) refl
  where
    go : (b : Bool) → eqb k (next R) ≡ b → Newest R k
    go true e = newest (eqb-true k (next R) e)
    go false e = older (let q : k ≡ next R → ⊥ = eqb-false k (next R) e in omega arith)

pub value_older : (a : Assignment) (R : Rows) (r : Row) (k : ℕ) → k < next R → value a (R ▹ r) k ≡ value a R k
unfolding value
value_older a R r k h = rw (ne_eqb k (next R) (λ q. omega arith), value)

pub value_newest : (a : Assignment) (R : Rows) (r : Row) → value a (R ▹ r) (next R) ≡ xor (a r.var && value a R r.then_part) (value a R r.else_part)
unfolding value
value_newest a R r = rw (eq-eqb (next R) (next R) refl, value)

pub value_keeps : {R S : Rows} → R ≼ S → (a : Assignment) (k : ℕ) → k < next R → value a S k ≡ value a R k
value_keeps stop a k h = refl
value_keeps (more {S} {r} q) a k h = let g = next_grows q in value_older a S r k (omega arith) ∙ value_keeps q a k h

module _ (N : ℕ) where
  pub row_older : (R : Rows) (r : Row) (k : ℕ) → k < next R → row N (R ▹ r) k ≡ row N R k
  unfolding row
  row_older R r k h = rw (ne_eqb k (next R) (λ q. omega arith), row)

  pub row_newest : (R : Rows) (r : Row) → row N (R ▹ r) (next R) ≡ r
  unfolding row
  row_newest R r = rw (eq-eqb (next R) (next R) refl, row)

  pub row_keeps : {R S : Rows} → R ≼ S → (k : ℕ) → k < next R → row N S k ≡ row N R k
  row_keeps stop k h = refl
  row_keeps (more {S} {r} q) k h = let g = next_grows q in row_older S r k (omega arith) ∙ row_keeps q k h

  pub row_const : (R : Rows) (k : ℕ) → k < 2 → row N R k ≡ row_of N 0 k
  unfolding row
  row_const none k h = refl
  row_const (R ▹ r) k h = let g = next_2 R in row_older R r k (omega arith) ∙ row_const R k h

pub value_0 : (a : Assignment) (R : Rows) → value a R 0 ≡ false
unfolding value
value_0 a none = refl
value_0 a (R ▹ r) = let g = next_2 R in value_older a R r 0 (omega arith) ∙ value_0 a R

pub value_1 : (a : Assignment) (R : Rows) → value a R 1 ≡ true
unfolding value
value_1 a none = refl
value_1 a (R ▹ r) = let g = next_2 R in value_older a R r 1 (omega arith) ∙ value_1 a R

-- k is x_v·h + l, and h and l have roots beyond x_v
pub record Cut (N : ℕ) (R : Rows) (v k h l : ℕ) : Type 0 where
  pub then_used : h < next R
  pub else_used : l < next R
  pub then_above : v < (row N R h).var
  pub else_above : v < (row N R l).var
  pub splits : (a : Assignment) → value a R k ≡ xor (a v && value a R h) (value a R l)

module _ (N : ℕ) where
  -- a row that is no constant
  pub record Node (R : Rows) (k : ℕ) : Type 0 where
    pub inner : 2 ≤ k
    pub var_below : (row N R k).var < N
    pub then_not_0 : (row N R k).then_part ≡ 0 → ⊥
    pub cut : Cut N R (row N R k).var k (row N R k).then_part (row N R k).else_part

  cut_more : {R : Rows} (r : Row) {v k h l : ℕ} → k < next R → Cut N R v k h l → Cut N (R ▹ r) v k h l
  unfolding next
  cut_more {R} r {v} {k} {h} {l} u c = record {
    then_used = omega arith;
    else_used = omega arith;
    then_above = rw (row_older N R r h c.then_used) c.then_above;
    else_above = rw (row_older N R r l c.else_used) c.else_above;
    splits = λ a. rw (value_older a R r k u, value_older a R r h c.then_used, value_older a R r l c.else_used) (c.splits a);
  }

  node_more : {R : Rows} (r : Row) {k : ℕ} → k < next R → Node R k → Node (R ▹ r) k
  node_more {R} r {k} u n = record {
    inner = n.inner;
    var_below = rw (row_older N R r k u) n.var_below;
    then_not_0 = rw (row_older N R r k u) n.then_not_0;
    cut = rw (row_older N R r k u) (cut_more r u n.cut);
  }

  node_newest : {R : Rows} {r : Row} → Fits N R r → Node (R ▹ r) (next R)
  unfolding next
  node_newest {R} {r} c = rec
    where
      e : row N (R ▹ r) (next R) ≡ r
      e = row_newest N R r

      rec : Node (R ▹ r) (next R)
      rec = record {
        inner = next_2 R;
        var_below = rw e c.var_below;
        then_not_0 = rw e c.then_not_0;
        cut = rw e (record {
          then_used = omega arith;
          else_used = omega arith;
          then_above = rw (row_older N R r r.then_part c.then_used) c.then_above;
          else_above = rw (row_older N R r r.else_part c.else_used) c.else_above;
          splits = λ a. rw (value_older a R r r.then_part c.then_used, value_older a R r r.else_part c.else_used) (value_newest a R r);
        });
      }

  node_in : {R : Rows} {r : Row} {k : ℕ} → Fits N R r → (k < next R → Node R k) → Newest R k → Node (R ▹ r) k
  node_in c old (newest e) = rw e (node_newest c)
  node_in {R} {r} c old (older u) = node_more r u (old u)

  pub node : (R : Rows) → Sound N R → (k : ℕ) → k < next R → 2 ≤ k → Node R k
  unfolding Sound next
  node none s k h g = absurd (omega arith)
  node (R ▹ r) s k h g = node_in s.1 (λ u. node R s.0 k u g) (newest? R r k h)
